use Rattle.std.proofs.Common.{◌≡◌, replicate, take}
use Rattle.report_text.proofs.schedules.times.Given as goal

abbrev pub invariant-loop-at : goal.invariant-loop-at
invariant-loop-at l = take l.at l.schedule ≡ replicate l.at l.client
