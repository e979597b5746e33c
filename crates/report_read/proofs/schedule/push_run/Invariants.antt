use Rattle.std.proofs.Common.{◌≡◌, ◌++◌, replicate}
use Rattle.report_read.proofs.schedule.push_run.Given as goal

abbrev pub invariant-loop : goal.invariant-loop
invariant-loop l = l.places.items ≡ l.fn.places.items ++ replicate l.counter l.run.byte
