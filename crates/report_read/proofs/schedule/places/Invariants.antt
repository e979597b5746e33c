use Rattle.std.proofs.Common.{◌≡◌, take}
use Rattle.flr_base.specs.Runs.{bytes_of}
use Rattle.report_read.proofs.schedule.places.Given as goal

abbrev pub invariant-loop-run : goal.invariant-loop-run
invariant-loop-run l = l.places.items ≡ bytes_of (take l.run-index l.runs)
