use Rattle.std.proofs.Common.{◌≡◌, take}
use Rattle.flr_base.specs.Runs.{bytes_of}
use Rattle.flr_base.proofs.runs.reading.expand.Given as goal

abbrev pub invariant-loop-run : goal.invariant-loop-run
invariant-loop-run l = l.bytes.items ≡ bytes_of (take l.run-index l.runs)
