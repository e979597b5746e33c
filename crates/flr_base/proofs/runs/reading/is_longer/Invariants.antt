use Rattle.std.proofs.Common.{◌≡◌, ◌+◌, length, take}
use Rattle.flr_base.specs.Runs.{bytes_of}
use Rattle.flr_base.proofs.runs.reading.is_longer.Given as goal

abbrev pub invariant-loop-run : goal.invariant-loop-run
invariant-loop-run l = l.left + length (bytes_of (take l.run-index l.runs)) ≡ l.most
