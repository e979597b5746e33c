use Rattle.std.proofs.Common.{◌≡◌, ◌+◌, drop}
use Rattle.mirror_verify.specs.Blocks.{holes_first}
use Rattle.mirror_verify.proofs.found.holes_first.Given as goal

abbrev pub invariant-loop-place : goal.invariant-loop-place
invariant-loop-place l = holes_first l.copies ≡ l.place + holes_first (drop l.place l.copies)
