use Rattle.std.proofs.Common.{◌≡◌, ◌+◌, drop}
use Rattle.client_read.specs.Pieces.{holes_first}
use Rattle.client_read.proofs.got.holes_first.Given as goal

abbrev pub invariant-loop-place : goal.invariant-loop-place
invariant-loop-place l = holes_first l.pieces ≡ l.place + holes_first (drop l.place l.pieces)
