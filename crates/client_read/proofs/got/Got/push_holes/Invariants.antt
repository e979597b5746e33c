use Rattle.std.proofs.Common.{◌≡◌, drop}
use Rattle.client_read.specs.Got.{Extends}
use Rattle.client_read.specs.Pieces.{with_holes}
use Rattle.client_read.proofs.got.Got.push_holes.Given as goal

abbrev pub invariant-loop-piece : goal.invariant-loop-piece
invariant-loop-piece l = record {
  holes : with_holes l.pieces l.initial.self ≡ with_holes (drop l.piece-index l.pieces) l.self;
  more : Extends l.initial.self l.self;
}
