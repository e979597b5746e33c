-- Calls have few pieces.
use Rattle.flr_pieces.proofs.Runs.{runs_few}
use Rattle.flr_pieces.proofs.laws.pieces_are_few.Goals as goal

pub returns : goal.returns
returns c = record { runs = runs_few }
