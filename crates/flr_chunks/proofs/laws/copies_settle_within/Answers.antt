-- Copies that settle have few chunks.
use Rattle.flr_chunks.proofs.Runs.{runs_settle}
use Rattle.flr_chunks.proofs.laws.copies_settle_within.Goals as goal

pub returns : goal.returns
returns c = record { runs = runs_settle }
