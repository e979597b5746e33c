-- The law, of every run.
use Rattle.flr_honest.proofs.Changes.Files.{runs_change_their_files}
use Rattle.flr_honest.proofs.stepped.steps_change_their_files.Goals as goal

pub returns : goal.returns
returns c = record { files = runs_change_their_files }
