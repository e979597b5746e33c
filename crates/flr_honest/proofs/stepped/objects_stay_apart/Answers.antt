-- The law, of every run.
use Rattle.flr_honest.proofs.Changes.Objects.{objects_stay_apart}
use Rattle.flr_honest.proofs.stepped.objects_stay_apart.Goals as goal

pub returns : goal.returns
returns c = record { apart = objects_stay_apart }
