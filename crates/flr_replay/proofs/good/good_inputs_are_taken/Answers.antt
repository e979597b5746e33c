use Rattle.flr_replay.proofs.Taken.{good_inputs_are_taken}
use Rattle.flr_replay.proofs.good.good_inputs_are_taken.Goals as goal

pub returns : goal.returns
returns c = record { taken = good_inputs_are_taken }
