use Rattle.script_text.proofs.ReplayCauses.{replay_cause}
use Rattle.script_text.proofs.laws.replay_causes.Goals as goal

pub returns : goal.returns
returns c = record { causes = replay_cause }
