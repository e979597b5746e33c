use Rattle.script_text.proofs.ScriptCauses.{script_cause}
use Rattle.script_text.proofs.laws.script_causes.Goals as goal

pub returns : goal.returns
returns c = record { causes = script_cause }
