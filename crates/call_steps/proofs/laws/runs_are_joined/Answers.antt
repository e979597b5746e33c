use Rattle.std.proofs.Common.{Some}
use Rattle.call_steps.proofs.RunLaws.{split, joined}
use Rattle.call_steps.proofs.laws.runs_are_joined.Goals as goal

pub returns : goal.returns
returns g c = record { joined = λ step call front rest. (λ run. split step front rest (Some call) 0 run, λ h. joined step front rest (Some call) 0 h) }
