use Rattle.std.proofs.Common.{Some}
use Rattle.call_steps.proofs.RunLaws.{ascend}
use Rattle.call_steps.proofs.laws.places_ascend.Goals as goal

pub returns : goal.returns
returns g c = record { ascend = λ step call steps run. ascend step steps (Some call) 0 run }
