-- Each part lies in the only fresh component.
use Rattle.flr_sole.proofs.Runs.{only_one, runs_hold_alone}
use Rattle.flr_sole.proofs.laws.parts_lie_alone.Goals as goal

pub returns-clause-holder : goal.returns-clause-holder
returns-clause-holder c = runs_hold_alone

pub returns-clause-one : goal.returns-clause-one
returns-clause-one c = only_one
