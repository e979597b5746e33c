-- Layouts in hand agree.
use Rattle.flr_shapes.proofs.InHand.{runs_leave, start_has, step_leaves_one}
use Rattle.flr_shapes.proofs.laws.layouts_in_hand_agree.Goals as goal

pub returns-clause-start : goal.returns-clause-start
returns-clause-start c = start_has

pub returns-clause-steps : goal.returns-clause-steps
returns-clause-steps c = step_leaves_one

pub returns-clause-runs : goal.returns-clause-runs
returns-clause-runs c = runs_leave
