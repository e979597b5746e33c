-- Reads and verifies have what they are to have.
use Rattle.flr_honest.proofs.Knowing.Keeping.{runs_have, start_has, steps_keep}
use Rattle.flr_honest.proofs.laws.calls_have_their_pieces.Goals as goal

pub returns-clause-start : goal.returns-clause-start
returns-clause-start c = start_has

pub returns-clause-steps : goal.returns-clause-steps
returns-clause-steps c = steps_keep

pub returns-clause-runs : goal.returns-clause-runs
returns-clause-runs c = runs_have
