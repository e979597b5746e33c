-- Broken keys have their places.
use Rattle.flr_places.proofs.Keeping.{step_places}
use Rattle.flr_places.proofs.Runs.{runs_place, start_places}
use Rattle.flr_places.proofs.laws.broken_keys_have_their_places.Goals as goal

pub returns-clause-start : goal.returns-clause-start
returns-clause-start c = start_places

pub returns-clause-steps : goal.returns-clause-steps
returns-clause-steps c = step_places

pub returns-clause-runs : goal.returns-clause-runs
returns-clause-runs c = runs_place
