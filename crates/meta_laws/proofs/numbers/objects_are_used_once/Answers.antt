-- Each call keeps each object at one place.
use Rattle.meta_laws.proofs.Single.{call_once, new_once, run_once}
use Rattle.meta_laws.proofs.numbers.objects_are_used_once.Goals as goal

pub returns-clause-new : goal.returns-clause-new
returns-clause-new c = new_once

pub returns-clause-calls : goal.returns-clause-calls
returns-clause-calls c = call_once

pub returns-clause-runs : goal.returns-clause-runs
returns-clause-runs c = run_once
