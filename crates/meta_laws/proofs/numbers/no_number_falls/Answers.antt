-- No call lets a next number fall.
use Rattle.meta_laws.proofs.Falling.{call_draws, run_draws}
use Rattle.meta_laws.proofs.numbers.no_number_falls.Goals as goal

pub returns-clause-calls : goal.returns-clause-calls
returns-clause-calls c = λ call m h. call_draws m h call

pub returns-clause-runs : goal.returns-clause-runs
returns-clause-runs c = run_draws
