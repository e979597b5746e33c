-- Files have few mirrors.
use Rattle.flr_mirrors.proofs.Runs.{runs_few, runs_same}
use Rattle.flr_mirrors.proofs.laws.files_have_few_mirrors.Goals as goal

pub returns-clause-few : goal.returns-clause-few
returns-clause-few c = runs_few

pub returns-clause-same : goal.returns-clause-same
returns-clause-same c = runs_same
