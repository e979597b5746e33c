-- Every run is linear.
use Rattle.flr_honest.proofs.Legal.Runs.{runs_are_legal, runs_are_linear, runs_judge_all}
use Rattle.flr_honest.proofs.answers.calls_are_linear.Goals as goal

pub returns-clause-all : goal.returns-clause-all
returns-clause-all c = runs_judge_all

pub returns-clause-legal : goal.returns-clause-legal
returns-clause-legal c = runs_are_legal

pub returns-clause-linear : goal.returns-clause-linear
returns-clause-linear c = runs_are_linear
