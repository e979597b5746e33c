-- Each answer says what was left.
use Rattle.meta_server.specs.declared.answers.Begun.{Begun}
use Rattle.meta_server.specs.declared.answers.Opened.{Opened}
use Rattle.meta_laws.proofs.Leaving.{ending_left, merge_left, outcome_left}
use Rattle.meta_laws.proofs.outcomes.calls_leave_their_outcomes.Goals as goal

pub returns-clause-opens : goal.returns-clause-opens
returns-clause-opens c = outcome_left Opened

pub returns-clause-begins : goal.returns-clause-begins
returns-clause-begins c = outcome_left Begun

pub returns-clause-commands : goal.returns-clause-commands
returns-clause-commands c = outcome_left (Unit {0})

pub returns-clause-ends : goal.returns-clause-ends
returns-clause-ends c = ending_left

pub returns-clause-merges : goal.returns-clause-merges
returns-clause-merges c = merge_left
