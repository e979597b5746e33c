-- By the induction over runs.
use Rattle.flr_past.proofs.Runs.{closing_is_of_one, fixed_is_open_last, fixes_with_none_open, last_steps_end_one, one_is_open, only_last_is_open, others_stay_open}
use Rattle.flr_past.proofs.laws.one_call_is_open.Goals as goal

pub returns-clause-last : goal.returns-clause-last
returns-clause-last c = only_last_is_open

pub returns-clause-one : goal.returns-clause-one
returns-clause-one c = one_is_open

pub returns-clause-none : goal.returns-clause-none
returns-clause-none c = fixes_with_none_open

pub returns-clause-behind : goal.returns-clause-behind
returns-clause-behind c = fixed_is_open_last

pub returns-clause-ends : goal.returns-clause-ends
returns-clause-ends c = last_steps_end_one

pub returns-clause-only : goal.returns-clause-only
returns-clause-only c = closing_is_of_one

pub returns-clause-others : goal.returns-clause-others
returns-clause-others c = others_stay_open
