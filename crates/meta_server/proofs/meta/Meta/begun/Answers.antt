-- There are as many targets as before, and without components their numbers stay.
use Rattle.meta_server.proofs.Kept.{begin_none, begin_numbers}
use Rattle.meta_server.proofs.meta.Meta.begun.Goals as goal

pub returns-clause-as_many : goal.returns-clause-as_many
returns-clause-as_many c = begin_numbers c.in_ok-begin.ensures.begun

pub returns-clause-none : goal.returns-clause-none
returns-clause-none c = λ empty. begin_none c.in_ok-begin.ensures.begun empty
