-- By the induction over runs.
use Rattle.flr_past.proofs.Runs.{entries_have_clients, runs_are_in_order}
use Rattle.flr_past.proofs.laws.entries_are_in_order.Goals as goal

pub returns-clause-order : goal.returns-clause-order
returns-clause-order c = runs_are_in_order

pub returns-clause-clients : goal.returns-clause-clients
returns-clause-clients c = entries_have_clients
