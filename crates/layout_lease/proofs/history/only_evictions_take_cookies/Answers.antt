use Rattle.layout_lease.proofs.EventLaws.{held-shared}
use Rattle.layout_lease.proofs.history.only_evictions_take_cookies.Goals as goal

pub returns : goal.returns
returns c = record { taken = held-shared }
