-- Each call, by what it leaves.
use Rattle.meta_growth.proofs.Calls.{call_grows}
use Rattle.meta_growth.proofs.growth.calls_grow_by_little.Goals as goal

pub returns : goal.returns
returns c = record { grow = call_grows }
