-- The numbers stay when a client is evicted.
use Rattle.std.proofs.Common.{length-set}
use Rattle.meta_server.proofs.Kept.{kept_evictions, kept_files}
use Rattle.meta_server.proofs.meta.Meta.evict.Goals as goal

pub invariant_of-self : goal.invariant_of-self
invariant_of-self c =
    kept_evictions (kept_files c.self.invariant c.evict.new.self (c.evict.ensures.below c.self.inside.next_file c.self.invariant.below)) _ (length-set c.self.inside.evicted c.args.client c.args.step)
