-- The numbers stay when a lock is shared.
use Rattle.meta_server.proofs.Kept.{kept_files}
use Rattle.meta_server.proofs.meta.Meta.share.Goals as goal

pub invariant_of-self : goal.invariant_of-self
invariant_of-self c = kept_files c.self.invariant c.share.new.self (c.share.ensures.below c.self.inside.next_file c.self.invariant.below)
