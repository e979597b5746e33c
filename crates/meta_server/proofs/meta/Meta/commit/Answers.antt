-- The numbers stay when a size rises.
use Rattle.meta_server.proofs.Kept.{kept_files}
use Rattle.meta_server.proofs.meta.Meta.commit.Goals as goal

pub invariant_of-self : goal.invariant_of-self
invariant_of-self c = kept_files c.self.invariant c.grow.new.self (c.grow.ensures.below c.self.inside.next_file c.self.invariant.below)
