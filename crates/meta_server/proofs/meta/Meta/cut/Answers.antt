-- The numbers stay when a size changes.
use Rattle.meta_server.proofs.Kept.{kept_files}
use Rattle.meta_server.proofs.meta.Meta.cut.Goals as goal

pub invariant_of-self : goal.invariant_of-self
invariant_of-self c = kept_files c.self.invariant c.shorten.new.self (c.shorten.ensures.below c.self.inside.next_file c.self.invariant.below)
