-- The numbers stay when a cookie is given back.
use Rattle.meta_server.proofs.Kept.{kept_files}
use Rattle.meta_server.proofs.meta.Meta.confirm.Goals as goal

pub invariant_of-self : goal.invariant_of-self
invariant_of-self c = kept_files c.self.invariant c.free.new.self (c.free.ensures.below c.self.inside.next_file c.self.invariant.below)
