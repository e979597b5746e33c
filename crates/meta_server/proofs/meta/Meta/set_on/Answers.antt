-- The numbers of files stay.
use Rattle.meta_server.proofs.Kept.{kept_files}
use Rattle.meta_server.proofs.meta.Meta.set_on.Goals as goal

pub invariant_of-self : goal.invariant_of-self
invariant_of-self c = kept_files c.self.invariant c.set_flags.new.self (c.set_flags.ensures.below c.self.inside.next_file c.self.invariant.below)
