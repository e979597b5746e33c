-- The numbers of files stay.
use Rattle.meta_server.proofs.Kept.{kept_files}
use Rattle.meta_server.proofs.meta.Meta.extend_alone.Goals as goal

pub invariant_of-self : goal.invariant_of-self
invariant_of-self c = kept_files c.self.invariant c.put_layout.new.self (c.put_layout.ensures.below c.self.inside.next_file c.self.invariant.below)
