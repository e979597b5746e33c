-- The numbers of files stay.
use Rattle.meta_server.proofs.Kept.{kept_files}
use Rattle.meta_server.proofs.meta.Meta.finish_copy.Goals as goal

pub invariant_of-self-2 : goal.invariant_of-self-2
invariant_of-self-2 c = kept_files c.self.invariant c.finish.new.self (c.finish.ensures.below c.self.inside.next_file c.self.invariant.below)
