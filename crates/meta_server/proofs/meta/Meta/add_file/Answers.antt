-- Without memory the files are as before.
use Rattle.std.proofs.Common.{sym, subst}
use Rattle.meta_server.specs.Files.{AreBelow}
use Rattle.meta_server.proofs.Kept.{kept_files}
use Rattle.meta_server.proofs.meta.Meta.add_file.Goals as goal

pub invariant_of-self : goal.invariant_of-self
invariant_of-self c =
    kept_files c.self.invariant c.push.new.self (subst (AreBelow c.self.inside.next_file) (sym c.in_err-push.ensures.unchanged) c.self.invariant.below)
