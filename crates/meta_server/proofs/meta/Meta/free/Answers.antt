-- The numbers stay when a cookie is given back.
use Rattle.std.proofs.Common.{ap, sym, ◌∙◌}
use Rattle.meta_server.specs.Files.{MetaView, file_of, with_freed}
use Rattle.meta_server.proofs.Kept.{change_absent, kept_files}
use Rattle.meta_server.proofs.meta.Meta.free.Goals as goal

pub invariant_of-self : goal.invariant_of-self
invariant_of-self c = kept_files c.self.invariant c.free.new.self (c.free.ensures.below c.self.inside.next_file c.self.invariant.below)

pub returns-in-None : goal.returns-in-None
returns-in-None c =
    record { freed = change_absent c.args.file (with_freed c.args.cookie) c.args.self.now (ap (λ (m : MetaView). file_of c.args.file m.files) (sym c.self.view_is) ∙ sym c.in-None.ensures.found) }
