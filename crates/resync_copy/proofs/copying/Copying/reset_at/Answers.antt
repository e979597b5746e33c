use Rattle.std.proofs.Common.{List, sym, subst}
use Rattle.call_steps.specs.Pieces.{IsNamed}
use Rattle.resync_copy.specs.declared.parts.CopyObject.{CopyObject}
use Rattle.resync_copy.specs.Copies.{object_at}
use Rattle.resync_copy.proofs.PartLaws.{named}
use Rattle.resync_copy.proofs.copying.Copying.reset_at.Goals as goal

pub returns-clause-named : goal.returns-clause-named
returns-clause-named c =
    subst (λ (os : List CopyObject). IsNamed c.args.self.now.side.layout.components (object_at os c.args.place).object) (sym c.resets.ensures.same)
    (named c.args.self.now.side.layout.components _ c.args.place _ c.requires)
