-- A mirror that is there has every byte below EOF.
use Rattle.std.proofs.Common.{◌≡◌, List, ap, subst, ◌∙◌}
use Rattle.std.specs.Prelude.{position}
use Rattle.composite_layout.specs.declared.component.Component.{Component}
use Rattle.composite_layout.specs.Layouts.{Composite, IsValid}
use Rattle.composite_layout.specs.LookUps.{covers}
use Rattle.composite_layout.proofs.Tiling.{covered}
use Rattle.composite_layout.proofs.layout.Layout.covering.Goals as goal

pub returns-clause-there : goal.returns-clause-there
returns-clause-there c = λ h lt.
    let same : c.deref.result.now ≡ c.args.self.now.components = c.deref.ensures.value ∙ ap (λ (l : Composite). l.components) c.self.view_is in
    rw (c.place_covering.ensures ∙ ap (λ (cs : List Component). position (covers c.args.mirror c.args.byte) cs) same) (covered c.args.self.now (subst IsValid c.self.view_is c.self.invariant) c.args.mirror c.args.byte h lt)
