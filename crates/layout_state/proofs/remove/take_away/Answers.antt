-- What is left without the mirror is a valid layout.
use Rattle.std.proofs.Common.{List, length, filter, refl, ap, sym, ◌∙◌}
use Rattle.composite_layout.specs.declared.component.Component.{Component}
use Rattle.composite_layout.specs.Layouts.{Composite}
use Rattle.composite_layout.specs.LookUps.{begins_mirror}
use Rattle.layout_state.specs.Breaking.{unleased}
use Rattle.layout_state.specs.Mirroring.{keeping}
use Rattle.layout_state.proofs.LeaveLaws.{left_is}
use Rattle.layout_state.proofs.remove.take_away.Goals as goal

pub invariant_of-layout : goal.invariant_of-layout
invariant_of-layout c =
    left_is _ c.layout.invariant c.args.mirror _ _ _ _ c.layout.inside.components.items _
    (ap (λ (l : Composite). keeping c.args.mirror l.components) c.layout.view_is ∙ c.requires.kept)
    (c.unleased-generation.ensures.state ∙ ap (λ (l : Composite). (unleased l).state) (sym c.layout.view_is))
    refl
    c.retain_others.ensures
    (c.count_first.ensures ∙ ap (λ (xs : List Component). length (filter begins_mirror xs)) c.deref.ensures.value)
    c.left_state-layout-inside.ensures
