-- A wholly fresh mirror alone is a valid layout.
use Rattle.std.proofs.Common.{ap, sym, ◌∙◌}
use Rattle.composite_layout.specs.Layouts.{Composite}
use Rattle.composite_layout.specs.LookUps.{wholly_fresh}
use Rattle.layout_state.proofs.LeaveLaws.{part_is}
use Rattle.layout_state.proofs.remove.part_of.Goals as goal

pub invariant_of-result : goal.invariant_of-result
invariant_of-result c =
    part_is _ c.layout.invariant c.args.mirror _ _ _
    (ap (λ (l : Composite). wholly_fresh c.args.mirror l.components) c.layout.view_is ∙ sym c.wholly_fresh.ensures.says ∙ c.if-not-wholly_fresh.false)
    c.deref.ensures.value
    c.in_ok-components.ensures
