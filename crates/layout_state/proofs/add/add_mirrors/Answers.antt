-- The new mirrors have room, and the layout with them is valid.
use Rattle.std.proofs.Common.{ap, subst, ◌∙◌}
use Rattle.composite_layout.specs.Layouts.{Composite, IsValid}
use Rattle.composite_layout.specs.Making.{part_count}
use Rattle.layout_state.proofs.AppendLaws.{ids_fit, added_is}
use Rattle.layout_state.proofs.add.add_mirrors.Goals as goal

pub ids_from-requires : goal.ids_from-requires
ids_from-requires c =
    ids_fit c.args.layout.now (subst IsValid c.layout.view_is c.layout.invariant) c.args.spec.now _ _ _ c.args.most _
    c.mirrors.ensures.good
    c.mirrors.ensures.same
    (c.count_parts-parts.ensures ∙ ap part_count c.mirrors-2.ensures.same)
    c.next_mirror-next_mirror.ensures.same
    c.excess.ensures
    c.in_default.is

pub new_mirrors-requires-clause-ids : goal.new_mirrors-requires-clause-ids
new_mirrors-requires-clause-ids c =
    let fits = ids_fit c.args.layout.now (subst IsValid c.layout.view_is c.layout.invariant) c.args.spec.now _ _ _ c.args.most _
    c.mirrors.ensures.good
    c.mirrors.ensures.same
    (c.count_parts-parts.ensures ∙ ap part_count c.mirrors-2.ensures.same)
    c.next_mirror-next_mirror.ensures.same
    c.excess.ensures
    c.in_default.is in
    rw c.mirrors.ensures.same at fits

pub invariant_of-layout-2 : goal.invariant_of-layout-2
invariant_of-layout-2 c =
    added_is c.args.layout.now (subst IsValid c.layout.view_is c.layout.invariant) c.args.targets c.args.most _ _ _ _ _ _ c.args.spec.now _ _ _ _ _
    c.requires.targets.0
    c.requires.targets.1
    c.requires.most.1
    c.mirrors.ensures.good
    c.mirrors.ensures.same
    (c.count_parts-parts.ensures ∙ ap part_count c.mirrors-2.ensures.same)
    c.next_mirror-next_mirror.ensures.same
    c.next_counter-next_counter.ensures.same
    c.unleased-generation.ensures.state
    c.added_state-layout-inside.ensures
    c.excess.ensures
    c.in_default.is
    (ap (λ (l : Composite). l.components) c.layout.view_is)
    c.in_ok-made.ensures.made
    c.in_ok-append.ensures.items
