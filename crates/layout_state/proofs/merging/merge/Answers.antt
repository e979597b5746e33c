-- The victim's mirrors have room, and the layout with them is valid.
use Rattle.std.proofs.Common.{max, List, length, filter, ap, subst, ◌∙◌, arith}
use Rattle.composite_layout.specs.declared.component.Component.{Component}
use Rattle.composite_layout.specs.Layouts.{Composite, IsValid}
use Rattle.composite_layout.specs.LookUps.{begins_mirror}
use Rattle.composite_layout.proofs.Steps.{length_ids}
use Rattle.layout_state.proofs.AppendLaws.{begun}
use Rattle.layout_state.proofs.TakenLaws.{length_run}
use Rattle.layout_state.proofs.MergeLaws.{taken_fit, merged_is, merge_is}
use Rattle.layout_state.proofs.merging.merge.Goals as goal

pub ids_from-requires : goal.ids_from-requires
ids_from-requires c =
    taken_fit c.args.layout.now c.args.victim (subst IsValid c.layout.view_is c.layout.invariant) (subst IsValid c.victim.view_is c.victim.invariant) _ _ _ _ _
    c.count_mirrors-mirrors.ensures.count
    c.len-components.ensures.count
    (ap (λ (l : Composite). l.next_mirror) c.layout.view_is)
    c.excess.ensures
    c.in_default.is

pub overflow_sub-next_mirror : goal.overflow_sub-next_mirror
overflow_sub-next_mirror c = let first = begun _ c.layout.invariant in omega (arith, first)

pub renumber_all-requires-clause-ids : goal.renumber_all-requires-clause-ids
renumber_all-requires-clause-ids c =
    let fit = taken_fit c.args.layout.now c.args.victim (subst IsValid c.layout.view_is c.layout.invariant) (subst IsValid c.victim.view_is c.victim.invariant) _ _ _ _ _
    c.count_mirrors-mirrors.ensures.count
    c.len-components.ensures.count
    (ap (λ (l : Composite). l.next_mirror) c.layout.view_is)
    c.excess.ensures
    c.in_default.is in
    let first = begun _ c.layout.invariant in
    let count = c.count_mirrors-mirrors.ensures.count in
    let ids = length_ids c.args.victim.components in
    let same = ap (λ (cs : List Component). length (filter begins_mirror cs)) (ap (λ (l : Composite). l.components) c.victim.view_is) in
    omega (arith, fit, first, count, ids, same)

pub invariant_of-layout-2 : goal.invariant_of-layout-2
invariant_of-layout-2 c =
    merged_is c.args.layout.now c.args.victim (subst IsValid c.layout.view_is c.layout.invariant) (subst IsValid c.victim.view_is c.victim.invariant) c.args.most _ _ _ _ _ _ _ _ _ _
    c.requires.most.1
    (ap (λ (l : Composite). l.next_mirror) c.layout.view_is)
    (ap (λ (l : Composite). l.next_counter) c.layout.view_is)
    c.count_mirrors-mirrors.ensures.count
    c.len-components.ensures.count
    c.excess.ensures
    c.in_default.is
    (c.reserve.ensures.items ∙ ap (λ (l : Composite). l.components) c.layout.view_is)
    (ap (λ (l : Composite). l.components) c.victim.view_is)
    c.renumber_all.ensures
    c.append_reserved.ensures

pub returns-clause-merged : goal.returns-clause-merged
returns-clause-merged c =
    merge_is c.args.layout.now c.args.victim (subst IsValid c.layout.view_is c.layout.invariant) (subst IsValid c.victim.view_is c.victim.invariant) _ _ _ _ _ _ _ _ _
    (c.max.ensures ∙ ap (λ (l : Composite). max l.generation c.victim.inside.generation) c.layout.view_is ∙ ap (λ (d : Composite). max c.args.layout.now.generation d.generation) c.victim.view_is)
    (ap (λ (l : Composite). l.next_mirror) c.layout.view_is)
    (ap (λ (l : Composite). l.next_counter) c.layout.view_is)
    c.count_mirrors-mirrors.ensures.count
    c.len-components.ensures.count
    (c.reserve.ensures.items ∙ ap (λ (l : Composite). l.components) c.layout.view_is)
    (ap (λ (l : Composite). l.components) c.victim.view_is)
    c.renumber_all.ensures
    c.append_reserved.ensures

pub append_reserved-requires : goal.append_reserved-requires
append_reserved-requires c =
    let room = c.in-Ok-reserve.ensures.ok in
    let size = ap (λ (cs : List Component). length cs) c.renumber_all.ensures ∙ length_run _ _ c.victim.inside.components.items in
    let count = c.len-components.ensures.count in
    let same = ap (λ (l : Composite). length l.components) c.victim.view_is in
    record { room = omega (arith, room, size, count, same) }
