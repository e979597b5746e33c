-- The sorted ids are the ids in order.
use Rattle.std.proofs.Common.{◌≡◌, ℕ, List, filter, map, ap, ◌∙◌}
use Rattle.std.proofs.lemmas.List.Sorted.{IsNonDecreasingBy-from_sort}
use Rattle.composite_layout.specs.declared.component.Component.{Component}
use Rattle.layout_state.specs.Selecting.{in_order}
use Rattle.layout_state.proofs.SelectLaws.{sorted_in_order}
use Rattle.resync_copy.specs.Comparing.{compared_ids, is_compared}
use Rattle.resync_copy.proofs.lists.compared_in.Goals as goal

pub returns : goal.returns
returns c =
    let e : c.deref.result.now ≡ compared_ids c.args.layout.now.components =
    c.deref.ensures.value ∙ sorted_in_order _ _ c.sort.ensures.permutation (IsNonDecreasingBy-from_sort (λ (n : ℕ). n) _ c.in_ok-sort.ensures.sorted)
    ∙ ap in_order c.in_ok-ids.ensures ∙ ap (λ (cs : List Component). in_order (map (λ (d : Component). d.id) (filter is_compared cs))) c.components.ensures.same in
    rw (← e) c.objects_in.ensures
