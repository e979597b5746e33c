-- The sorted ids are the ids in order.
use Rattle.std.proofs.Common.{ℕ, ap, ◌∙◌}
use Rattle.std.proofs.lemmas.List.Sorted.{IsNonDecreasingBy-from_sort}
use Rattle.layout_state.specs.Selecting.{in_order}
use Rattle.layout_state.proofs.SelectLaws.{sorted_in_order}
use Rattle.layout_state.proofs.select.selected_ids.Goals as goal

pub returns : goal.returns
returns c = record { chosen = c.from_vec.ensures.same ∙ sorted_in_order _ _ c.sort.ensures.permutation (IsNonDecreasingBy-from_sort (λ (n : ℕ). n) _ c.in_ok-sort.ensures.sorted) ∙ ap in_order c.in_ok-ids.ensures.chosen }
