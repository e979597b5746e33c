-- No mirror that began so far is wholly fresh.
use Rattle.std.proofs.Common.{◌≡◌, not, ℕ, map, drop}
use Rattle.std.specs.List.{list_any}
use Rattle.composite_layout.specs.LookUps.{has_stale, mirror_ids}
use Rattle.layout_state.specs.Marking.{changed_if_named}
use Rattle.layout_state.proofs.marks.has_fresh_after.Given as goal

abbrev pub invariant-loop-component : goal.invariant-loop-component
invariant-loop-component l =
    list_any (λ (mirror : ℕ). not (has_stale mirror (map (changed_if_named l.id l.change) l.components))) (mirror_ids (drop l.component-index l.components))
    ≡ list_any (λ (mirror : ℕ). not (has_stale mirror (map (changed_if_named l.id l.change) l.components))) (mirror_ids l.components)
