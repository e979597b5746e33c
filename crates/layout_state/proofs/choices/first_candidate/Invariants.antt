-- No mirror that began so far is a candidate.
use Rattle.std.proofs.Common.{◌≡◌, drop}
use Rattle.std.specs.Prelude.{find}
use Rattle.composite_layout.specs.LookUps.{mirror_ids}
use Rattle.layout_state.specs.Choosing.{is_candidate}
use Rattle.layout_state.proofs.choices.first_candidate.Given as goal

abbrev pub invariant-loop-component : goal.invariant-loop-component
invariant-loop-component l =
    find (is_candidate l.range l.components) (mirror_ids (drop l.component-index l.components))
    ≡ find (is_candidate l.range l.components) (mirror_ids l.components)
