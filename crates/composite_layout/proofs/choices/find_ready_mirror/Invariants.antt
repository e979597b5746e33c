-- No mirror that begins so far is ready.
use Rattle.std.proofs.Common.{◌≡◌, drop}
use Rattle.std.specs.List.{find}
use Rattle.composite_layout.specs.Choices.{is_ready_mirror}
use Rattle.composite_layout.specs.LookUps.{mirror_ids}
use Rattle.composite_layout.proofs.choices.find_ready_mirror.Given as goal

abbrev pub invariant-loop-component : goal.invariant-loop-component
invariant-loop-component l = find (is_ready_mirror l.range l.components) (mirror_ids (drop l.component-index l.components)) ≡ find (is_ready_mirror l.range l.components) (mirror_ids l.components)
