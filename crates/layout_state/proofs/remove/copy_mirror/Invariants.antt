-- The mirror's components so far are copied.
use Rattle.std.proofs.Common.{◌≡◌, take}
use Rattle.layout_state.specs.Mirroring.{of_mirror}
use Rattle.layout_state.proofs.remove.copy_mirror.Given as goal

abbrev pub invariant-loop-component : goal.invariant-loop-component
invariant-loop-component l = l.copies.items ≡ of_mirror l.mirror (take l.component-index l.components)
