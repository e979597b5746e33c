-- The components so far are renumbered, and there is room for the others.
use Rattle.std.proofs.Common.{◌≡◌, ◌+◌, ◌≤◌, ◌<◌, ◌++◌, length, filter, take, drop}
use Rattle.composite_layout.specs.LookUps.{begins_mirror}
use Rattle.layout_state.specs.Mirroring.{run_on}
use Rattle.layout_state.proofs.merging.renumber.Given as goal

abbrev pub invariant-loop-component : goal.invariant-loop-component
invariant-loop-component l = record {
  done : take l.component-index l.components ++ run_on l.mirror l.counter (drop l.component-index l.components) ≡ run_on l.initial.mirror l.initial.counter l.initial.components;
  ids : l.mirror + length (filter begins_mirror (drop l.component-index l.components)) < 65536;
  counters : l.counter + length (drop l.component-index l.components) ≤ 65536;
}
