-- The components so far are marked.
use Rattle.std.proofs.Common.{◌≡◌, ◌++◌, map, take, drop}
use Rattle.layout_state.specs.Marking.{stale_if_behind}
use Rattle.layout_state.proofs.intents.mark_behind.Given as goal

abbrev pub invariant-loop-component : goal.invariant-loop-component
invariant-loop-component l =
    l.component-items ≡ map (stale_if_behind l.range l.mirror) (take l.component-index l.initial.component-items) ++ drop l.component-index l.initial.component-items
