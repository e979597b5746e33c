-- The named components so far aren't stale.
use Rattle.std.proofs.Common.{◌≡◌, ◌++◌, map, take, drop}
use Rattle.layout_state.specs.Marking.{fresh_if_named}
use Rattle.layout_state.proofs.marks.clear_stale.Given as goal

abbrev pub invariant-loop-component : goal.invariant-loop-component
invariant-loop-component l =
    l.component-items ≡ map (fresh_if_named l.ids) (take l.component-index l.initial.component-items) ++ drop l.component-index l.initial.component-items
