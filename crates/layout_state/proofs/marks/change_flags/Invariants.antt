-- The flags of the components so far are changed.
use Rattle.std.proofs.Common.{◌≡◌, ◌++◌, map, take, drop}
use Rattle.layout_state.specs.Marking.{changed_if_named}
use Rattle.layout_state.proofs.marks.change_flags.Given as goal

abbrev pub invariant-loop-component : goal.invariant-loop-component
invariant-loop-component l =
    l.component-items ≡ map (changed_if_named l.id l.change) (take l.component-index l.initial.component-items) ++ drop l.component-index l.initial.component-items
