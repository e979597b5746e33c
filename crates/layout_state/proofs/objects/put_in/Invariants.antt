-- What is left to put in makes the whole.
use Rattle.std.proofs.Common.{◌≡◌, ◌++◌, take, drop}
use Rattle.layout_state.specs.Making.{all_with_made}
use Rattle.layout_state.proofs.objects.put_in.Given as goal

abbrev pub invariant-loop-component : goal.invariant-loop-component
invariant-loop-component l =
    take l.component-index l.component-items ++ all_with_made (drop l.component-index l.component-items) l.made.items
    ≡ all_with_made l.initial.component-items l.initial.made.items
