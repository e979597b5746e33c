-- The ids of the components so far are there.
use Rattle.std.proofs.Common.{◌≡◌, map, filter, take}
use Rattle.std.specs.Option.{option_copied}
use Rattle.composite_layout.specs.declared.component.Component.{Component}
use Rattle.layout_state.specs.Selecting.{is_selected}
use Rattle.layout_state.proofs.select.unsorted_ids.Given as goal

abbrev pub invariant-loop-component : goal.invariant-loop-component
invariant-loop-component l = l.ids.items ≡ map (λ (c : Component). c.id) (filter (is_selected (option_copied l.only) l.components) (take l.component-index l.components))
