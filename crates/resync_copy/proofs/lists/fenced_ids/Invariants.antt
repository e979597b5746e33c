use Rattle.std.proofs.Common.{◌≡◌, filter, map, take}
use Rattle.composite_layout.specs.declared.component.Component.{Component}
use Rattle.resync_copy.specs.Parts.{is_fenced}
use Rattle.resync_copy.proofs.lists.fenced_ids.Given as goal

abbrev pub invariant-loop-component : goal.invariant-loop-component
invariant-loop-component l = l.ids.items ≡ map (λ (c : Component). c.id) (filter (is_fenced l.destinations) (take l.component-index l.components))
