-- The objects of the components so far are made.
use Rattle.layout_state.specs.Marking.{is_named}
use Rattle.layout_state.proofs.ObjectLaws.{AreMade}
use Rattle.layout_state.proofs.objects.make_named.Given as goal

abbrev pub invariant-loop-component : goal.invariant-loop-component
invariant-loop-component l = AreMade (is_named l.ids) l.file l.initial.next.items l.components l.component-index l.next.items l.made.items
