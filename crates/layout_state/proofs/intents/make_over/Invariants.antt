-- The objects of the components so far are made.
use Rattle.layout_state.specs.Choosing.{is_over}
use Rattle.layout_state.proofs.ObjectLaws.{AreMade}
use Rattle.layout_state.proofs.intents.make_over.Given as goal

abbrev pub invariant-loop-component : goal.invariant-loop-component
invariant-loop-component l = AreMade (is_over l.range l.mirror) l.file l.initial.next.items l.components l.component-index l.next.items l.made.items
