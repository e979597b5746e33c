-- One more component is marked.
use Rattle.std.proofs.Common.{arith}
use Rattle.std.proofs.lemmas.List.Edits.{map_over_more}
use Rattle.layout_state.specs.Marking.{changed_if_named}
use Rattle.layout_state.proofs.marks.change_flags.Goals as goal

pub loop-component-preserved : goal.loop-component-preserved
loop-component-preserved c =
    rw (c.change_if_named.ensures, ← c.component-item.is) (map_over_more (changed_if_named c.args.id c.args.change) c.deref_mut-component-items.result.now c.loop-component.component-items c.loop-component.component-index c.component-item.result (omega arith) c.loop-component.invariant c.component-item.is)
