-- One more component is marked.
use Rattle.std.proofs.Common.{arith}
use Rattle.std.proofs.lemmas.List.Edits.{map_over_more}
use Rattle.layout_state.specs.Marking.{fresh_if_named}
use Rattle.layout_state.proofs.marks.clear_stale.Goals as goal

pub loop-component-preserved : goal.loop-component-preserved
loop-component-preserved c =
    rw (c.clear_if_named.ensures, ← c.component-item.is) (map_over_more (fresh_if_named c.args.ids.now) c.deref_mut-component-items.result.now c.loop-component.component-items c.loop-component.component-index c.component-item.result (omega arith) c.loop-component.invariant c.component-item.is)
