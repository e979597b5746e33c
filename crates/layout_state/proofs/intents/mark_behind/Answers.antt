-- One more component is marked.
use Rattle.std.proofs.Common.{arith}
use Rattle.std.proofs.lemmas.List.Edits.{map_over_more}
use Rattle.layout_state.specs.Marking.{stale_if_behind}
use Rattle.layout_state.proofs.intents.mark_behind.Goals as goal

pub loop-component-preserved : goal.loop-component-preserved
loop-component-preserved c =
    rw (c.mark_if_behind.ensures, ← c.component-item.is) (map_over_more (stale_if_behind c.args.range c.args.mirror) c.deref_mut-component-items.result.now c.loop-component.component-items c.loop-component.component-index c.component-item.result (omega arith) c.loop-component.invariant c.component-item.is)
