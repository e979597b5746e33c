-- A layout is valid once a copy of it is done.
use Rattle.layout_state.proofs.MarkLaws.{done_valid}
use Rattle.layout_state.proofs.marks.done.Goals as goal

pub invariant_of-layout : goal.invariant_of-layout
invariant_of-layout c =
    rw (c.synced_state-state.ensures, c.mirrors.ensures.count, ← c.layout.view_is, c.clear_stale.ensures, c.as_slice.ensures.same) (done_valid _ c.layout.invariant c.args.ids.now)
