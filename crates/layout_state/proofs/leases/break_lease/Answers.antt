-- A layout whose lease is broken is valid.
use Rattle.layout_state.proofs.BreakLaws.{broken_valid}
use Rattle.layout_state.proofs.leases.break_lease.Goals as goal

pub invariant_of-layout : goal.invariant_of-layout
invariant_of-layout c = rw (c.pending_state-state.ensures, c.mirrors.ensures.count, ← c.layout.view_is) (broken_valid _ c.layout.invariant)
