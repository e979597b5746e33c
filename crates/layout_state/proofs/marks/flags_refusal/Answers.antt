-- The refusal by the component's mirror, and by the mirrors that are wholly fresh after the change.
use Rattle.std.proofs.Common.{refl}
use Rattle.layout_state.proofs.MarkLaws.{fresh_after}
use Rattle.layout_state.proofs.marks.flags_refusal.Goals as goal

pub returns-in-None : goal.returns-in-None
returns-in-None c = rw (← c.in-None.ensures) refl

pub returns-then-has_fresh_after : goal.returns-then-has_fresh_after
returns-then-has_fresh_after c = rw (← c.in-Some.ensures, fresh_after c.args.id c.args.change c.args.components.now, ← c.if-has_fresh_after.ensures) refl

pub returns-else-has_fresh_after : goal.returns-else-has_fresh_after
returns-else-has_fresh_after c = rw (← c.in-Some.ensures, fresh_after c.args.id c.args.change c.args.components.now, ← c.if-has_fresh_after.ensures) refl
