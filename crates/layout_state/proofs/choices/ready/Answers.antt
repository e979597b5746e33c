-- Where a range is ready for a write to a mirror, no other mirror is wholly fresh.
use Rattle.layout_state.proofs.ChoiceLaws.{ready_only_fresh}
use Rattle.layout_state.proofs.choices.ready.Goals as goal

pub returns-clause-only_fresh : goal.returns-clause-only_fresh
returns-clause-only_fresh c = ready_only_fresh c.args.layout.now c.is_ready.ensures.valid c.args.range
