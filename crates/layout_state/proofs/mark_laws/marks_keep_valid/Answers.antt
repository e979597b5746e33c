-- A mark of a valid layout leaves it valid.
use Rattle.layout_state.proofs.ValidLaws.{done_keeps, flags_keep, begin_keeps, intent_keeps}
use Rattle.layout_state.proofs.mark_laws.marks_keep_valid.Goals as goal

pub returns : goal.returns
returns c = record { done = done_keeps; flags = flags_keep; begin = begin_keeps; intent = intent_keeps }
