-- What the marks leave of components.
use Rattle.layout_state.proofs.KeepLaws.{done_stays, flags_change_stays, begin_stays, intent_stays}
use Rattle.layout_state.proofs.mark_laws.components_stay.Goals as goal

pub returns : goal.returns
returns c = record { done = done_stays; flags = flags_change_stays; begin = begin_stays; intent = intent_stays }
