-- The generation grows.
use Rattle.layout_state.proofs.KeepLaws.{done_grows, flags_grow, begin_grows, intent_grows}
use Rattle.layout_state.proofs.mark_laws.generation_grows.Goals as goal

pub returns : goal.returns
returns c = record { done = done_grows; flags = flags_grow; begin = begin_grows; intent = intent_grows }
