-- After an intent the range is ready.
use Rattle.layout_state.proofs.ReadyLaws.{intent_ready}
use Rattle.layout_state.proofs.mark_laws.intent_readies.Goals as goal

pub returns : goal.returns
returns c = record { ready = intent_ready }
