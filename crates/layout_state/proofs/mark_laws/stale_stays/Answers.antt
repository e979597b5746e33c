-- What is stale stays so.
use Rattle.layout_state.proofs.KeepLaws.{flags_stay_stale, begin_stays_stale, intent_stays_stale}
use Rattle.layout_state.proofs.mark_laws.stale_stays.Goals as goal

pub returns : goal.returns
returns c = record { flags = flags_stay_stale; begin = begin_stays_stale; intent = intent_stays_stale }
