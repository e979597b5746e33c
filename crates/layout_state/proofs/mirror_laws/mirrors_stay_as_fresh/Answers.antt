-- Other mirrors are as fresh as they were.
use Rattle.layout_state.proofs.StayLaws.{fresh_added, fresh_merged, fresh_removed}
use Rattle.layout_state.proofs.mirror_laws.mirrors_stay_as_fresh.Goals as goal

pub returns : goal.returns
returns c = record { added = fresh_added; merged = fresh_merged; removed = fresh_removed }
