-- New mirrors are stale, and those that are taken in keep their content.
use Rattle.layout_state.proofs.StayLaws.{added_new, taken_same}
use Rattle.layout_state.proofs.mirror_laws.what_mirrors_keep.Goals as goal

pub returns : goal.returns
returns c = record { added = added_new; merged = taken_same }
