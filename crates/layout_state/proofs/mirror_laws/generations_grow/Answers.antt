-- Each change has a greater generation.
use Rattle.layout_state.proofs.StayLaws.{add_grows, remove_grows, off_grows, merge_grows}
use Rattle.layout_state.proofs.mirror_laws.generations_grow.Goals as goal

pub returns : goal.returns
returns c = record { added = add_grows; removed = remove_grows; split_off = off_grows; merged = merge_grows }
