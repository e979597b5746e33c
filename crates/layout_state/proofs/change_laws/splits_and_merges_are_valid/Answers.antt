-- What a merge and a split make is valid.
use Rattle.layout_state.proofs.ChangeLaws.{merge_keeps, part_keeps}
use Rattle.layout_state.proofs.change_laws.splits_and_merges_are_valid.Goals as goal

pub returns : goal.returns
returns c = record { merged = merge_keeps; split_off = part_keeps }
