use Rattle.copy_laws.proofs.MergeEnds.{merged_are_same}
use Rattle.copy_laws.proofs.MergeKeeping.{merges_where_same, tells_first_difference}
use Rattle.copy_laws.proofs.laws.a_merge_takes_in_what_is_the_same.Goals as goal

pub returns : goal.returns
returns c = record { same = merges_where_same; merged = merged_are_same; first = tells_first_difference }
