-- What the copies and merges of other clients know.
use Rattle.flr_honest.proofs.Lasting.MergesSay.{others_merge_follows}
use Rattle.flr_honest.proofs.Lasting.OthersSay.{others_copy_follows}
use Rattle.flr_honest.proofs.laws.copies_stay_true.Goals as goal

pub returns-clause-copies : goal.returns-clause-copies
returns-clause-copies c = others_copy_follows

pub returns-clause-merges : goal.returns-clause-merges
returns-clause-merges c = others_merge_follows
