use Rattle.flr_claims.proofs.CopyLaws.{whole_is_put}
use Rattle.flr_claims.proofs.copies.whole_is_put.Goals as goal

pub returns : goal.returns
returns c = record { put = whole_is_put }
