-- What has landed stays.
use Rattle.flr_honest.proofs.Landed.Staying.{steps_keep_landed}
use Rattle.flr_honest.proofs.laws.what_landed_stays.Goals as goal

pub returns : goal.returns
returns c = steps_keep_landed
