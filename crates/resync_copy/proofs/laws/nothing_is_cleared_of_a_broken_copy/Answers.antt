use Rattle.resync_copy.proofs.NothingLaws.{file_gone, put_too_old, reset_too_old}
use Rattle.resync_copy.proofs.laws.nothing_is_cleared_of_a_broken_copy.Goals as goal

pub returns : goal.returns
returns c = record { reset = reset_too_old; put = put_too_old; gone = file_gone }
