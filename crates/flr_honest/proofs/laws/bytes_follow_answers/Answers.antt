-- Bytes follow the answers.
use Rattle.flr_honest.proofs.Closing.Closing.{bytes_follow}
use Rattle.flr_honest.proofs.laws.bytes_follow_answers.Goals as goal

pub returns : goal.returns
returns c = record { follows = bytes_follow }
