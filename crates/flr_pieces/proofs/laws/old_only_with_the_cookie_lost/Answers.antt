-- A part is too old only with its cookie lost.
use Rattle.flr_pieces.proofs.Runs.{runs_lose}
use Rattle.flr_pieces.proofs.laws.old_only_with_the_cookie_lost.Goals as goal

pub returns : goal.returns
returns c = record { runs = runs_lose }
