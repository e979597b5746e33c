-- Fresh components hold the bytes.
use Rattle.flr_honest.proofs.Held.Following.{held_follows}
use Rattle.flr_honest.proofs.laws.fresh_components_hold_the_bytes.Goals as goal

pub returns : goal.returns
returns c = record { held = held_follows }
