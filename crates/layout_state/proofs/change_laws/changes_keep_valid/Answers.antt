-- A change of a valid layout leaves it valid.
use Rattle.layout_state.proofs.ChangeLaws.{change_keeps, change_grows}
use Rattle.layout_state.proofs.change_laws.changes_keep_valid.Goals as goal

pub returns : goal.returns
returns c = record { valid = change_keeps; grows = change_grows }
