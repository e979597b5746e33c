use Rattle.mirror_select.proofs.ChoiceLaws.{write_pieces}
use Rattle.mirror_select.proofs.laws.write_pieces_are_whole.Goals as goal

pub returns : goal.returns
returns c = record { law = write_pieces }
