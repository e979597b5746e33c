use Rattle.mirror_select.proofs.ChoiceLaws.{read_pieces}
use Rattle.mirror_select.proofs.laws.read_pieces_are_whole.Goals as goal

pub returns : goal.returns
returns c = record { law = read_pieces }
