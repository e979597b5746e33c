-- Commands have a text.
use Rattle.flr_answers.proofs.Counting.{commands_spellable}
use Rattle.flr_answers.proofs.laws.commands_can_be_printed.Goals as goal

pub returns : goal.returns
returns c = record { scripts = commands_spellable }
