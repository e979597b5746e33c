-- Answers have a text.
use Rattle.flr_answers.proofs.Runs.{answers_printable}
use Rattle.flr_answers.proofs.laws.answers_can_be_printed.Goals as goal

pub returns : goal.returns
returns c = record { runs = answers_printable }
