-- There are few answers.
use Rattle.flr_answers.proofs.Counting.{answers_few}
use Rattle.flr_answers.proofs.laws.entries_are_few.Goals as goal

pub returns : goal.returns
returns c = record { runs = answers_few }
