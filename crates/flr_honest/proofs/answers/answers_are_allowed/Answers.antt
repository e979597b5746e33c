-- Plain files allow each answer.
use Rattle.flr_honest.proofs.Legal.Steps.{steps_answer}
use Rattle.flr_honest.proofs.answers.answers_are_allowed.Goals as goal

pub returns : goal.returns
returns c = record { allowed = steps_answer }
