-- Each call's steps are walked through.
use Rattle.flr_past.proofs.Commands.{answers_are_fixed_once}
use Rattle.flr_past.proofs.laws.answers_are_fixed_once.Goals as goal

pub returns : goal.returns
returns c = record { once = answers_are_fixed_once }
