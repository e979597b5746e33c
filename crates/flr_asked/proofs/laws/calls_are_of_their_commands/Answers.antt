-- Before any step, after each, and so after every run.
use Rattle.flr_asked.proofs.Runs.{runs_asked, start_asked, step_asked}
use Rattle.flr_asked.proofs.laws.calls_are_of_their_commands.Goals as goal

pub returns : goal.returns
returns c = record { start = start_asked; steps = step_asked; runs = runs_asked }
