use Rattle.std.proofs.Common.{sym, subst}
use Rattle.flr_steps.specs.States.{IsRun}
use Rattle.flr_soak.proofs.soaking.step_first.Goals as goal

pub returns-clause-run : goal.returns-clause-run
returns-clause-run c = subst IsRun (sym c.loop-turn.invariant.0) c.requires.run
