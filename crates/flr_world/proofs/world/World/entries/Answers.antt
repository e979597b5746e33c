use Rattle.std.proofs.Common.{subst}
use Rattle.flr_steps.specs.States.{IsRun}
use Rattle.flr_world.proofs.world.World.entries.Goals as goal

pub returns-clause-run : goal.returns-clause-run
returns-clause-run c = subst IsRun c.self.view_is c.self.invariant.run
