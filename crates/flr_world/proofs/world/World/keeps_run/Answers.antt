use Rattle.std.proofs.Common.{subst}
use Rattle.flr_steps.specs.States.{IsRun}
use Rattle.flr_world.proofs.world.World.keeps_run.Goals as goal

pub returns : goal.returns
returns c = subst IsRun c.self.view_is c.self.invariant.run
