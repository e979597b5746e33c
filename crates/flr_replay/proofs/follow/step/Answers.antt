use Rattle.std.proofs.Common.{refl}
use Rattle.flr_replay.proofs.Stretches.{nobody}
use Rattle.flr_replay.proofs.follow.step.Goals as goal

pub returns-then-client-gt255-clause-step : goal.returns-then-client-gt255-clause-step
returns-then-client-gt255-clause-step c = (refl, nobody c.args.world.now c.args.client c.requires.run c.if-client-gt255.true)
