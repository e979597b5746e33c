use Rattle.std.proofs.Common.{◌≤◌, length, arith}
use Rattle.flr_world.proofs.Answering.{is_allowed}
use Rattle.flr_world.proofs.Known.{run_short}
use Rattle.flr_world.proofs.world.WorldStepped.step.Goals as goal

pub returns-clause-allowed : goal.returns-clause-allowed
returns-clause-allowed c = is_allowed c.args.self.now c.step.new.self c.args.client c.step.result c.keeps_run.ensures c.step.ensures.step

pub returns-clause-few : goal.returns-clause-few
returns-clause-few c = let few : length c.step.new.self.schedule ≤ 8388608 = run_short c.step.new.self c.step.ensures.run in omega (arith, few)
