use Rattle.std.proofs.Common.{◌≡◌, ◌++◌, replicate}
use Rattle.flr_steps.specs.States.{IsRun}
use Rattle.flr_replay.proofs.follow.follow_run.Given as goal

abbrev pub invariant-loop-k : goal.invariant-loop-k
invariant-loop-k l = (l.world.script ≡ l.fn.world.script) × IsRun l.world × (l.world.schedule ≡ l.fn.world.schedule ++ replicate l._k l.client)
