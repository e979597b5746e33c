use Rattle.std.proofs.Common.{◌≡◌, ◌++◌, take}
use Rattle.flr_steps.specs.Schedules.{places_of}
use Rattle.flr_steps.specs.States.{IsRun}
use Rattle.flr_replay.proofs.follow.follow.Given as goal

abbrev pub invariant-loop-run : goal.invariant-loop-run
invariant-loop-run l = (l.world.script ≡ l.fn.world.script) × IsRun l.world × (l.world.schedule ≡ l.fn.world.schedule ++ places_of (take l.run-index l.runs))
