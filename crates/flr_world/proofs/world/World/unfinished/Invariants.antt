use Rattle.std.proofs.Common.{◌≡◌, ◌+◌, drop}
use Rattle.flr_steps.specs.States.{unfinished_from}
use Rattle.flr_world.proofs.world.World.unfinished.Given as goal

abbrev pub invariant-loop-k : goal.invariant-loop-k
invariant-loop-k l = unfinished_from l.self.script 1 l.self.clients ≡ unfinished_from l.self.script (l.k + 1) (drop l.k l.self.clients)
