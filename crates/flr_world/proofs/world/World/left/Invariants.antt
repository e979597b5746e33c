use Rattle.std.proofs.Common.{◌≡◌, ◌≤◌, ◌+◌, drop}
use Rattle.flr_world.specs.Counts.{unfinished_count}
use Rattle.flr_world.proofs.world.World.left.Given as goal

abbrev pub invariant-loop-k : goal.invariant-loop-k
invariant-loop-k l = (unfinished_count l.self.script 1 l.self.clients ≡ l.found + unfinished_count l.self.script (l.k + 1) (drop l.k l.self.clients)) × (l.found ≤ l.k)
