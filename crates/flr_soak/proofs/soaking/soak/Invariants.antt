use Rattle.std.proofs.Common.{◌≡◌, ℕ, ◌-◌, List, ◌++◌, length}
use Rattle.flr_steps.specs.States.{IsRun, State}
use Rattle.flr_soak.specs.Soaking.{IsSoaked}
use Rattle.flr_soak.proofs.soaking.soak.Given as goal

abbrev pub invariant-loop-generator : goal.invariant-loop-generator
invariant-loop-generator l =
    IsRun l.world × (l.world.script ≡ l.initial.world.script)
    × ((cs : List ℕ) (last : State) → IsSoaked l.clients l.generator l.world cs last → IsSoaked l.clients l.initial.generator l.initial.world (l.world.schedule ++ cs) last)

abbrev pub decreases-loop-generator : goal.decreases-loop-generator
decreases-loop-generator l = 8388609 - length l.world.schedule
