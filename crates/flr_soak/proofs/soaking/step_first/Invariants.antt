use Rattle.std.proofs.Common.{◌≡◌}
use Rattle.flr_soak.specs.Soaking.{NobodySteps}
use Rattle.flr_soak.proofs.soaking.step_first.Given as goal

abbrev pub invariant-loop-turn : goal.invariant-loop-turn
invariant-loop-turn l = (l.world ≡ l.initial.world) × NobodySteps l.clients l.draw l.initial.world l.turn
