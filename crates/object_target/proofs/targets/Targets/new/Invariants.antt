use Rattle.std.proofs.Common.{◌≡◌}
use Rattle.object_target.specs.TargetState.{new_targets}
use Rattle.object_target.proofs.targets.Targets.new.Given as goal

abbrev pub invariant-loop-id : goal.invariant-loop-id
invariant-loop-id l = l.items.items ≡ new_targets l.id l.fails
