-- The mirrors so far have no fault.
use Rattle.std.proofs.Common.{◌≡◌, drop}
use Rattle.composite_layout.specs.Specs.{mirrors_fault}
use Rattle.composite_layout.proofs.spec.mirrors_fault.Given as goal

abbrev pub invariant-loop-mirror : goal.invariant-loop-mirror
invariant-loop-mirror l = mirrors_fault l.mirrors ≡ mirrors_fault (drop l.mirror-index l.mirrors)
