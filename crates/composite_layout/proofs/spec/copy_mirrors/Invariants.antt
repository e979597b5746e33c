-- The mirrors so far are copied.
use Rattle.std.proofs.Common.{◌≡◌, take}
use Rattle.composite_layout.proofs.spec.copy_mirrors.Given as goal

abbrev pub invariant-loop-mirror : goal.invariant-loop-mirror
invariant-loop-mirror l = l.copies.items ≡ take l.mirror-index l.mirrors
