-- The mirrors so far are there, with what was left open put in.
use Rattle.std.proofs.Common.{◌≡◌, take, map}
use Rattle.composite_layout.specs.Specs.{normal_mirror}
use Rattle.composite_layout.proofs.spec.normal_mirrors.Given as goal

abbrev pub invariant-loop-mirror : goal.invariant-loop-mirror
invariant-loop-mirror l = l.all.items ≡ map normal_mirror (take l.mirror-index l.mirrors)
