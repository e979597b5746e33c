-- The parts so far are there, with what was left open put in.
use Rattle.std.proofs.Common.{◌≡◌, take, map}
use Rattle.composite_layout.specs.Specs.{normal_part}
use Rattle.composite_layout.proofs.spec.normal_parts.Given as goal

abbrev pub invariant-loop-part : goal.invariant-loop-part
invariant-loop-part l = l.all.items ≡ map normal_part (take l.part-index l.parts)
