use Rattle.std.proofs.Common.{◌≡◌, ◌+◌, take}
use Rattle.script_values.specs.Work.{capped, stripes_of_parts}
use Rattle.script_values.proofs.bases.add_parts.Given as goal

abbrev pub invariant-loop-part : goal.invariant-loop-part
invariant-loop-part l = l.sum ≡ capped (l.start + stripes_of_parts l.targets (take l.part-index l.parts))
