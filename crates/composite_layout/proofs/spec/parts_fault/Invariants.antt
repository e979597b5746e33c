-- The parts so far have no fault.
use Rattle.std.proofs.Common.{◌≡◌, drop}
use Rattle.composite_layout.specs.Specs.{parts_fault}
use Rattle.composite_layout.proofs.spec.parts_fault.Given as goal

abbrev pub invariant-loop-part : goal.invariant-loop-part
invariant-loop-part l = parts_fault 0 l.parts ≡ parts_fault l.at (drop l.part-index l.parts)
