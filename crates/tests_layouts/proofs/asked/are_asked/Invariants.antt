-- Each mirror so far is asked for.
use Rattle.std.proofs.Common.{take}
use Rattle.std.specs.List.{AllByRecursion}
use Rattle.composite_layout.specs.Specs.{IsAsked}
use Rattle.tests_layouts.proofs.asked.are_asked.Given as goal

abbrev pub invariant-loop-mirror : goal.invariant-loop-mirror
invariant-loop-mirror l = AllByRecursion IsAsked (take l.mirror-index l.mirrors)
