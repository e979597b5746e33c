use Rattle.std.proofs.Common.{arith}
use Rattle.layout_text.proofs.FrontLaws.{few_components, behind_text}
use Rattle.layout_text.proofs.ReadLaws.{not_empty}
use Rattle.layout_text.proofs.read.read.Goals as goal

pub overflow_cast-line : goal.overflow_cast-line
overflow_cast-line c = let few = few_components c.in_ok-layout.layout c.components.ensures.valid in rw c.components.ensures.same (omega (arith, few))

pub overflow_add-line : goal.overflow_add-line
overflow_add-line c = let few = few_components c.in_ok-layout.layout c.components.ensures.valid in rw c.components.ensures.same (omega (arith, few))

pub returns-then-not-is_empty : goal.returns-then-not-is_empty
returns-then-not-is_empty c = rw c.components.ensures.same (behind_text c.args.text.now c.in_ok-layout.layout c.in_ok-layout.rest.now c.in_ok-layout.ensures.read (not_empty c.in_ok-layout.rest.now c.is_empty.result c.is_empty.ensures c.if-not-is_empty.true))
