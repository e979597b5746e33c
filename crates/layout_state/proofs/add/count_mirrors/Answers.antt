-- A valid layout has few mirrors.
use Rattle.std.proofs.Common.{length, ap, arith}
use Rattle.composite_layout.specs.Layouts.{Composite}
use Rattle.composite_layout.specs.LookUps.{mirror_ids}
use Rattle.layout_state.proofs.BreakLaws.{few_mirror_ids}
use Rattle.layout_state.proofs.add.count_mirrors.Goals as goal

pub overflow_cast-result : goal.overflow_cast-result
overflow_cast-result c =
    let few = few_mirror_ids _ c.layout.invariant in
    let count = c.mirrors.ensures.count in
    let same = ap (λ (l : Composite). length (mirror_ids l.components)) c.layout.view_is in
    omega (arith, few, count, same)

pub returns-clause-few : goal.returns-clause-few
returns-clause-few c =
    let few = few_mirror_ids _ c.layout.invariant in
    let count = c.mirrors.ensures.count in
    let same = ap (λ (l : Composite). length (mirror_ids l.components)) c.layout.view_is in
    omega (arith, few, count, same)
