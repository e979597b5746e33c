-- A spec has few parts.
use Rattle.std.proofs.Common.{◌+◌, ◌∷◌, drop, ap, arith}
use Rattle.std.proofs.lemmas.List.{at_drop_more}
use Rattle.composite_layout.specs.declared.spec.MirrorSpec.{MirrorSpec}
use Rattle.composite_layout.specs.Making.{part_count}
use Rattle.composite_layout.proofs.New.{few_parts}
use Rattle.layout_state.proofs.add.count_parts.Goals as goal

pub overflow_add-count : goal.overflow_add-count
overflow_add-count c =
    let few = few_parts c.args.mirrors.now c.requires in
    let so_far = c.loop-mirror.invariant in
    let more = at_drop_more part_count c.args.mirrors.now c.loop-mirror.mirror-index c.mirror-item.result c.loop-mirror-test.true in
    let is = c.mirror-item.is in
    let size = c.len.ensures.count in
    let here = ap (λ (m : MirrorSpec). part_count (m ∷ drop (c.loop-mirror.mirror-index + 1) c.args.mirrors.now)) is in
    omega (arith, few, so_far, more, here, size)
