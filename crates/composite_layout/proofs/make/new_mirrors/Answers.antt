-- One more mirror, and all of them.
use Rattle.std.proofs.Common.{◌+◌, ap, ◌∙◌, refl, ◌++◌}
use Rattle.composite_layout.specs.Making.{new_mirrors, new_parts}
use Rattle.composite_layout.proofs.Steps.{all_done, counted_more, made_more}
use Rattle.composite_layout.proofs.make.new_mirrors.Goals as goal

pub loop-index-preserved : goal.loop-index-preserved
loop-index-preserved c =
    let m = c.mirror-item.result in
    let made = c.loop-index.made.items in
    let pushed = c.in_ok-push_parts.ensures.pushed ∙ ap (λ ps. made ++ new_parts c.args.stale c.args.targets (c.args.first + c.loop-index.index) m.prefer c.loop-index.counter 0 ps) c.as_slice.ensures.same in
    rw c.len.ensures.count (
      made_more c.args.stale c.args.targets c.args.first c.loop-index.counter c.mirrors-mirror-items.result.now c.loop-index.index m made c.push_parts.new.made.items _ c.loop-index-test.true c.mirror-item.is c.loop-index.invariant.0 pushed,
      counted_more c.mirrors-mirror-items.result.now c.loop-index.index c.loop-index.counter _ m c.loop-index-test.true c.mirror-item.is c.loop-index.invariant.1,
    )

pub returns : goal.returns
returns c =
    record { made = all_done (new_mirrors c.args.stale c.args.targets (c.args.first + c.loop-index.index) c.loop-index.counter) c.mirrors-mirror-items.result.now c.loop-index.index c.loop-index.made.items _ refl c.loop-index-test.false c.loop-index.invariant.0 ∙ ap (new_mirrors c.args.stale c.args.targets c.args.first c.args.counter) c.mirrors-mirror-items.ensures.same }
