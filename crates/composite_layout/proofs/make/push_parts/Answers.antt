-- One more part, and all of them.
use Rattle.std.proofs.Common.{◌+◌, get_or, pos, ap, ◌∙◌, refl, ◌∷◌, [], ◌++◌}
use Rattle.composite_layout.specs.Making.{new_parts}
use Rattle.composite_layout.proofs.Steps.{all_done, pushed_more}
use Rattle.composite_layout.proofs.make.push_parts.Goals as goal

pub loop-index-preserved : goal.loop-index-preserved
loop-index-preserved c =
    let of = c.args.of in
    let part = get_or c.args.parts.now c.loop-index.index (record { end = 0; size = 0; count = pos 0 }) in
    pushed_more of.stale of.targets of.id of.prefer c.args.counter c.loop-index.start c.args.parts.now c.loop-index.index _ part c.loop-index.made.items c.push.new.self.items _ c.loop-index-test.true refl c.loop-index.invariant
    (c.in_ok-push.ensures.items ∙ ap (λ z. c.loop-index.made.items ++ z ∷ []) c.new_component-component.ensures)

pub returns : goal.returns
returns c =
    let of = c.args.of in
    record { pushed = all_done (new_parts of.stale of.targets of.id of.prefer (c.args.counter + c.loop-index.index) c.loop-index.start) c.args.parts.now c.loop-index.index c.loop-index.made.items _ refl c.loop-index-test.false c.loop-index.invariant }
