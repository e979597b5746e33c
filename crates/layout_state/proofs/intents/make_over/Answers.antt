-- One more component has its objects, and at the end all have.
use Rattle.std.proofs.Common.{◌≡◌, ◌&&◌, not, ap, Bool, arith}
use Rattle.composite_layout.specs.Layouts.{IsShaped}
use Rattle.layout_state.specs.Making.{gets_objects}
use Rattle.layout_state.specs.Choosing.{is_over}
use Rattle.layout_state.proofs.ObjectLaws.{more_made, all_made, shaped_at}
use Rattle.layout_state.proofs.intents.make_over.Goals as goal

pub make_next-requires-clause-stripes : goal.make_next-requires-clause-stripes
make_next-requires-clause-stripes c =
    let s : IsShaped c.component-item.result = shaped_at c.args.components.now c.loop-component.component-index c.component-item.result (omega arith) c.component-item.is c.requires.shaped in
    s.stripe.most_count

pub loop-component-preserved : goal.loop-component-preserved
loop-component-preserved c =
    let x = c.component-item.result in
    let s : IsShaped x = shaped_at c.args.components.now c.loop-component.component-index x (omega arith) c.component-item.is c.requires.shaped in
    let gets : (c.is_over-wanted.result && not x.flags.init) ≡ gets_objects (is_over c.args.range c.args.mirror) x = ap (λ (b : Bool). b && not x.flags.init) c.is_over-wanted.ensures in
    more_made (is_over c.args.range c.args.mirror) c.args.file c.args.next.now.items c.args.components.now c.loop-component.component-index c.loop-component.next.items c.loop-component.made.items x (omega arith) c.component-item.is c.requires.next.some s.stripe.most_count c.loop-component.invariant (c.is_over-wanted.result && not x.flags.init) gets c.make_next.new.next.items c.in_ok-make_next.ensures.past c.make_next.new.made.items c.in_ok-make_next.ensures.made

pub returns-clause-made : goal.returns-clause-made
returns-clause-made c = (all_made (is_over c.args.range c.args.mirror) c.args.file c.args.next.now.items c.args.components.now c.loop-component.component-index c.loop-component.next.items c.loop-component.made.items (omega arith) c.loop-component.invariant).0

pub returns-clause-past : goal.returns-clause-past
returns-clause-past c = (all_made (is_over c.args.range c.args.mirror) c.args.file c.args.next.now.items c.args.components.now c.loop-component.component-index c.loop-component.next.items c.loop-component.made.items (omega arith) c.loop-component.invariant).1
