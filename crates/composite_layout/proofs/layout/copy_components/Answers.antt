-- One more component, and all of them.
use Rattle.std.proofs.Common.{◌∙◌}
use Rattle.std.proofs.lemmas.List.{take_all}
use Rattle.composite_layout.proofs.Steps.{copied_more}
use Rattle.composite_layout.proofs.layout.copy_components.Goals as goal

pub loop-component-preserved : goal.loop-component-preserved
loop-component-preserved c =
    copied_more c.args.components.now c.loop-component.component-index c.component-item.result c.in_ok-copy.copy c.loop-component.copies.items c.push.new.self.items
    c.loop-component-test.true c.component-item.is c.in_ok-copy.ensures.same c.loop-component.invariant c.in_ok-push.ensures.items

pub returns : goal.returns
returns c = record { same = c.loop-component.invariant ∙ take_all c.loop-component.component-index c.args.components.now c.loop-component-test.false }
