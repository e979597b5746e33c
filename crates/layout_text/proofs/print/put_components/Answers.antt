use Rattle.std.proofs.Common.{arith}
use Rattle.flr_base.proofs.Puts.{puts, front_item}
use Rattle.layout_text.specs.Appending.{component_text}
use Rattle.layout_text.proofs.print.put_components.Goals as goal

pub returns-in_err-put_component : goal.returns-in_err-put_component
returns-in_err-put_component c = grind (arith, puts, front_item component_text c.args.components.now c.loop-component.component-index c.component-item.result c.args.out.now.items c.put_component.new.out.items)
