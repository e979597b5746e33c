-- The selected ids ascend, and they are those of the selected components.
use Rattle.std.proofs.Common.{rules, subst, sym}
use Rattle.std.specs.Option.{option_copied}
use Rattle.layout_state.specs.Selecting.{IsSelection}
use Rattle.layout_state.proofs.SelectLaws.{selection}
use Rattle.layout_state.proofs.select.selected.Goals as goal

pub returns-clause-selection : goal.returns-clause-selection
returns-clause-selection c = subst (IsSelection (option_copied c.args.only) c.args.layout.now.components) (sym (search rules)) (selection c.args.layout.now c.components-components.ensures.valid (option_copied c.args.only))
