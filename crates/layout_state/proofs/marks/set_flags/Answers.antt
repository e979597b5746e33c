-- A layout is valid after a change of flags that isn't refused.
use Rattle.std.proofs.Common.{◌≡◌, None, List, sym, ap, ◌∙◌}
use Rattle.composite_layout.specs.declared.component.Component.{Component}
use Rattle.layout_state.specs.Marking.{flags_refusal}
use Rattle.layout_state.proofs.MarkLaws.{flagged_valid}
use Rattle.layout_state.proofs.marks.set_flags.Goals as goal

pub invariant_of-layout : goal.invariant_of-layout
invariant_of-layout c =
    let none : flags_refusal c.args.id c.args.change c.args.layout.now.components ≡ None = ap (λ (cs : List Component). flags_refusal c.args.id c.args.change cs) (sym c.components.ensures.same) ∙ sym c.in-None.ensures in
    rw c.change_flags.ensures (flagged_valid c.args.layout.now _ (c.layout.view_is ∙ c.unlease.ensures.unleased) c.layout.invariant c.args.id c.args.change none)
