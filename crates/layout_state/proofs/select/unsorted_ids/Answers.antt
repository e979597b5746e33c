-- One more component, and all of them.
use Rattle.std.proofs.Common.{ap, filter, map, sym, ◌∙◌}
use Rattle.std.specs.Option.{option_copied}
use Rattle.std.proofs.lemmas.List.{take_all}
use Rattle.composite_layout.specs.declared.component.Component.{Component}
use Rattle.layout_state.specs.Selecting.{is_selected}
use Rattle.layout_state.proofs.Listing.{chosen_more, left_more}
use Rattle.layout_state.proofs.select.unsorted_ids.Goals as goal
use Rattle.layout_state.proofs.select.unsorted_ids.Goals.{then-is_selected+in_ok-push, else-is_selected}

pub loop-component-preserved : goal.loop-component-preserved
loop-component-preserved c =
    let p = is_selected (option_copied c.args.only) c.args.components.now in
    let x = c.component-item.result in
    elim c.if-is_selected.branch [
      | then-is_selected+in_ok-push w ↦ rw w.ids-is (chosen_more (λ (d : Component). d.id) p c.args.components.now c.loop-component.component-index x c.loop-component.ids.items w.push.new.self.items
          c.loop-component-test.true c.component-item.is (sym c.is_selected.ensures ∙ w.if-is_selected.true) c.loop-component.invariant w.in_ok-push.ensures.items)
      | else-is_selected w ↦ rw w.ids-is (left_more (λ (d : Component). d.id) p c.args.components.now c.loop-component.component-index x c.loop-component.ids.items
          c.loop-component-test.true c.component-item.is (sym c.is_selected.ensures ∙ w.if-is_selected.false) c.loop-component.invariant)
    ]

pub returns : goal.returns
returns c =
    record { chosen = c.loop-component.invariant ∙ ap (λ cs. map (λ (d : Component). d.id) (filter (is_selected (option_copied c.args.only) c.args.components.now) cs)) (take_all c.loop-component.component-index c.args.components.now c.loop-component-test.false) }
