-- A layout is valid after an intent to a wholly fresh mirror, and so are the next numbers.
use Rattle.std.proofs.Common.{◌≡◌, true, length, List, ℕ, sym, subst, ap, ◌∙◌}
use Rattle.composite_layout.specs.declared.component.Component.{Component}
use Rattle.composite_layout.specs.Layouts.{Composite}
use Rattle.composite_layout.specs.LookUps.{mirror_ids, wholly_fresh}
use Rattle.layout_state.specs.Breaking.{pending}
use Rattle.layout_state.specs.Choosing.{is_over}
use Rattle.layout_state.specs.Making.{AreNext, new_targets}
use Rattle.layout_state.proofs.MarkLaws.{unleased_components}
use Rattle.layout_state.proofs.ObjectLaws.{few_components, intended_valid, nexts_AreNext}
use Rattle.layout_state.proofs.intents.ready_mirror.Goals as goal

pub make_over-requires-clause-few : goal.make_over-requires-clause-few
make_over-requires-clause-few c = rw c.components.ensures.same (few_components _ c.components.ensures.valid)

pub invariant_of-layout : goal.invariant_of-layout
invariant_of-layout c =
    let old = c.args.layout.now in
    let same : c.components.result.now ≡ old.components = c.components.ensures.same in
    let kept : c.components.result.now ≡ c.unlease.new.layout.components = same ∙ sym (ap (λ (l : Composite). l.components) c.unlease.ensures.unleased ∙ unleased_components old) in
    let inside : c.components.result.now ≡ c.layout-2.inside.components.items = kept ∙ ap (λ (l : Composite). l.components) (sym c.layout-2.view_is) in
    let fresh : wholly_fresh c.args.mirror c.components.result.now ≡ true = subst (λ (cs : List Component). wholly_fresh c.args.mirror cs ≡ true) (sym same) c.requires.fresh in
    let state : c.pending_state-state.result ≡ pending (length (mirror_ids c.components.result.now)) = c.pending_state-state.ensures ∙ ap (λ (n : ℕ). pending n) c.mirrors.ensures.count ∙ ap (λ (cs : List Component). pending (length (mirror_ids cs))) (sym same) in
    intended_valid _ c.layout-2.invariant c.args.range c.args.mirror c.args.file c.in_ok-next.next.items (subst AreNext (sym c.in_ok-next.ensures.same) c.in_ok-next.ensures.next) c.components.result.now inside fresh c.in_ok-made.made.items c.in_ok-made.ensures.made c.put_in.new.components.items c.put_in.ensures c.mark_behind.new.components.items c.mark_behind.ensures c.pending_state-state.result state

pub invariant_of-maker : goal.invariant_of-maker
invariant_of-maker c =
    let ts = new_targets (is_over c.args.range c.args.mirror) (length c.in_ok-next.next.items) c.args.file c.components.result.now in
    subst AreNext (sym c.in_ok-made.ensures.past) (nexts_AreNext c.in_ok-next.next.items ts (subst AreNext (sym c.in_ok-next.ensures.same) c.in_ok-next.ensures.next))
