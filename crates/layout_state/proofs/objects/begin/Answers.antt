-- A layout is valid once a copy begins, and so are the next numbers.
use Rattle.std.proofs.Common.{length, sym, subst, ap, ◌∙◌}
use Rattle.composite_layout.specs.Layouts.{Composite}
use Rattle.layout_state.specs.Making.{AreNext, new_targets}
use Rattle.layout_state.specs.Marking.{is_named}
use Rattle.layout_state.proofs.ObjectLaws.{few_components, begun_valid, nexts_AreNext}
use Rattle.layout_state.proofs.objects.begin.Goals as goal

pub make_named-requires-clause-few : goal.make_named-requires-clause-few
make_named-requires-clause-few c = rw c.components.ensures.same (few_components _ c.components.ensures.valid)

pub invariant_of-layout : goal.invariant_of-layout
invariant_of-layout c =
    begun_valid _ c.layout.invariant c.as_slice.result.now c.args.file c.in_ok-next.next.items (subst AreNext (sym c.in_ok-next.ensures.same) c.in_ok-next.ensures.next) c.components.result.now (c.components.ensures.same ∙ ap (λ (l : Composite). l.components) (sym c.layout.view_is)) c.in_ok-made.made.items c.in_ok-made.ensures.made c.put_in.new.components.items c.put_in.ensures

pub invariant_of-maker : goal.invariant_of-maker
invariant_of-maker c =
    let ts = new_targets (is_named c.as_slice.result.now) (length c.in_ok-next.next.items) c.args.file c.components.result.now in
    subst AreNext (sym c.in_ok-made.ensures.past) (nexts_AreNext c.in_ok-next.next.items ts (subst AreNext (sym c.in_ok-next.ensures.same) c.in_ok-next.ensures.next))
