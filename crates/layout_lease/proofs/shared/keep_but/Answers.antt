use Rattle.std.proofs.Common.{◌<◌, length, sym, ◌∙◌, arith}
use Rattle.std.proofs.lemmas.Bool.{not_from_true, not_from_false}
use Rattle.std.proofs.lemmas.List.Filters.{FiltersInPlace-more_set, FiltersInPlace-more_no}
use Rattle.layout_lease.proofs.Lists.{get_or-any}
use Rattle.layout_lease.proofs.shared.keep_but.Goals as goal
use Rattle.layout_lease.proofs.shared.keep_but.Goals.{then-not-is_same, else-not-is_same}

pub loop-i-preserved : goal.loop-i-preserved
loop-i-preserved c =
    let within : c.loop-i.i < length c.loop-i.shares = omega (arith, c.loop-i.invariant.long) in
    elim c.if-not-is_same.branch [
      | then-not-is_same w ↦ rw (w.shares-is, w.kept-is) (FiltersInPlace-more_set c.loop-i.invariant within (not_from_false _ (sym c.is_same.ensures ∙ w.if-not-is_same.true)) (get_or-any c.loop-i.shares c.loop-i.i _ _ within))
      | else-not-is_same w ↦ rw (w.shares-is, w.kept-is) (FiltersInPlace-more_no c.loop-i.invariant within (not_from_true _ (sym c.is_same.ensures ∙ w.if-not-is_same.false)) (get_or-any c.loop-i.shares c.loop-i.i _ _ within))
    ]
