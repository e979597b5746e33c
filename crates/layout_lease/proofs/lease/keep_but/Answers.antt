use Rattle.std.proofs.Common.{◌<◌, length, sym, ◌∙◌, arith}
use Rattle.std.proofs.lemmas.Bool.{not_from_true, not_from_false}
use Rattle.std.proofs.lemmas.List.Filters.{FiltersInPlace-more_set, FiltersInPlace-more_no}
use Rattle.layout_lease.proofs.Lists.{get_or-any}
use Rattle.layout_lease.proofs.lease.keep_but.Goals as goal
use Rattle.layout_lease.proofs.lease.keep_but.Goals.{then-not-is_of, else-not-is_of}

pub loop-i-preserved : goal.loop-i-preserved
loop-i-preserved c =
    let within : c.loop-i.i < length c.loop-i.leases = omega (arith, c.loop-i.invariant.long) in
    elim c.if-not-is_of.branch [
      | then-not-is_of w ↦ rw (w.leases-is, w.kept-is) (FiltersInPlace-more_set c.loop-i.invariant within (not_from_false _ (sym c.is_of.ensures ∙ w.if-not-is_of.true)) (get_or-any c.loop-i.leases c.loop-i.i _ _ within))
      | else-not-is_of w ↦ rw (w.leases-is, w.kept-is) (FiltersInPlace-more_no c.loop-i.invariant within (not_from_true _ (sym c.is_of.ensures ∙ w.if-not-is_of.false)) (get_or-any c.loop-i.leases c.loop-i.i _ _ within))
    ]
