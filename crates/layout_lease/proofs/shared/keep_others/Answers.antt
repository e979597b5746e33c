use Rattle.std.proofs.Common.{◌<◌, length, arith}
use Rattle.std.proofs.lemmas.Bool.{not_from_true, not_from_false, eq-eqb, ne_eqb}
use Rattle.std.proofs.lemmas.List.Filters.{FiltersInPlace-more_set, FiltersInPlace-more_no}
use Rattle.layout_lease.proofs.Lists.{get_or-any}
use Rattle.layout_lease.proofs.shared.keep_others.Goals as goal
use Rattle.layout_lease.proofs.shared.keep_others.Goals.{then-share-client, else-share-client}

pub loop-i-preserved : goal.loop-i-preserved
loop-i-preserved c =
    let within : c.loop-i.i < length c.loop-i.shares = omega (arith, c.loop-i.invariant.long) in
    elim c.if-share-client.branch [
      | then-share-client w ↦ rw (w.shares-is, w.kept-is) (FiltersInPlace-more_set c.loop-i.invariant within (not_from_false _ (ne_eqb _ _ w.if-share-client.true)) (get_or-any c.loop-i.shares c.loop-i.i _ _ within))
      | else-share-client w ↦ rw (w.shares-is, w.kept-is) (FiltersInPlace-more_no c.loop-i.invariant within (not_from_true _ (eq-eqb _ _ w.if-share-client.false)) (get_or-any c.loop-i.shares c.loop-i.i _ _ within))
    ]
