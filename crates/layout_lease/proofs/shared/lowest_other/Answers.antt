use Rattle.std.proofs.Common.{true, false}
use Rattle.std.proofs.lemmas.Bool.{not_from_true, not_from_false, eq-eqb, ne_eqb}
use Rattle.layout_lease.proofs.Lowest.{lowest-more}
use Rattle.layout_lease.proofs.shared.lowest_other.Goals as goal
use Rattle.layout_lease.proofs.shared.lowest_other.Goals.{then-share-client, else-share-client}

pub loop-share-preserved : goal.loop-share-preserved
loop-share-preserved c =
    elim c.if-share-client.branch [
      | then-share-client w ↦
          let more = lowest-more c.args.client c.args.shares.now c.loop-share.share-index _ true c.loop-share-test.true (not_from_false _ (ne_eqb _ _ w.if-share-client.true)) in
          cc
      | else-share-client w ↦
          let more = lowest-more c.args.client c.args.shares.now c.loop-share.share-index _ false c.loop-share-test.true (not_from_true _ (eq-eqb _ _ w.if-share-client.false)) in
          cc
    ]
