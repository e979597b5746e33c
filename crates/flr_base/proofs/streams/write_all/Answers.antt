use Rattle.std.proofs.Common.{rules}
use Rattle.flr_base.proofs.Ends.{taken_more}
use Rattle.flr_base.proofs.streams.write_all.Goals as goal

pub loop-rest-preserved : goal.loop-rest-preserved
loop-rest-preserved g c = record {
  taken = taken_more _ _ _ _ _ _ c.in_ok-count.count c.loop-rest.invariant.taken c.in_ok-count.ensures.bytes c.split_at.ensures.back;
  kept = search rules;
}
