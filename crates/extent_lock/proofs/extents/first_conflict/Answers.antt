use Rattle.std.proofs.Common.{true, false, sym, ◌∙◌}
use Rattle.extent_lock.specs.Conflicts.{conflicts}
use Rattle.extent_lock.proofs.Firsts.{first_of-filter_more}
use Rattle.extent_lock.proofs.extents.first_conflict.Goals as goal
use Rattle.extent_lock.proofs.extents.first_conflict.Goals.{then-conflicts, else-conflicts}

pub loop-lock-preserved : goal.loop-lock-preserved
loop-lock-preserved c =
    elim c.if-conflicts.branch [
      | then-conflicts w ↦
          let more = first_of-filter_more (conflicts c.args.asked) c.args.held.now c.loop-lock.lock-index _ true c.loop-lock-test.true (sym c.conflicts.ensures ∙ w.if-conflicts.true) in
          cc
      | else-conflicts w ↦
          let more = first_of-filter_more (conflicts c.args.asked) c.args.held.now c.loop-lock.lock-index _ false c.loop-lock-test.true (sym c.conflicts.ensures ∙ w.if-conflicts.false) in
          cc
    ]
