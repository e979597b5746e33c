use Rattle.std.proofs.Common.{true, false, sym, ◌∙◌}
use Rattle.extent_lock.specs.Writers.{is_write_but}
use Rattle.extent_lock.proofs.Firsts.{first_of-filter_more}
use Rattle.extent_lock.proofs.extents.first_write_but.Goals as goal
use Rattle.extent_lock.proofs.extents.first_write_but.Goals.{then-is_write_but, else-is_write_but}

pub loop-lock-preserved : goal.loop-lock-preserved
loop-lock-preserved c =
    elim c.if-is_write_but.branch [
      | then-is_write_but w ↦
          let more = first_of-filter_more (is_write_but c.args.asker c.args.object) c.args.held.now c.loop-lock.lock-index _ true c.loop-lock-test.true (sym c.is_write_but.ensures ∙ w.if-is_write_but.true) in
          cc
      | else-is_write_but w ↦
          let more = first_of-filter_more (is_write_but c.args.asker c.args.object) c.args.held.now c.loop-lock.lock-index _ false c.loop-lock-test.true (sym c.is_write_but.ensures ∙ w.if-is_write_but.false) in
          cc
    ]
