use Rattle.std.proofs.Common.{◌∙◌}
use Rattle.whole_report.proofs.Counts.{count_more, count_same}
use Rattle.whole_report.proofs.lines.ends.Goals as goal
use Rattle.whole_report.proofs.lines.ends.Goals.{then-byte-eq10, else-byte-eq10}

pub loop-byte-preserved : goal.loop-byte-preserved
loop-byte-preserved c = elim c.if-byte-eq10.branch [
  | then-byte-eq10 w ↦ count_more c.args.text.now c.loop-byte.byte-index c.loop-byte.lines c.if-byte-eq10.lines c.loop-byte-test.true c.loop-byte.invariant w.if-byte-eq10.true (w.lines-is ∙ w.saturating_add-lines.ensures)
  | else-byte-eq10 w ↦ count_same c.args.text.now c.loop-byte.byte-index c.loop-byte.lines c.if-byte-eq10.lines c.loop-byte-test.true c.loop-byte.invariant w.if-byte-eq10.false w.lines-is
]
