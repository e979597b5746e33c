use Rattle.std.proofs.Common.{refl, rules, arith}
use Rattle.report_text.proofs.RunWords.{one_more}
use Rattle.report_text.proofs.schedules.runs_piece.Goals as goal
use Rattle.report_text.proofs.schedules.runs_piece.Goals.{in_default, in-len1-up+in_ok-put_run+then-len-ge-PIECE}

pub loop-rest-preserved : goal.loop-rest-preserved
loop-rest-preserved c = record {
  words = one_more _ _ _ _ _ _ c.times-count.result refl (omega arith) c.loop-rest.invariant.words c.times-count.ensures.same c.times-count.ensures.next c.in_ok-put_run.ensures c.split_at.ensures.back;
  fewer = search rules;
}

pub returns-clause-words : goal.returns-clause-words
returns-clause-words c =
    elim c.if-rest-lt1.branch [
      | in_default w ↦ rw (w.piece-is, w.rest-is) c.loop-rest.invariant.words
      | in-len1-up+in_ok-put_run+then-len-ge-PIECE w ↦
          rw (w.piece-is, w.rest-is) (one_more _ _ _ _ _ _ w.times-count.result refl (omega arith) c.loop-rest.invariant.words w.times-count.ensures.same w.times-count.ensures.next w.in_ok-put_run.ensures w.split_at.ensures.back)
    ]
