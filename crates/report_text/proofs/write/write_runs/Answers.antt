use Rattle.std.proofs.Common.{◌≡◌, ℕ, List, ◌++◌, ap, sym, ◌∙◌, append_assoc, rules}
use Rattle.report_text.specs.Texts.{runs_words}
use Rattle.report_text.proofs.Writes.{so_far_then, so_far_cut}
use Rattle.report_text.proofs.write.write_runs.Goals as goal

-- what was written, the piece and what is left
parts : (all before rest piece after text : List ℕ) → all ≡ before ++ rest → rest ≡ piece ++ after → text ≡ piece → all ≡ (before ++ text) ++ after
parts all before rest piece after text e f g = e ∙ ap (λ (xs : List ℕ). before ++ xs) (f ∙ ap (λ (xs : List ℕ). xs ++ after) (sym g)) ∙ sym (append_assoc before text after)

pub returns-in_err-write_text-clause-front : goal.returns-in_err-write_text-clause-front
returns-in_err-write_text-clause-front g c =
    let so_far = c.loop-rest.invariant.taken in
    so_far_cut (g.K.Sink.taken c.args.out.now) (g.K.Sink.taken c.loop-rest.out) (g.K.Sink.taken c.write_text.new.out) c.in_err-write_text.field-0.0 c.from_residual-in_err-write_text.result so_far.0 c.deref.result.now (runs_words c.in_ok-piece.after.now) (runs_words c.args.schedule.now)
    (parts (runs_words c.args.schedule.now) so_far.0 (runs_words c.loop-rest.rest.now) c.in_ok-piece.piece.items (runs_words c.in_ok-piece.after.now) c.deref.result.now so_far.1 c.in_ok-piece.ensures.words c.deref.ensures.value)
    c.from_residual-in_err-write_text.ensures.0 so_far.2 c.in_err-write_text.ensures.front

pub loop-rest-preserved : goal.loop-rest-preserved
loop-rest-preserved g c =
    let so_far = c.loop-rest.invariant.taken in record {
      taken = (
        so_far.0 ++ c.deref.result.now,
        parts (runs_words c.args.schedule.now) so_far.0 (runs_words c.loop-rest.rest.now) c.in_ok-piece.piece.items (runs_words c.in_ok-piece.after.now) c.deref.result.now so_far.1 c.in_ok-piece.ensures.words c.deref.ensures.value,
        so_far_then (g.K.Sink.taken c.args.out.now) (g.K.Sink.taken c.loop-rest.out) (g.K.Sink.taken c.write_text.new.out) c.in_ok-write_text.field-0 so_far.0 c.deref.result.now so_far.2 c.in_ok-write_text.ensures.front,
      );
      kept = search rules;
    }
