use Rattle.std.proofs.Common.{ℕ, List, [], ◌∷◌, ◌++◌, refl, ◌∙◌, sym, append_assoc}
use Rattle.std.specs.Prelude.{codes}
use Rattle.report_text.specs.Texts.{runs_words, text_of_schedule}
use Rattle.report_text.proofs.Parts.{schedule_parts}
use Rattle.report_text.proofs.Writes.{taken_whole, so_far_then, so_far_cut, so_far_end, two_cut}
use Rattle.report_text.proofs.write.write_schedule.Goals as goal

abbrev head : List ℕ
head = codes "schedule"

abbrev end : List ℕ
end = 10 ∷ []

pub returns-in_err-write_text-clause-front : goal.returns-in_err-write_text-clause-front
returns-in_err-write_text-clause-front g c =
    let words : List ℕ = runs_words c.args.schedule.now in
    two_cut (g.K.Sink.taken c.args.out.now) (g.K.Sink.taken c.write_text.new.out) c.in_err-write_text.field-0.0 c.from_residual.result head (words ++ end) (text_of_schedule c.args.schedule.now) head
    (schedule_parts c.args.schedule.now) refl c.from_residual.ensures.0 c.in_err-write_text.ensures.front

pub returns-in_err-write_runs-clause-front : goal.returns-in_err-write_runs-clause-front
returns-in_err-write_runs-clause-front g c =
    let words : List ℕ = runs_words c.args.schedule.now in
    so_far_cut (g.K.Sink.taken c.args.out.now) (g.K.Sink.taken c.write_text.new.out) (g.K.Sink.taken c.write_runs.new.out) c.in_err-write_runs.field-0.0 c.from_residual-in_err-write_runs.result head words end (text_of_schedule c.args.schedule.now)
    (schedule_parts c.args.schedule.now ∙ sym (append_assoc head words end)) c.from_residual-in_err-write_runs.ensures.0 (taken_whole (g.K.Sink.taken c.args.out.now) (g.K.Sink.taken c.write_text.new.out) c.in_ok-write_text.field-0 head c.in_ok-write_text.ensures.front) c.in_err-write_runs.ensures.front

pub returns-clause-front : goal.returns-clause-front
returns-clause-front g c =
    let words : List ℕ = runs_words c.args.schedule.now in
    so_far_end (g.K.Sink.taken c.args.out.now) (g.K.Sink.taken c.write_runs.new.out) (g.K.Sink.taken c.write_text-2.new.out) c.write_text-2.result (head ++ words) end (text_of_schedule c.args.schedule.now)
    (schedule_parts c.args.schedule.now ∙ sym (append_assoc head words end))
    (so_far_then (g.K.Sink.taken c.args.out.now) (g.K.Sink.taken c.write_text.new.out) (g.K.Sink.taken c.write_runs.new.out) c.in_ok-write_runs.field-0 head words (taken_whole (g.K.Sink.taken c.args.out.now) (g.K.Sink.taken c.write_text.new.out) c.in_ok-write_text.field-0 head c.in_ok-write_text.ensures.front) c.in_ok-write_runs.ensures.front)
    c.write_text-2.ensures.front
