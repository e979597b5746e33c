use Rattle.std.proofs.Common.{List, ℕ, Err, sym, subst, ap, inl, inr}
use Rattle.flr_statuses.proofs.Told.{leaves_front, tells, tells_front, tells_long, tells_long_front}
use Rattle.script_text.specs.declared.error.ScriptError.TheVariants as errors
use Rattle.script_text.specs.Refusals.{refusal_line}
use Rattle.flr_steps.specs.Reports.{text_of_run}
use Rattle.flr_replay.specs.declared.play.Played.{Played}
use Rattle.flr_replay.specs.Outcomes.{IsOutcome, LeadsTo}
use Rattle.flr_replay.specs.Replays.{IsRefusal, IsReport}
use Rattle.flr_replay.proofs.Taken.{is_no_good}
use Rattle.flr_replay.proofs.Told.{long_refused, report_of_run}
use Rattle.flr_replay.proofs.main_call.replay_main.Goals as goal

pub returns-in-Err-TooLong-clause-refused : goal.returns-in-Err-TooLong-clause-refused
returns-in-Err-TooLong-clause-refused g c e =
    tells_long IsRefusal 67108864 (refusal_line errors.TooLong) long_refused (g.S.Source.left c.args.input.now) (g.K.Sink.taken c.args.out.now) (g.K.Sink.taken c.written.new.out) (c.in-Err-TooLong.ensures.long (ap Err c.in-Err-TooLong.field-0-is)) (c.written.ensures.whole e)

pub returns-in-Err-TooLong-clause-write_front : goal.returns-in-Err-TooLong-clause-write_front
returns-in-Err-TooLong-clause-write_front g c e =
    tells_long_front IsRefusal 67108864 (refusal_line errors.TooLong) long_refused IsReport (g.S.Source.left c.args.input.now) (g.K.Sink.taken c.args.out.now) (g.K.Sink.taken c.written.new.out) _ _ (c.in-Err-TooLong.ensures.long (ap Err c.in-Err-TooLong.field-0-is)) (c.written.ensures.front e)

pub returns-in-Ok-Whole-clause-done : goal.returns-in-Ok-Whole-clause-done
returns-in-Ok-Whole-clause-done g c e =
    let outcome = subst (λ (o : Played). IsOutcome c.as_slice.result.now o) c.in-Ok-Whole.field-0-is c.in-Ok-Whole.ensures in
    let leads = subst (λ (b : List ℕ). LeadsTo b c.in-Ok-Whole.world) c.as_slice.ensures.same outcome in
    tells IsReport (g.S.Source.left c.args.input.now) (g.S.Source.left c.read_all.new.source) (g.K.Sink.taken c.args.out.now) (g.K.Sink.taken c.reported.new.out) c.in-Ok.bytes (text_of_run c.in-Ok-Whole.world) c.in-Ok.ensures.whole (report_of_run c.in-Ok.bytes c.in-Ok-Whole.world leads) (c.reported.ensures.whole e)

pub returns-in-Ok-Whole-clause-write_front : goal.returns-in-Ok-Whole-clause-write_front
returns-in-Ok-Whole-clause-write_front g c e =
    let outcome = subst (λ (o : Played). IsOutcome c.as_slice.result.now o) c.in-Ok-Whole.field-0-is c.in-Ok-Whole.ensures in
    let leads = subst (λ (b : List ℕ). LeadsTo b c.in-Ok-Whole.world) c.as_slice.ensures.same outcome in
    tells_front IsReport IsRefusal (g.S.Source.left c.args.input.now) (g.S.Source.left c.read_all.new.source) (g.K.Sink.taken c.args.out.now) (g.K.Sink.taken c.reported.new.out) _ _ c.in-Ok.bytes (text_of_run c.in-Ok-Whole.world) c.in-Ok.ensures.whole (inl (report_of_run c.in-Ok.bytes c.in-Ok-Whole.world leads)) c.reported.ensures.front

pub returns-in-Ok-Whole-clause-memory : goal.returns-in-Ok-Whole-clause-memory
returns-in-Ok-Whole-clause-memory g c e =
    let outcome = subst (λ (o : Played). IsOutcome c.as_slice.result.now o) c.in-Ok-Whole.field-0-is c.in-Ok-Whole.ensures in
    let leads = subst (λ (b : List ℕ). LeadsTo b c.in-Ok-Whole.world) c.as_slice.ensures.same outcome in
    leaves_front IsReport (g.S.Source.left c.args.input.now) (g.S.Source.left c.read_all.new.source) (g.K.Sink.taken c.args.out.now) (g.K.Sink.taken c.reported.new.out) c.in-Ok.bytes (text_of_run c.in-Ok-Whole.world) c.in-Ok.ensures.whole (report_of_run c.in-Ok.bytes c.in-Ok-Whole.world leads) c.reported.ensures.front

pub returns-in-Ok-Refused-clause-write_front : goal.returns-in-Ok-Refused-clause-write_front
returns-in-Ok-Refused-clause-write_front g c e =
    let text = c.as_slice-in-Ok-Refused.result.now in
    let outcome = subst (λ (o : Played). IsOutcome c.as_slice.result.now o) c.in-Ok-Refused.field-0-is c.in-Ok-Refused.ensures in
    let is = subst (λ (b : List ℕ). IsRefusal b text) c.as_slice.ensures.same (subst (λ (t : List ℕ). IsRefusal c.as_slice.result.now t) (sym c.as_slice-in-Ok-Refused.ensures.value) outcome) in
    tells_front IsReport IsRefusal (g.S.Source.left c.args.input.now) (g.S.Source.left c.read_all.new.source) (g.K.Sink.taken c.args.out.now) (g.K.Sink.taken c.written-in-Ok-Refused.new.out) _ _ c.in-Ok.bytes text c.in-Ok.ensures.whole (inr (inl is)) (c.written-in-Ok-Refused.ensures.front e)

pub returns-in-Ok-Refused-clause-good : goal.returns-in-Ok-Refused-clause-good
returns-in-Ok-Refused-clause-good g c e =
    let text = c.as_slice-in-Ok-Refused.result.now in
    let outcome = subst (λ (o : Played). IsOutcome c.as_slice.result.now o) c.in-Ok-Refused.field-0-is c.in-Ok-Refused.ensures in
    let is = subst (λ (b : List ℕ). IsRefusal b text) c.as_slice.ensures.same (subst (λ (t : List ℕ). IsRefusal c.as_slice.result.now t) (sym c.as_slice-in-Ok-Refused.ensures.value) outcome) in
    is_no_good (g.S.Source.left c.args.input.now) (g.K.Sink.taken c.args.out.now) (g.K.Sink.taken c.written-in-Ok-Refused.new.out)
    (tells IsRefusal (g.S.Source.left c.args.input.now) (g.S.Source.left c.read_all.new.source) (g.K.Sink.taken c.args.out.now) (g.K.Sink.taken c.written-in-Ok-Refused.new.out) c.in-Ok.bytes text c.in-Ok.ensures.whole is (c.written-in-Ok-Refused.ensures.whole e))
