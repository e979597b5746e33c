use Rattle.std.proofs.Common.{List, ℕ, Err, sym, subst, ap, inl, inr}
use Rattle.flr_statuses.proofs.Told.{tells_front, tells_long, tells_long_front}
use Rattle.script_text.specs.declared.error.ScriptError.TheVariants as errors
use Rattle.script_text.specs.Refusals.{refusal_line}
use Rattle.flr_migrate.specs.declared.migrate.Outcome.{Outcome}
use Rattle.flr_migrate.specs.Migrations.{IsMigrated, IsRefusal}
use Rattle.flr_migrate.specs.Outcomes.{IsOutcome}
use Rattle.flr_migrate.proofs.Refused.{long_refused}
use Rattle.flr_migrate.proofs.main_call.migrate_main.Goals as goal

pub returns-in-Err-TooLong-clause-refused : goal.returns-in-Err-TooLong-clause-refused
returns-in-Err-TooLong-clause-refused g c e =
    tells_long IsRefusal 1048576 (refusal_line errors.TooLong) long_refused (g.S.Source.left c.args.input.now) (g.K.Sink.taken c.args.out.now) (g.K.Sink.taken c.written.new.out) (c.in-Err-TooLong.ensures.long (ap Err c.in-Err-TooLong.field-0-is)) (c.written.ensures.whole e)

pub returns-in-Err-TooLong-clause-write_front : goal.returns-in-Err-TooLong-clause-write_front
returns-in-Err-TooLong-clause-write_front g c e =
    tells_long_front IsRefusal 1048576 (refusal_line errors.TooLong) long_refused IsMigrated (g.S.Source.left c.args.input.now) (g.K.Sink.taken c.args.out.now) (g.K.Sink.taken c.written.new.out) _ _ (c.in-Err-TooLong.ensures.long (ap Err c.in-Err-TooLong.field-0-is)) (c.written.ensures.front e)

pub returns-in-Ok-Refusal-clause-write_front : goal.returns-in-Ok-Refusal-clause-write_front
returns-in-Ok-Refusal-clause-write_front g c e =
    let text = c.as_slice-in-Ok-Refusal.result.now in
    let outcome = subst (λ (o : Outcome). IsOutcome c.as_slice.result.now o) c.in-Ok-Refusal.field-0-is c.in-Ok-Refusal.ensures in
    let is = subst (λ (b : List ℕ). IsRefusal b text) c.as_slice.ensures.same (subst (λ (t : List ℕ). IsRefusal c.as_slice.result.now t) (sym c.as_slice-in-Ok-Refusal.ensures.same) outcome) in
    tells_front IsMigrated IsRefusal (g.S.Source.left c.args.input.now) (g.S.Source.left c.read_all.new.source) (g.K.Sink.taken c.args.out.now) (g.K.Sink.taken c.written-in-Ok-Refusal.new.out) _ _ c.in-Ok.bytes text c.in-Ok.ensures.whole (inr (inl is)) (c.written-in-Ok-Refusal.ensures.front e)
