-- The answer of a writing call at its commit has its cause.
use Rattle.std.proofs.Common.{◌≡◌, ℕ, ◌-◌, ◌<◌, ◌≤◌, true, true≢false, Option, Some, None, List, [], ◌∷◌, ◌++◌, length, refl, sym, ap, subst, ◌∙◌, arith}
use Rattle.std.specs.Prelude.{is_some, nat_lt}
use Rattle.std.specs.List.{AllByRecursion}
use Rattle.flr_base.specs.declared.reply.Entry.{Entry}
use Rattle.flr_base.specs.declared.reply.FailedCall.{FailedCall}
use Rattle.composite_layout.specs.Layouts.{Composite}
use Rattle.client_write.specs.declared.phase.Sent.{Sent}
use Rattle.client_write.specs.declared.phase.Sent.TheVariants as sent
use Rattle.meta_server.specs.declared.answers.Opened.{Opened}
use Rattle.meta_server.specs.Closing.{is_there}
use Rattle.meta_server.specs.Files.{file_of}
use Rattle.script_values.specs.declared.command.Command.{Command}
use Rattle.script_values.specs.Scripts.{ScriptView}
use Rattle.flr_steps.specs.States.{State, state_at}
use Rattle.flr_steps.specs.Traces.{Doing, Made, made_since_open}
use Rattle.flr_sole.specs.Sentences.{IsPast}
use Rattle.flr_claims.specs.Calls.{Call}
use Rattle.flr_claims.specs.Failures.{IsListedFailure}
use Rattle.flr_claims.specs.Writing.{AreCallsOf, HasFailedBy, IsCutOff, IsDone, IsEvictedAt, IsSending, parts_of}
use Rattle.flr_honest.specs.WriteCauses.Stages.{CameTo, EndsFailed, EndsOld, IsOpenedAt, WasEvictedAt}
use Rattle.flr_honest.proofs.WriteCauses.Parts.{all_filtered, all_last}
use Rattle.flr_honest.proofs.WriteCauses.Places.{earlier_states, same_script}

some_there : {X : Type 0} (o : Option X) → is_some o ≡ true → (x : X) × (o ≡ Some x)
some_there None e = absurd (true≢false (sym e))
some_there (Some x) e = (x, refl)

-- the call of an entry before its point, which has done so much
abbrev pub call_with : State → Entry → Command → Doing → Call
call_with before e asked d = record { before = before; client = e.client; asked = asked; first = e.first; at = e.at; takes = e.takes; did = d }

-- what holds of each came to
abbrev pub IsAnsweredSo : Call → Sent → Type 0
IsAnsweredSo k sent.All = IsDone k
IsAnsweredSo k (sent.Failed accepted call) = HasFailedBy k call
IsAnsweredSo k (sent.Old accepted step) = IsCutOff k step

module _ (script : ScriptView) (schedule : List ℕ) (e : Entry) (asked : Command) (before : State) (before_is : state_at script schedule (e.at - 1) ≡ Some before) (d : Doing) (now : ℕ) (past : IsPast now d) (less : now < e.at) (o : Opened)
    (at : IsOpenedAt script schedule e.client e.first asked d.opened o) (calls : AreCallsOf o.layout.generation (parts_of asked o.layout) (made_since_open d)) (there : is_there o.file before.shared.meta ≡ true) where
  abbrev k : Call
  k = call_with before e asked d

  earlier : (place : ℕ) → place ≤ e.at - 1 → state_at before.script before.schedule place ≡ state_at script schedule place
  earlier = earlier_states script schedule (e.at - 1) before before_is

  -- it opened its file, which is still there, and its calls are those of the first parts
  sending : IsSending k at.file
  sending =
      let low = past.opened in
      let found = some_there (file_of o.file before.shared.meta.files) there in
      record {
        opened = record { state = at.state; behind = earlier d.opened (omega (arith, low, less)) ∙ at.behind; file = at.named; later = omega (arith, low, less) };
        there = (found.0, ap (λ (n : ℕ). file_of n before.shared.meta.files) at.number ∙ found.1);
        calls = subst (λ (l : Composite). AreCallsOf l.generation (parts_of asked l) (made_since_open d)) (sym at.layout) calls;
      }

  -- the last of its calls was made by now
  last_by_now : (front : List Made) (last : Made) → made_since_open d ≡ front ++ last ∷ [] → last.place ≤ now
  last_by_now front last e_is =
      all_last (λ (m : Made). m.place ≤ now) front last
      (subst (λ (ms : List Made). AllByRecursion (λ (m : Made). m.place ≤ now) ms) e_is (all_filtered (λ (m : Made). m.place ≤ now) (λ (m : Made). nat_lt d.opened m.place) d.made past.made))

  evicted_at : (place : ℕ) → place < e.at → WasEvictedAt script schedule e.client e.first asked place → IsEvictedAt k place
  evicted_at place low was =
      (record { old = was.old; old_is = earlier (place - 1) (omega (arith, low)) ∙ was.old_is; new = was.new; new_is = earlier place (omega (arith, low)) ∙ was.new_is; client = was.by; step = was.step }, was.evicts)

  was_evicted : (place : ℕ) → place < e.at → IsEvictedAt k place → WasEvictedAt script schedule e.client e.first asked place
  was_evicted place low is = record {
    old = is.0.old;
    old_is = sym (earlier (place - 1) (omega (arith, low))) ∙ is.0.old_is;
    new = is.0.new;
    new_is = sym (earlier place (omega (arith, low))) ∙ is.0.new_is;
    by = is.0.client;
    step = is.0.step;
    evicts = is.1;
  }

  failed_so : (call : FailedCall) → EndsFailed script schedule e.client e.first asked (made_since_open d) call → HasFailedBy k call
  failed_so call ends = record {
    file = at.file;
    sending = sending;
    front = ends.front;
    last = ends.last;
    ends = ends.ends;
    failed = subst (λ (s : ScriptView). IsListedFailure s.fails ends.last call) (sym (same_script script schedule (e.at - 1) before before_is)) ends.failed;
  }

  cut_so : (step : ℕ) → EndsOld script schedule e.client e.first asked d.opened (made_since_open d) step → IsCutOff k step
  cut_so step ends =
      let by_now = last_by_now ends.front ends.last ends.ends.in_order in
      let from = at.began in
      let since = ends.evicted.since in
      let until = ends.evicted.before in
      record {
        file = at.file;
        sending = sending;
        front = ends.front;
        last = ends.last;
        ends = ends.ends;
        some = ends.some;
        kept = ends.kept;
        old = ends.old;
        evicted = evicted_at step (omega (arith, by_now, until, less)) ends.evicted.at;
        since = omega (arith, from, since);
        before = until;
        latest = λ later is under. ends.evicted.latest later (was_evicted later (omega (arith, under, by_now, less)) is) under;
      }

  -- by what came of its parts
  pub answered_so : (came : Sent) → CameTo script schedule e.client e.first asked d.opened (length (parts_of asked o.layout)) came (made_since_open d)
      → IsAnsweredSo k came
  answered_so sent.All so = record { file = at.file; sending = sending; all = so.0 ∙ ap (λ (l : Composite). length (parts_of asked l)) (sym at.layout); through = so.1 }
  answered_so (sent.Failed accepted call) so = failed_so call so
  answered_so (sent.Old accepted step) so = cut_so step so
