-- A write or a truncate that is begun again has landed nothing.
use Rattle.std.proofs.Common.{◌≡◌, ℕ, suc, ◌+◌, ◌<◌, Bool, true, false, cond, ◌&&◌, true≢false, nat_eq, nat_lt, Option, Some, None, List, [], ◌∷◌, ◌++◌, length, inr, refl, sym, ap, subst, ◌∙◌, arith}
use Rattle.std.specs.Prelude.{is_some, slice_get, unwrap_or}
use Rattle.std.proofs.lemmas.Bool.Decides.{nat_tests}
use Rattle.flr_base.specs.declared.reply.ObjectId.{ObjectId}
use Rattle.flr_base.specs.declared.reply.Range.{Range}
use Rattle.flr_base.specs.declared.reply.Reply.{Reply}
use Rattle.mirror_select.specs.declared.types.Piece.{Piece}
use Rattle.object_target.specs.declared.call.CallAnswer.{CallAnswer}
use Rattle.object_target.specs.declared.call.CallAnswer.TheVariants as answer
use Rattle.object_target.specs.declared.call.CallEntry.{CallEntry}
use Rattle.object_target.specs.declared.call.CallKind.TheVariants as kind
use Rattle.object_target.specs.declared.fail.Fail.{Fail}
use Rattle.object_target.specs.Calls.{after_write, write_answer}
use Rattle.object_target.specs.TargetState.{bytes_at, version_at}
use Rattle.extent_lock.specs.Extents.{blocker}
use Rattle.meta_server.specs.declared.answers.Opened.{Opened}
use Rattle.meta_server.specs.Closing.{is_there, last_eviction}
use Rattle.meta_server.specs.Opening.{write_opens}
use Rattle.meta_server.specs.Outcomes.{Gives, Refuses, Waits}
use Rattle.meta_server.specs.Outcomes as meta
use Rattle.mirror_admin.specs.OneStep.{one_step}
use Rattle.script_values.specs.declared.command.Command.{Command}
use Rattle.script_values.specs.declared.command.Command.TheVariants as command
use Rattle.call_steps.specs.Pieces.{object_of, piece_at}
use Rattle.call_steps.specs.Servers.{Servers, next_call_on}
use Rattle.call_steps.specs.Steps.{Outcome, Going, Fixed, Ended, Answered, Blocked, widen}
use Rattle.client_write.specs.declared.phase.Sent.{Sent}
use Rattle.client_write.specs.declared.phase.Sent.TheVariants as sent
use Rattle.client_write.specs.declared.phase.WriteAt.{WriteAt}
use Rattle.client_write.specs.declared.phase.WriteAt.TheVariants as write
use Rattle.client_write.specs.Calls.{TruncateView, WriteView}
use Rattle.client_write.specs.Parts.{came_of}
use Rattle.client_write.specs.Truncates.{opens_cut}
use Rattle.client_write.specs.Views.{WritingView}
use Rattle.client_write.specs.Writes.{after_send, bytes_of, commits_to, commits_write, locks_piece, lock_for, opens, piece_sent, range_of, target_of, write_at, write_on}
use Rattle.client_write.proofs.Writable.{object_there}
use Rattle.flr_steps.specs.declared.client.Client.{Client}
use Rattle.flr_steps.specs.declared.client.Running.{Running}
use Rattle.flr_steps.specs.declared.client.Running.TheVariants as running
use Rattle.flr_steps.specs.Commands.{answered_by, at_once}
use Rattle.flr_steps.specs.States.{State, after, client_at, next, place_in}
use Rattle.flr_steps.specs.Traces.{Doing, Made, Trace, doing_of, done_with, has_landed, is_accepted, is_idle, is_opening, is_sending, made_by, sent_calls, trace_after, traced}
use Rattle.flr_steps.specs.Traces as traces
use Rattle.flr_numbers.specs.Hands.{Has}
use Rattle.flr_numbers.specs.Sentences.{IsCallOf, hand_of}
use Rattle.flr_numbers.proofs.CallFits.{are_there}
use Rattle.flr_sole.proofs.Making.{made_one, sent_more, sent_one}
use Rattle.flr_sole.proofs.Sending.{with_made}
use Rattle.flr_claims.specs.Sending.{Attempt, Part, attempt_of}
use Rattle.flr_bytes.specs.Runs.{Ground}
use Rattle.flr_bytes.specs.Sent.{AreSentFor, CallSent}
use Rattle.flr_honest.proofs.Sent.Parts.{behind, nothing_sent}
use Rattle.flr_honest.specs.WriteCauses.Again.{IsAgain, NothingLanded}
use Rattle.flr_honest.proofs.WriteCauses.EachCall.{OnCall}

-- ---- calls that were sent

-- where no call for a part landed none did
none_landed : (fails : List Fail) (parts : List Part) (made : List Made) → AreSentFor parts made
    → ((place : ℕ) (p : Part) (m : Made) → slice_get parts place ≡ Some p → slice_get made place ≡ Some m → has_landed fails m ≡ true → ⊥) → NothingLanded fails made
none_landed fails parts [] for each = tt
none_landed fails [] (m ∷ ms) for each = absurd for
none_landed fails (p ∷ ps) (m ∷ ms) for each = (each 0 p m refl refl, none_landed fails ps ms for.1 (λ place q n. each (suc place) q n))

no_length : {X : Type 0} (xs : List X) → length xs ≡ 0 → xs ≡ []
no_length [] e = refl
no_length (x ∷ xs) e = absurd (cc e)

-- one call more that was too old, behind none, leaves none
pub old_leaves : (d : Doing) (m : Made) → d.opened < m.place → (is_sending m.entry.kind && is_accepted m.entry.answer) ≡ false → length (sent_calls d) ≡ 0
    → sent_calls (with_made d (m ∷ [])) ≡ []
old_leaves d m after e none =
    sent_more d.opened d.made (m ∷ []) ∙ (λ j. no_length (sent_calls d) none j ++ sent_calls (record { opened = d.opened; made = m ∷ [] })) ∙ sent_one d.opened m false after e

module _ (fails : List Fail) where
  -- a call that is begun again has landed nothing
  abbrev pub HasNone : Running → Doing → Type 0
  HasNone call d = IsAgain call → NothingLanded fails (sent_calls d)

  pub idle_none : (d : Doing) → HasNone running.Idle d
  idle_none d again = absurd again

  abbrev pub On : (Servers → Doing) → Outcome Running → Type 0
  On then o = OnCall HasNone idle_none then o

  -- a call of another kind isn't begun again
  pub other_none : {C : Type 0} (f : C → Running) → ((x : C) → IsAgain (f x) → ⊥) → (then : Servers → Doing) (o : Outcome C) → On then (widen f o)
  other_none f never then (Going next after) = λ again. absurd (never next again)
  other_none f never then (Fixed next reply takes after) = λ again. absurd (never next again)
  other_none f never then (Ended after) = tt
  other_none f never then (Answered reply takes after) = tt
  other_none f never then (Blocked holder) = tt

  answers : (then : Servers → Doing) (s : Servers) (o : meta.Outcome Reply) → On then (answered_by s o)
  answers then s (Gives answer after) = tt
  answers then s (Refuses answer) = tt
  answers then s (Waits holder) = tt

  pub once : (then : Servers → Doing) (client place : ℕ) (s : Servers) (asked : Command) → On then (at_once client asked place s)
  once then client place s (command.Read name offset len) = tt
  once then client place s (command.Write name offset bytes) = tt
  once then client place s (command.Truncate name size) = tt
  once then client place s (command.Lfs of) = answers then s (one_step client of place s.meta)
  once then client place s (command.Evict other) = tt
  once then client place s (command.Rot object offset byte) = tt

  -- who opens a file goes on with locks
  pub write_opened : (then : Servers → Doing) (s : Servers) (w : WriteView) (o : meta.Outcome Opened) → On then (widen running.Write (opens w s o))
  write_opened then s w (Gives o after) = λ again. absurd (cc again)
  write_opened then s w (Refuses reply) = tt
  write_opened then s w (Waits holder) = tt

  pub cut_opened : (then : Servers → Doing) (s : Servers) (t : TruncateView) (o : meta.Outcome Opened) → On then (widen running.Truncate (opens_cut t s o))
  cut_opened then s t (Gives o after) = λ again. absurd (cc again)
  cut_opened then s t (Refuses reply) = tt
  cut_opened then s t (Waits holder) = tt

module _ (s : State) (c : ℕ) (tr : Trace) (g : Ground s tr) (client : Client) (here : client_at s.clients c ≡ Some client) where
  abbrev pub fails : List Fail
  fails = s.script.fails

  abbrev pub d : Doing
  d = doing_of tr c

  abbrev pub place : ℕ
  place = place_in s

  abbrev pub sh : Servers
  sh = s.shared

  abbrev pub OnStep : (Servers → Doing) → Outcome Running → Type 0
  OnStep then o = OnCall (HasNone fails) (idle_none fails) then o

  -- what a call under way has done, by whether it opens its file at this step
  abbrev pub done_by : Bool → Servers → Doing
  done_by opens after = done_with false opens place (made_by place sh.targets after.targets) d

  pub before : d.opened < place
  before = let low = (g.sole.past c client here).opened in omega (arith, low)

  -- where the file of an attempt is gone nothing of it has landed
  pub gone : (a : Attempt) → attempt_of client.call ≡ Some a → AreSentFor a.parts (sent_calls d) → is_there a.opened.file sh.meta ≡ false
      → NothingLanded fails (sent_calls d)
  gone a is for none = none_landed fails a.parts (sent_calls d) for (λ at p m there sent landed.
      (let stands = g.sole.parts c a at p (record { client = client; here = here; attempt = is }) (inr (record { there = there; made = m; sent = sent; landed = landed })) in true≢false (sym (ap is_some stands.there) ∙ none)))

  -- ---- writes

  module _ (w : WriteView) where
    abbrev AtNext : Doing → WriteAt → Type 0
    AtNext e a = (a ≡ write.UnlockAgain) → NothingLanded fails (sent_calls e)

    locks : (then : Servers → Doing) (x : WritingView) (next : ℕ) (o : Option (ℕ × Range)) → OnStep then (widen running.Write (locks_piece w sh x next o))
    locks then x next (Some told) = tt
    locks then x next None = by (nat_lt (next + 1) (length x.pieces)) (then _)
      where
        by : (b : Bool) (e : Doing) → AtNext e (cond b (write.Lock x (next + 1)) (write.Send x 0))
        by true e again = absurd (cc again)
        by false e again = absurd (cc again)

    module _ (x : WritingView) (next : ℕ) (is : client.call ≡ running.Write (write_on w (write.Send x next))) where
      abbrev p : Piece
      p = piece_at x.pieces next

      abbrev o : ObjectId
      o = object_of p

      abbrev v : WriteView
      v = write_on w (write.Send x next)

      own : IsCallOf c (running.Write v)
      own = subst (IsCallOf c) is (g.holds.clients c client here).call

      there : o.target < length sh.targets
      there =
          let has : Has c sh.meta sh.locks (hand_of (running.Write v)) = subst (λ (r : Running). Has c sh.meta sh.locks (hand_of r)) is (g.holds.clients c client here).has in
          object_there (range_of v) x next sh.targets own.1 own.2.0 own.2.1 (are_there sh.meta sh.targets x.opened.layout g.holds.servers (has.opened x.opened refl))

      abbrev entry : CallEntry
      entry = record { kind = kind.Write; object = o.number; offset = p.offset; length = length (bytes_of v p); version = x.opened.layout.generation; answer = write_answer (target_of sh p) o.number x.opened.layout.generation }

      abbrev m : Made
      m = record { place = place; target = o.target; call = length (target_of sh p).calls + 1; entry = entry; kept = version_at (target_of sh p) o.number; bytes = bytes_at (target_of sh p) o.number }

      old : (kept : ℕ) → write_answer (target_of sh p) o.number x.opened.layout.generation ≡ answer.Old kept → next ≡ 0
          → NothingLanded fails (sent_calls (behind place sh d (piece_sent v sh x p)))
      old kept e none =
          let so_far : CallSent fails (running.Write v) (sent_calls d) = subst (λ (r : Running). CallSent fails r (sent_calls d)) is (g.sent c client here) in
          let made : made_by place sh.targets (piece_sent v sh x p).targets ≡ m ∷ [] = made_one place sh.targets o.target (after_write (target_of sh p) o.number p.offset (bytes_of v p) x.opened.layout.generation) entry there refl in
          let left : sent_calls (behind place sh d (piece_sent v sh x p)) ≡ [] = ap (λ (ms : List Made). sent_calls (with_made d ms)) made ∙ old_leaves d m before (ap is_accepted e) (so_far.0 ∙ none) in
          subst (NothingLanded fails) (sym left) tt

      sent_next : (a : CallAnswer) → write_answer (target_of sh p) o.number x.opened.layout.generation ≡ a
          → AtNext (behind place sh d (piece_sent v sh x p)) (after_send v (last_eviction v.client sh.meta) x next (came_of (next_call_on sh.targets o.target) a))
      sent_next answer.Ok e = by (nat_lt (next + 1) (length x.pieces))
        where
          by : (b : Bool) → AtNext (behind place sh d (piece_sent v sh x p)) (cond b (write.Send x (next + 1)) (commits_to v x sent.All))
          by true again = absurd (cc again)
          by false again = absurd (cc again)
      sent_next (answer.Old kept) e = by (nat_eq next 0) refl
        where
          by : (b : Bool) → nat_eq next 0 ≡ b
              → AtNext (behind place sh d (piece_sent v sh x p)) (cond b write.UnlockAgain (commits_to v x (sent.Old next (unwrap_or (last_eviction v.client sh.meta) 0))))
          by true none again = old kept e (grind (arith, nat_tests))
          by false none again = absurd (cc again)
      sent_next answer.Failed e = λ again. absurd (cc again)

    commits : (x : WritingView) (end : ℕ) (came : Sent) → client.call ≡ running.Write (write_on w (write.Commit x end came)) → (b : Bool)
        → is_there x.opened.file sh.meta ≡ b
        → OnStep (behind place sh d) (widen running.Write (commits_write (write_on w (write.Commit x end came)) sh x end came b))
    commits x end came is true there = λ again. absurd (cc again)
    commits x end came is false there = λ again. (
        let so_far : CallSent fails (running.Write (write_on w (write.Commit x end came))) (sent_calls d) = subst (λ (r : Running). CallSent fails r (sent_calls d)) is (g.sent c client here) in
        subst (NothingLanded fails) (sym (nothing_sent place sh d)) (gone _ (ap attempt_of is) so_far.1 there))

    pub write_none : (a : WriteAt) → client.call ≡ running.Write (write_on w a)
        → OnStep (done_by (traces.write_opens a)) (widen running.Write (write_at a (write_on w a) place sh))
    write_none write.Open is = write_opened fails (done_by true) sh (write_on w write.Open) (write_opens w.client w.name (range_of w) place sh.meta)
    write_none (write.Lock x next) is = locks (done_by false) x next (blocker sh.locks (lock_for (write_on w (write.Lock x next)) (piece_at x.pieces next)))
    write_none (write.Send x next) is = sent_next x next is (write_answer (target_of sh (piece_at x.pieces next)) (object_of (piece_at x.pieces next)).number x.opened.layout.generation) refl
    write_none (write.Commit x end came) is = commits x end came is (is_there x.opened.file sh.meta) refl
    write_none write.UnlockAgain is = λ again. absurd (cc again)
    write_none write.Unlock is = tt
