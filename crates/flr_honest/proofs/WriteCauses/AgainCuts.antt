-- What a step of a truncate that is begun again has landed.
use Rattle.std.proofs.Common.{◌≡◌, ℕ, ◌+◌, ◌<◌, Bool, true, false, cond, nat_eq, nat_lt, Option, Some, None, List, [], ◌∷◌, length, refl, sym, ap, subst, ◌∙◌, arith}
use Rattle.std.specs.Prelude.{unwrap_or}
use Rattle.std.proofs.lemmas.Bool.Decides.{nat_tests}
use Rattle.flr_base.specs.declared.reply.ObjectId.{ObjectId}
use Rattle.flr_base.specs.declared.reply.Range.{Range}
use Rattle.mirror_select.specs.declared.types.Tail.{Tail}
use Rattle.object_target.specs.declared.call.CallAnswer.{CallAnswer}
use Rattle.object_target.specs.declared.call.CallAnswer.TheVariants as answer
use Rattle.object_target.specs.declared.call.CallEntry.{CallEntry}
use Rattle.object_target.specs.declared.call.CallKind.TheVariants as kind
use Rattle.object_target.specs.declared.fail.Fail.{Fail}
use Rattle.object_target.specs.Calls.{after_punch, punch_answer}
use Rattle.object_target.specs.TargetState.{bytes_at, version_at}
use Rattle.meta_server.specs.Closing.{is_there, last_eviction}
use Rattle.meta_server.specs.Opening.{cut_opens}
use Rattle.call_steps.specs.Servers.{Servers, next_call_on}
use Rattle.call_steps.specs.Steps.{Outcome, widen}
use Rattle.client_write.specs.declared.phase.CutAt.{CutAt}
use Rattle.client_write.specs.declared.phase.CutAt.TheVariants as cut
use Rattle.client_write.specs.declared.phase.Sent.{Sent}
use Rattle.client_write.specs.declared.phase.Sent.TheVariants as sent
use Rattle.client_write.specs.Calls.{TruncateView}
use Rattle.client_write.specs.Parts.{came_of}
use Rattle.client_write.specs.Truncates.{after_punches, commits_cut, first_blocker, locks_for, locks_tails, tail_at, tail_punched, target_of_tail, truncate_at, truncate_on}
use Rattle.client_write.specs.Views.{CuttingView}
use Rattle.client_write.proofs.Cuttable.{tail_there}
use Rattle.flr_steps.specs.declared.client.Client.{Client}
use Rattle.flr_steps.specs.declared.client.Running.{Running}
use Rattle.flr_steps.specs.declared.client.Running.TheVariants as running
use Rattle.flr_steps.specs.States.{State, client_at, next, place_in}
use Rattle.flr_steps.specs.Traces.{Doing, Made, Trace, doing_of, done_with, has_landed, is_accepted, is_idle, is_opening, is_sending, made_by, sent_calls, trace_after, traced}
use Rattle.flr_steps.specs.Traces as traces
use Rattle.flr_numbers.specs.Hands.{Has}
use Rattle.flr_numbers.specs.Sentences.{IsCallOf, hand_of}
use Rattle.flr_numbers.proofs.CallFits.{are_there}
use Rattle.flr_sole.proofs.Making.{made_one}
use Rattle.flr_sole.proofs.Sending.{with_made}
use Rattle.flr_claims.specs.Sending.{attempt_of}
use Rattle.flr_bytes.specs.Runs.{Ground}
use Rattle.flr_bytes.specs.Sent.{CallSent}
use Rattle.flr_honest.proofs.Sent.Parts.{behind, nothing_sent}
use Rattle.flr_honest.specs.WriteCauses.Again.{NothingLanded}
use Rattle.flr_honest.proofs.WriteCauses.Again.{HasNone, before, cut_opened, done_by, gone, idle_none, old_leaves}
use Rattle.flr_honest.proofs.WriteCauses.EachCall.{OnCall}

module _ (s : State) (c : ℕ) (tr : Trace) (g : Ground s tr) (client : Client) (here : client_at s.clients c ≡ Some client) (t : TruncateView) where
  abbrev fails : List Fail
  fails = s.script.fails

  abbrev d : Doing
  d = doing_of tr c

  abbrev place : ℕ
  place = place_in s

  abbrev sh : Servers
  sh = s.shared

  abbrev OnStep : (Servers → Doing) → Outcome Running → Type 0
  OnStep then o = OnCall (HasNone fails) (idle_none fails) then o

  abbrev AtNext : Doing → CutAt → Type 0
  AtNext e a = (a ≡ cut.UnlockAgain) → NothingLanded fails (sent_calls e)

  locks : (then : Servers → Doing) (x : CuttingView) (o : Option (ℕ × Range)) → OnStep then (widen running.Truncate (locks_tails t sh x o))
  locks then x (Some told) = tt
  locks then x None = by (nat_lt 0 (length x.tails)) (then _)
    where
      by : (b : Bool) (e : Doing) → AtNext e (cond b (cut.Punch x 0) (cut.Commit x sent.All))
      by true e again = absurd (cc again)
      by false e again = absurd (cc again)

  module _ (x : CuttingView) (next : ℕ) (is : client.call ≡ running.Truncate (truncate_on t (cut.Punch x next))) where
    abbrev tail : Tail
    tail = tail_at x.tails next

    abbrev o : ObjectId
    o = tail.object

    abbrev v : TruncateView
    v = truncate_on t (cut.Punch x next)

    own : IsCallOf c (running.Truncate v)
    own = subst (IsCallOf c) is (g.holds.clients c client here).call

    there : o.target < length sh.targets
    there =
        let has : Has c sh.meta sh.locks (hand_of (running.Truncate v)) = subst (λ (r : Running). Has c sh.meta sh.locks (hand_of r)) is (g.holds.clients c client here).has in
        tail_there t.size x next sh.targets own.1.0 own.1.1 (are_there sh.meta sh.targets x.opened.layout g.holds.servers (has.opened x.opened refl))

    abbrev entry : CallEntry
    entry = record { kind = kind.Punch; object = o.number; offset = tail.offset; length = 0; version = x.opened.layout.generation; answer = punch_answer (target_of_tail sh tail) o.number x.opened.layout.generation }

    abbrev m : Made
    m = record { place = place; target = o.target; call = length (target_of_tail sh tail).calls + 1; entry = entry; kept = version_at (target_of_tail sh tail) o.number; bytes = bytes_at (target_of_tail sh tail) o.number }

    old : (kept : ℕ) → punch_answer (target_of_tail sh tail) o.number x.opened.layout.generation ≡ answer.Old kept → next ≡ 0
        → NothingLanded fails (sent_calls (behind place sh d (tail_punched sh x tail)))
    old kept e none =
        let so_far : CallSent fails (running.Truncate v) (sent_calls d) = subst (λ (r : Running). CallSent fails r (sent_calls d)) is (g.sent c client here) in
        let made : made_by place sh.targets (tail_punched sh x tail).targets ≡ m ∷ [] = made_one place sh.targets o.target (after_punch (target_of_tail sh tail) o.number tail.offset x.opened.layout.generation) entry there refl in
        let left : sent_calls (behind place sh d (tail_punched sh x tail)) ≡ [] = ap (λ (ms : List Made). sent_calls (with_made d ms)) made ∙ old_leaves d m (before s c tr g client here) (ap is_accepted e) (so_far.0 ∙ none) in
        subst (NothingLanded fails) (sym left) tt

    punched_next : (a : CallAnswer) → punch_answer (target_of_tail sh tail) o.number x.opened.layout.generation ≡ a
        → AtNext (behind place sh d (tail_punched sh x tail)) (after_punches (last_eviction v.client sh.meta) x next (came_of (next_call_on sh.targets o.target) a))
    punched_next answer.Ok e = by (nat_lt (next + 1) (length x.tails))
      where
        by : (b : Bool) → AtNext (behind place sh d (tail_punched sh x tail)) (cond b (cut.Punch x (next + 1)) (cut.Commit x sent.All))
        by true again = absurd (cc again)
        by false again = absurd (cc again)
    punched_next (answer.Old kept) e = by (nat_eq next 0) refl
      where
        by : (b : Bool) → nat_eq next 0 ≡ b
            → AtNext (behind place sh d (tail_punched sh x tail)) (cond b cut.UnlockAgain (cut.Commit x (sent.Old next (unwrap_or (last_eviction v.client sh.meta) 0))))
        by true none again = old kept e (grind (arith, nat_tests))
        by false none again = absurd (cc again)
    punched_next answer.Failed e = λ again. absurd (cc again)

  commits : (x : CuttingView) (came : Sent) → client.call ≡ running.Truncate (truncate_on t (cut.Commit x came)) → (b : Bool) → is_there x.opened.file sh.meta ≡ b
      → OnStep (behind place sh d) (widen running.Truncate (commits_cut (truncate_on t (cut.Commit x came)) sh x came b))
  commits x came is true there = λ again. absurd (cc again)
  commits x came is false there = λ again. (
      let so_far : CallSent fails (running.Truncate (truncate_on t (cut.Commit x came))) (sent_calls d) = subst (λ (r : Running). CallSent fails r (sent_calls d)) is (g.sent c client here) in
      subst (NothingLanded fails) (sym (nothing_sent place sh d)) (gone s c tr g client here _ (ap attempt_of is) so_far.1 there))

  pub cut_none : (a : CutAt) → client.call ≡ running.Truncate (truncate_on t a)
      → OnStep (done_by s c tr g client here (traces.cut_opens a)) (widen running.Truncate (truncate_at a (truncate_on t a) place sh))
  cut_none cut.Open is = cut_opened fails (done_by s c tr g client here true) sh (truncate_on t cut.Open) (cut_opens t.client t.name t.size place sh.meta)
  cut_none (cut.Lock x) is = locks (done_by s c tr g client here false) x (first_blocker (locks_for (truncate_on t (cut.Lock x)) x) sh.locks)
  cut_none (cut.Punch x next) is = punched_next x next is (punch_answer (target_of_tail sh (tail_at x.tails next)) (tail_at x.tails next).object.number x.opened.layout.generation) refl
  cut_none (cut.Commit x came) is = commits x came is (is_there x.opened.file sh.meta) refl
  cut_none cut.UnlockAgain is = λ again. absurd (cc again)
  cut_none cut.Unlock is = tt
