-- What a step adds to what the call has sent, and the client that it leaves.
use Rattle.std.proofs.Common.{◌≡◌, ℕ, zero, suc, ◌-◌, ◌<◌, Bool, true, false, List, [], ◌∷◌, ◌++◌, length, Some, refl, sym, subst, ◌∙◌, arith, append-nil, get_or-set_same}
use Rattle.std.specs.Prelude.{slice_get, slice_set}
use Rattle.std.proofs.lemmas.Bool.{false≢true}
use Rattle.client_write.specs.declared.phase.CutAt.TheVariants as cut
use Rattle.client_write.specs.declared.phase.CutAt.{CutAt}
use Rattle.client_write.specs.declared.phase.WriteAt.TheVariants as write
use Rattle.client_write.specs.declared.phase.WriteAt.{WriteAt}
use Rattle.call_steps.specs.Steps.{Outcome, Going, Fixed, Ended, Answered, Blocked}
use Rattle.flr_steps.specs.declared.client.Client.{Client}
use Rattle.flr_steps.specs.declared.client.Running.{Running}
use Rattle.flr_steps.specs.declared.client.Running.TheVariants as running
use Rattle.flr_steps.specs.Runs.{IsBeside}
use Rattle.flr_steps.specs.States.{State, client_at}
use Rattle.flr_steps.specs.Traces.{Doing, Made, Trace, cut_opens, doing_of, done_with, is_opening, nothing_done, sent_calls, traced_by, write_opens}
use Rattle.flr_claims.specs.Sending.{Attempt, attempt_of, cut_attempt, write_attempt}
use Rattle.flr_sole.proofs.Making.{sent_more}
use Rattle.flr_honest.proofs.Closing.Lists.{there_within}

-- ---- clients

-- who is there has a place in the list
pub within : (clients : List Client) (c : ℕ) (client : Client) → client_at clients c ≡ Some client → c - 1 < length clients
within clients zero client e = absurd (cc)
within clients (suc c) client e = let lt = there_within clients c client e in omega (arith, lt)

set_at : {X : Type 0} (xs : List X) (i : ℕ) (x new : X) → slice_get xs i ≡ Some x → slice_get (slice_set xs i new) i ≡ Some new
set_at [] i x new e = absurd (cc)
set_at (y ∷ ys) zero x new e = refl
set_at (y ∷ ys) (suc i) x new e = set_at ys i x new e

-- the client that is set is there
pub set_client : (clients : List Client) (c : ℕ) (client new : Client) → client_at clients c ≡ Some client → client_at (slice_set clients (c - 1) new) c ≡ Some new
set_client clients zero client new e = absurd (cc)
set_client clients (suc c) client new e =
    let one : c ≡ suc c - 1 = omega arith in
    subst (λ i. slice_get (slice_set clients i new) c ≡ Some new) one (set_at clients c client new e)

-- ---- traces

-- what the client's call has done, once the step is made
pub done_by : (s : State) (c : ℕ) (old : Trace) (client : Client) (call : Running) (d : Doing) (came : Outcome Running) → IsBeside s old → client_at s.clients c ≡ Some client → ((holder : ℕ) → came ≡ Blocked holder → ⊥) → doing_of (traced_by old c call d came) c ≡ d
done_by s c old client call d came beside here going = by came going
  where
    inside : c - 1 < length old.running
    inside = let same = beside.clients in let less = within s.clients c client here in omega (arith, same, less)

    by : (came : Outcome Running) → ((holder : ℕ) → came ≡ Blocked holder → ⊥) → doing_of (traced_by old c call d came) c ≡ d
    by (Going next after) going = get_or-set_same old.running (c - 1) d nothing_done inside
    by (Fixed next reply takes after) going = get_or-set_same old.running (c - 1) d nothing_done inside
    by (Ended after) going = get_or-set_same old.running (c - 1) d nothing_done inside
    by (Answered reply takes after) going = get_or-set_same old.running (c - 1) d nothing_done inside
    by (Blocked holder) going = absurd (going holder refl)

-- a call under way that made no calls of targets has sent what it had sent
pub sent_same : (idle opens : Bool) (place : ℕ) (made : List Made) (d : Doing) → (idle ≡ true → opens ≡ true) → opens ≡ false → made ≡ [] → sent_calls (done_with idle opens place made d) ≡ sent_calls d
sent_same true opens place made d begins busy none = absurd (false≢true (sym busy ∙ begins refl))
sent_same false true place made d begins busy none = absurd (false≢true (sym busy))
sent_same false false place made d begins busy none =
    (λ j. sent_calls (record { opened = d.opened; made = d.made ++ none j })) ∙ (λ j. sent_calls (record { opened = d.opened; made = append-nil d.made j }))

-- one that made some has sent those behind
pub sent_behind : (idle opens : Bool) (place : ℕ) (made : List Made) (d : Doing) → (idle ≡ true → opens ≡ true) → opens ≡ false → (more : List Made) × (sent_calls (done_with idle opens place made d) ≡ sent_calls d ++ more)
sent_behind true opens place made d begins busy = absurd (false≢true (sym busy ∙ begins refl))
sent_behind false true place made d begins busy = absurd (false≢true (sym busy))
sent_behind false false place made d begins busy = (sent_calls (record { opened = d.opened; made = made }), sent_more d.opened d.made made)

-- a call before its point doesn't open its file
write_busy : (at : WriteAt) (a : Attempt) → write_attempt at ≡ Some a → write_opens at ≡ false
write_busy write.Open a e = absurd (cc)
write_busy (write.Lock x next) a e = refl
write_busy (write.Send x next) a e = refl
write_busy (write.Commit x end came) a e = refl
write_busy write.UnlockAgain a e = refl
write_busy write.Unlock a e = refl

cut_busy : (size : ℕ) (at : CutAt) (a : Attempt) → cut_attempt size at ≡ Some a → cut_opens at ≡ false
cut_busy size cut.Open a e = absurd (cc)
cut_busy size (cut.Lock x) a e = refl
cut_busy size (cut.Punch x next) a e = refl
cut_busy size (cut.Commit x came) a e = refl
cut_busy size cut.UnlockAgain a e = refl
cut_busy size cut.Unlock a e = refl

-- so it is with any call that has an attempt
pub is_busy : (call : Running) (a : Attempt) → attempt_of call ≡ Some a → is_opening call ≡ false
is_busy running.Idle a e = absurd (cc)
is_busy (running.Read call) a e = absurd (cc)
is_busy (running.Write call) a e = write_busy call.at a e
is_busy (running.Truncate call) a e = cut_busy call.size call.at a e
is_busy (running.Copy call) a e = absurd (cc)
is_busy (running.Verify call) a e = absurd (cc)
