-- Calls that were sent one after the other for parts, and one more.
use Rattle.std.proofs.Common.{◌≡◌, ℕ, ◌+◌, ◌<◌, Bool, true, false, cond, ◌&&◌, nat_lt, Option, Some, None, List, [], ◌∷◌, ◌++◌, length, take, refl, sym, ap, subst, ◌∙◌, arith, length-append}
use Rattle.std.specs.Prelude.{slice_get}
use Rattle.std.proofs.lemmas.Bool.Decides.{nat_tests}
use Rattle.object_target.specs.declared.call.CallAnswer.TheVariants as answer
use Rattle.object_target.specs.declared.fail.Fail.{Fail}
use Rattle.object_target.specs.declared.fail.FailKind.{FailKind}
use Rattle.object_target.specs.Calls.{answer_by, checked_answer, has_effect, is_old, next_fail}
use Rattle.object_target.specs.Fails.{fails_on, kind_of}
use Rattle.object_target.specs.TargetState.{TargetState, next_call, version_at}
use Rattle.flr_base.specs.declared.reply.FailedCall.{FailedCall}
use Rattle.call_steps.specs.Servers.{Servers, target_at}
use Rattle.call_steps.specs.Steps.{Outcome, Going, Fixed, Ended, Answered, Blocked}
use Rattle.client_write.specs.declared.phase.Sent.{Sent}
use Rattle.client_write.specs.declared.phase.Sent.TheVariants as sent
use Rattle.flr_steps.specs.Traces.{Doing, Made, has_landed, is_accepted, is_sending, made_by, sent_calls}
use Rattle.flr_claims.specs.Sending.{Part}
use Rattle.flr_work.specs.Paying.{AreListed}
use Rattle.flr_sole.proofs.Making.{all_joined, made_none, sent_more, sent_one}
use Rattle.flr_sole.proofs.Sending.{with_made}
use Rattle.flr_bytes.specs.Sent.{AllLanded, AreSentFor, AreSentTo, IsSentFor}

-- ---- one call more

-- for so many of the first parts a call was sent, and all landed
abbrev pub SentSoFar : List Fail → List Part → ℕ → List Made → Type 0
SentSoFar fails parts count made = (length made ≡ count) × AllLanded fails made × AreSentFor parts made

-- what came of sending these parts
abbrev pub SentAs : List Fail → List Part → ℕ → Sent → List Made → Type 0
SentAs fails parts count came made = AreSentTo fails count came made × AreSentFor parts made

one_behind : (parts : List Part) (made : List Made) (p : Part) (m : Made) → AreSentFor parts made → slice_get parts (length made) ≡ Some p → IsSentFor p m → AreSentFor parts (made ++ m ∷ [])
one_behind [] [] p m are e is = absurd (cc)
one_behind (q ∷ qs) [] p m are e is = let same : p ≡ q = cc in (subst (λ (x : Part). IsSentFor x m) same is, tt)
one_behind [] (x ∷ xs) p m are e is = absurd are
one_behind (q ∷ qs) (x ∷ xs) p m are e is = (are.0, one_behind qs xs p m are.1 e is)

take_front : {X : Type 0} (xs : List X) (x : X) → take (length xs) (xs ++ x ∷ []) ≡ xs
take_front [] x = refl
take_front (y ∷ ys) x = ap (λ zs. y ∷ zs) (take_front ys x)

nothing_behind : {X : Type 0} (xs : List X) → xs ++ [] ≡ xs
nothing_behind [] = refl
nothing_behind (x ∷ xs) = ap (λ ys. x ∷ ys) (nothing_behind xs)

-- a call of a target behind the open, for the next part
module _ (fails : List Fail) (d : Doing) (m : Made) (after : d.opened < m.place) (sends : is_sending m.entry.kind ≡ true) (parts : List Part) (p : Part) (next : ℕ) (so_far : SentSoFar fails parts next (sent_calls d)) (there : slice_get parts next ≡ Some p) (is : IsSentFor p m) where
  sent_now : (b : Bool) → is_accepted m.entry.answer ≡ b → sent_calls (with_made d (m ∷ [])) ≡ sent_calls d ++ cond b (m ∷ []) []
  sent_now b e = sent_more d.opened d.made (m ∷ []) ∙ ap (λ (ms : List Made). sent_calls d ++ ms) (sent_one d.opened m b after ((λ j. sends j && is_accepted m.entry.answer) ∙ e))

  long : length (sent_calls d ++ m ∷ []) ≡ next + 1
  long = length-append (sent_calls d) (m ∷ []) ∙ ap (λ n. n + 1) so_far.0

  are_for : AreSentFor parts (sent_calls d ++ m ∷ [])
  are_for = one_behind parts (sent_calls d) p m so_far.2 (ap (slice_get parts) so_far.0 ∙ there) is

  -- it landed
  pub one_lands : is_accepted m.entry.answer ≡ true → has_landed fails m ≡ true → SentSoFar fails parts (next + 1) (sent_calls (with_made d (m ∷ [])))
  one_lands ok landed = subst (SentSoFar fails parts (next + 1)) (sym (sent_now true ok)) (long, all_joined (λ (x : Made). has_landed fails x ≡ true) (sent_calls d) (m ∷ []) so_far.1 (landed, tt), are_for)

  -- it failed
  pub one_fails : (count : ℕ) (call : FailedCall) → is_accepted m.entry.answer ≡ true → SentAs fails parts count (sent.Failed next call) (sent_calls (with_made d (m ∷ [])))
  one_fails count call ok =
      subst (SentAs fails parts count (sent.Failed next call)) (sym (sent_now true ok))
      ((long, subst (AllLanded fails) (sym (take_front (sent_calls d) m) ∙ ap (λ n. take n (sent_calls d ++ m ∷ [])) so_far.0) so_far.1), are_for)

  -- it was too old
  pub one_old : (count step : ℕ) → is_accepted m.entry.answer ≡ false → SentAs fails parts count (sent.Old next step) (sent_calls (with_made d (m ∷ [])))
  one_old count step refused = subst (SentAs fails parts count (sent.Old next step)) (sym (sent_now false refused ∙ nothing_behind (sent_calls d))) ((so_far.0, so_far.1), so_far.2)

-- behind the last part all are sent
pub all_sent : (fails : List Fail) (parts : List Part) (next count : ℕ) (made : List Made) → next < count → nat_lt (next + 1) count ≡ false → SentSoFar fails parts (next + 1) made → SentAs fails parts count sent.All made
all_sent fails parts next count made less e so = let last : next + 1 ≡ count = is_last in ((so.0 ∙ last, so.1), so.2)
  where
    is_last : next + 1 ≡ count
    is_last = grind (arith, nat_tests)

-- ---- what landed

went_through : (fail : Option FailKind) (old : Bool) (kept : ℕ) → answer_by fail old kept ≡ answer.Ok → has_effect fail old ≡ true
went_through (Some fail) old kept e = absurd (cc)
went_through None true kept e = absurd (cc)
went_through None false kept e = refl

-- a call that was answered so has landed, as the script lists the calls that fail
pub ok_lands : (fails : List Fail) (targets : List TargetState) → AreListed fails targets → (id object version : ℕ) → id < length targets → checked_answer (target_at targets id) object version ≡ answer.Ok
    → has_effect (kind_of (fails_on id fails) (next_call (target_at targets id))) (is_old (target_at targets id) object version) ≡ true
ok_lands fails targets listed id object version within e =
    let t : TargetState = target_at targets id in
    subst (λ (fs : List Fail). has_effect (kind_of fs (next_call t)) (is_old t object version) ≡ true) (listed id within) (went_through (next_fail t) (is_old t object version) (version_at t object) e)

-- ---- a step

-- what a call has done with a step that opens no file
abbrev pub behind : ℕ → Servers → Doing → Servers → Doing
behind place s d after = with_made d (made_by place s.targets after.targets)

-- a step that calls no target sends nothing
pub nothing_sent : (place : ℕ) (s : Servers) (d : Doing) → sent_calls (behind place s d s) ≡ sent_calls d
nothing_sent place s d = ap (λ (ms : List Made). sent_calls (with_made d ms)) (made_none place s.targets) ∙ sent_more d.opened d.made [] ∙ nothing_behind (sent_calls d)

-- what holds of the calls that were sent, where the call goes on
abbrev pub OnSent : {C : Type 0} → (C → List Made → Type 0) → (Servers → Doing) → Outcome C → Type 0
OnSent sent then (Going next after) = sent next (sent_calls (then after))
OnSent sent then (Fixed next reply takes after) = sent next (sent_calls (then after))
OnSent sent then (Ended after) = Unit {0}
OnSent sent then (Answered reply takes after) = Unit {0}
OnSent sent then (Blocked holder) = Unit {0}
