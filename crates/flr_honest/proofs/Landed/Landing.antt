-- What a call of a target adds to what a writing call has sent, and whether it lands there.
use Rattle.std.proofs.Common.{◌≡◌, ℕ, ◌<◌, Bool, true, false, cond, ◌&&◌, Option, Some, None, List, [], ◌∷◌, ◌++◌, length, ◌⊎◌, inl, inr, refl, sym, ap, ◌∙◌}
use Rattle.std.specs.Prelude.{slice_get}
use Rattle.object_target.specs.declared.call.CallAnswer.TheVariants as answer
use Rattle.object_target.specs.declared.fail.Fail.{Fail}
use Rattle.object_target.specs.declared.fail.FailKind.{FailKind}
use Rattle.object_target.specs.Calls.{answer_by, has_effect}
use Rattle.call_steps.specs.Servers.{Servers}
use Rattle.flr_steps.specs.declared.client.Running.{Running}
use Rattle.flr_steps.specs.Traces.{Doing, Made, has_landed, is_accepted, is_sending, sent_calls}
use Rattle.flr_claims.specs.Sending.{Attempt, Part, attempt_of}
use Rattle.flr_sole.proofs.Making.{sent_more, sent_one}
use Rattle.flr_sole.proofs.Sending.{with_made}
use Rattle.flr_bytes.specs.Writing.{IsThisPart}
use Rattle.flr_honest.proofs.Landed.Parting.{IsQuiet}
use Rattle.flr_honest.proofs.Landed.Lists.{got_last, nothing_behind}

-- ---- what a step does to the attempt

-- one part was sent, and landed
pub record SendsOne (fails : List Fail) (s after : Servers) (call : Running) (d : Doing) (is : Option Attempt) (new : Doing) : Type 0 where
  pub same : is ≡ attempt_of call
  pub attempt : Attempt
  pub has : attempt_of call ≡ Some attempt
  pub part : Part
  pub this : IsThisPart s after call part
  pub there : slice_get attempt.parts (length (sent_calls d)) ≡ Some part
  pub made : Made
  pub landed : has_landed fails made ≡ true
  pub sent : sent_calls new ≡ sent_calls d ++ made ∷ []

-- there is no attempt any more; or a new one, of which nothing was sent; or it goes on, and nothing more has landed; or one part was sent, and landed
pub data Turn (fails : List Fail) (s after : Servers) (call : Running) (d : Doing) (is : Option Attempt) (new : Doing) : Type 0 where
  Rests : is ≡ None → IsQuiet s after call → Turn fails s after call d is new
  Begins : sent_calls new ≡ [] → IsQuiet s after call → Turn fails s after call d is new
  Goes : is ≡ attempt_of call → IsQuiet s after call → ((i : ℕ) (m : Made) → slice_get (sent_calls new) i ≡ Some m → has_landed fails m ≡ true → slice_get (sent_calls d) i ≡ Some m) → Turn fails s after call d is new
  Sends : SendsOne fails s after call d is new → Turn fails s after call d is new

-- ---- answers

-- a call that has effect is accepted
pub effect_accepted : (fail : Option FailKind) (old : Bool) (kept : ℕ) → has_effect fail old ≡ true → is_accepted (answer_by fail old kept) ≡ true
effect_accepted (Some kind) old kept e = refl
effect_accepted None true kept e = absurd (cc)
effect_accepted None false kept e = refl

-- one that is too old has none
pub old_none : (fail : Option FailKind) (old : Bool) (kept version : ℕ) → answer_by fail old version ≡ answer.Old kept → has_effect fail old ≡ false
old_none (Some kind) old kept version e = absurd (cc)
old_none None true kept version e = refl
old_none None false kept version e = absurd (cc)

-- ---- one call of a target

module _ (fails : List Fail) (s after : Servers) (call : Running) (d : Doing) (m : Made) (past : d.opened < m.place) (sends : is_sending m.entry.kind ≡ true) (a : Attempt) (has : attempt_of call ≡ Some a) (p : Part) (there : slice_get a.parts (length (sent_calls d)) ≡ Some p)
    (effect : Bool) (landed : has_landed fails m ≡ effect) (lands : effect ≡ true → IsThisPart s after call p) (still : effect ≡ false → IsQuiet s after call) (accepted : effect ≡ true → is_accepted m.entry.answer ≡ true) where
  more : (b : Bool) → is_accepted m.entry.answer ≡ b → sent_calls (with_made d (m ∷ [])) ≡ sent_calls d ++ cond b (m ∷ []) []
  more b e = sent_more d.opened d.made (m ∷ []) ∙ ap (λ (ms : List Made). sent_calls d ++ ms) (sent_one d.opened m b past ((λ j. sends j && is_accepted m.entry.answer) ∙ e))

  -- one that doesn't land
  none_lands : has_landed fails m ≡ false → (b : Bool) → is_accepted m.entry.answer ≡ b → (i : ℕ) (x : Made) → slice_get (sent_calls (with_made d (m ∷ []))) i ≡ Some x → has_landed fails x ≡ true → slice_get (sent_calls d) i ≡ Some x
  none_lands none false e i x got on = ap (λ (ms : List Made). slice_get ms i) (sym (more false e ∙ nothing_behind (sent_calls d))) ∙ got
  none_lands none true e i x got on = elim (got_last (sent_calls d) m x i (ap (λ (ms : List Made). slice_get ms i) (sym (more true e)) ∙ got)) as (λ _. slice_get (sent_calls d) i ≡ Some x) [
    | inl before ↦ before
    | inr last ↦ (let no : true ≡ false = sym on ∙ ap (has_landed fails) (sym last.1) ∙ none in absurd (cc))
  ]

  -- the call goes on, or has no attempt any more, which isn't so where it lands
  pub one_turn : (is : Option Attempt) → (is ≡ attempt_of call) ⊎ ((is ≡ None) × (effect ≡ false)) → Turn fails s after call d is (with_made d (m ∷ []))
  one_turn is goes = by effect refl goes
    where
      by : (b : Bool) → effect ≡ b → (is ≡ attempt_of call) ⊎ ((is ≡ None) × (effect ≡ false)) → Turn fails s after call d is (with_made d (m ∷ []))
      by true e (inl same) = Sends (record { same = same; attempt = a; has = has; part = p; this = lands e; there = there; made = m; landed = landed ∙ e; sent = more true (accepted e) })
      by true e (inr none) = (let no : true ≡ false = sym e ∙ none.1 in absurd (cc))
      by false e (inl same) = Goes same (still e) (none_lands (landed ∙ e) (is_accepted m.entry.answer) refl)
      by false e (inr none) = Rests none.0 (still e)

-- a step that calls no target sends nothing
pub same_turn : (fails : List Fail) (s after : Servers) (call : Running) (d new : Doing) (is : Option Attempt) → sent_calls new ≡ sent_calls d → IsQuiet s after call → (is ≡ attempt_of call) ⊎ (is ≡ None) → Turn fails s after call d is new
same_turn fails s after call d new is same quiet (inl goes) = Goes goes quiet (λ i m got on. ap (λ (ms : List Made). slice_get ms i) (sym same) ∙ got)
same_turn fails s after call d new is same quiet (inr none) = Rests none quiet
