-- What a step of a call of one kind may come to.
use Rattle.std.proofs.Common.{◌≡◌, Bool, true, false, ◌∙◌}
use Rattle.call_steps.specs.Steps.{Outcome, Going, Fixed, Ended, Answered, Blocked, widen}
use Rattle.flr_steps.specs.declared.client.Running.{Running}
use Rattle.flr_steps.specs.Traces.{is_idle}
use Rattle.flr_past.specs.Phases.{FixesOnce, is_fixed}

-- a step of a call whose answer is open, or fixed: as for every call
abbrev pub Once : {C : Type 0} → (C → Bool) → Bool → Outcome C → Type 0
Once fixed false (Going next after) = fixed next ≡ false
Once fixed false (Fixed next reply takes after) = fixed next ≡ true
Once fixed false (Ended after) = ⊥
Once fixed false (Answered reply takes after) = Unit {0}
Once fixed false (Blocked holder) = Unit {0}
Once fixed true (Ended after) = Unit {0}
Once fixed true other = ⊥

pub widened : {C : Type 0} (f : C → Running) (fixed : C → Bool) → ((c : C) → is_idle (f c) ≡ false) → ((c : C) → is_fixed (f c) ≡ fixed c) → (b : Bool) (o : Outcome C) → Once fixed b o → FixesOnce b (widen f o)
widened f fixed busy same false (Going next after) h = (busy next, same next ∙ h)
widened f fixed busy same false (Fixed next reply takes after) h = (busy next, same next ∙ h)
widened f fixed busy same false (Ended after) h = absurd h
widened f fixed busy same false (Answered reply takes after) h = tt
widened f fixed busy same false (Blocked holder) h = tt
widened f fixed busy same true (Going next after) h = absurd h
widened f fixed busy same true (Fixed next reply takes after) h = absurd h
widened f fixed busy same true (Ended after) h = tt
widened f fixed busy same true (Answered reply takes after) h = absurd h
widened f fixed busy same true (Blocked holder) h = absurd h
