-- The steps of a soak, one after the other.
use Rattle.std.proofs.Common.{◌≡◌, ℕ, ◌-◌, ◌<◌, List, [], ◌∷◌, ◌++◌, length, length-append, append_assoc, is_some, Bool, true, false, refl, sym, ap, subst, ◌∙◌, arith, inl, inr}
use Rattle.std.specs.Prelude.{Option, Some, None}
use Rattle.std.proofs.lemmas.List.{append-nil}
use Rattle.script_values.specs.Generator.{drawn, next_state}
use Rattle.flr_steps.specs.States.{IsRun, State, Stepped, next, unfinished_of}
use Rattle.flr_steps.proofs.Inversion.{step_is}
use Rattle.flr_steps.proofs.StepLaws.{each_step_leaves}
use Rattle.flr_world.proofs.Known.{run_short}
use Rattle.flr_soak.specs.Soaking.{IsOver, IsSoaked}
use Rattle.flr_soak.specs.Trying.{StepsFirst}

adds_place : (s t : State) (c : ℕ) → next s c ≡ Stepped t → t.schedule ≡ s.schedule ++ c ∷ []
adds_place s t c e = ap (λ (x : State). x.schedule) (each_step_leaves s t c (step_is s t c e)).is

-- a step brings the greatest length of a schedule nearer
pub nearer : (clients draw : ℕ) (s t : State) (b : Bool) → b ≡ true → StepsFirst clients draw s t b → IsRun t → 8388609 - length t.schedule < 8388609 - length s.schedule
nearer clients draw s t true e made run =
    let longer = ap (λ (cs : List ℕ). length cs) (adds_place s t made.0 made.1.made) in
    let one = length-append s.schedule (made.0 ∷ []) in
    let short = run_short t run in
    omega (arith, longer, one, short)
nearer clients draw s t false e made run = absurd cc

-- how a soak goes on from a state is how it goes from the first one, with the steps so far before it
abbrev pub LeadsTo : ℕ → ℕ → State → ℕ → State → Type 0
LeadsTo clients from first x s = (cs : List ℕ) (last : State) → IsSoaked clients x s cs last → IsSoaked clients from first (s.schedule ++ cs) last

some_of : (s : State) (u : Option ℕ) → u ≡ unfinished_of s → is_some u ≡ true → (n : ℕ) × (unfinished_of s ≡ Some n)
some_of s None e some = absurd cc
some_of s (Some n) e some = (n, sym e)

none_of : (s : State) (u : Option ℕ) → u ≡ unfinished_of s → is_some u ≡ false → unfinished_of s ≡ None
none_of s None e none = sym e
none_of s (Some n) e none = absurd cc

module _ (clients from : ℕ) (first : State) (x : ℕ) (s : State) (so_far : LeadsTo clients from first x s) where
  -- after one more step
  pub goes_on : (y draw : ℕ) (t : State) (u : Option ℕ) (b : Bool) → y ≡ next_state x → draw ≡ drawn y → u ≡ unfinished_of s → is_some u ≡ true → b ≡ true → StepsFirst clients draw s t b → LeadsTo clients from first y t
  goes_on y draw t u false state drew lowest some e made cs last more = absurd cc
  goes_on y draw t u true state drew lowest some e made cs last more =
      let left = some_of s u lowest some in
      let at : StepsFirst clients (drawn (next_state x)) s t true = subst (λ (d : ℕ). StepsFirst clients d s t true) (drew ∙ ap drawn state) made in
      let behind : IsSoaked clients (next_state x) t cs last = subst (λ (z : ℕ). IsSoaked clients z t cs last) state more in
      let longer : IsSoaked clients from first (s.schedule ++ at.0 ∷ cs) last = so_far (at.0 ∷ cs) last (t, record { unfinished = left.0; left = left.1; first = at.1 }, behind) in
      let same : s.schedule ++ at.0 ∷ cs ≡ t.schedule ++ cs = sym (append_assoc s.schedule (at.0 ∷ []) cs) ∙ ap (λ (ys : List ℕ). ys ++ cs) (sym (adds_place s t at.0 at.1.made)) in
      subst (λ (ys : List ℕ). IsSoaked clients from first ys last) same longer

  is_over : IsOver clients x s → IsSoaked clients from first s.schedule s
  is_over over = subst (λ (ys : List ℕ). IsSoaked clients from first ys s) (append-nil s.schedule) (so_far [] s (refl, over))

  -- nobody has a command left
  pub all_done : (u : Option ℕ) → u ≡ unfinished_of s → is_some u ≡ false → IsSoaked clients from first s.schedule s
  all_done u lowest none = is_over (inl (none_of s u lowest none))

  -- nobody makes a step at the next draw
  pub nobody : (y draw : ℕ) (t : State) (b : Bool) → y ≡ next_state x → draw ≡ drawn y → b ≡ false → StepsFirst clients draw s t b → IsSoaked clients from first t.schedule t
  nobody y draw t true state drew e made = absurd cc
  nobody y draw t false state drew e made =
      let at : StepsFirst clients (drawn (next_state x)) s t false = subst (λ (d : ℕ). StepsFirst clients d s t false) (drew ∙ ap drawn state) made in
      subst (λ (w : State). IsSoaked clients from first w.schedule w) (sym at.0) (is_over (inr at.1))
