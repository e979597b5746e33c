-- Of the calls of targets that a client's command made two of one target with one number are one.
use Rattle.std.proofs.Common.{◌≡◌, ℕ, ◌<◌, ◌≤◌, ◌-◌, ◌⊎◌, Bool, true, false, cond, Some, List, [], ◌∷◌, ◌++◌, Contains, inl, inr, refl, sym, ap, subst, ◌∙◌, arith, filter}
use Rattle.std.proofs.lemmas.Bool.{cases_lt}
use Rattle.std.proofs.lemmas.Option.{slice_get_within}
use Rattle.std.specs.List.{flat_map}
use Rattle.std.specs.Prelude.{slice_get, nat_lt}
use Rattle.flr_base.specs.declared.reply.Entry.{Entry}
use Rattle.object_target.specs.TargetState.{next_call}
use Rattle.script_values.specs.declared.command.Command.{Command}
use Rattle.mirror_select.proofs.Least.{In, from_contains}
use Rattle.call_steps.specs.Runs.{CallStep}
use Rattle.call_steps.specs.Servers.{Servers, target_at}
use Rattle.flr_steps.specs.declared.client.Running.{Running}
use Rattle.flr_steps.specs.States.{IsRun, State, start, state_at}
use Rattle.flr_steps.specs.Traces.{Doing, Made, Past, made_since_open}
use Rattle.flr_asked.specs.CallRuns.{AllStand, StandsIn, made_in}
use Rattle.flr_honest.specs.Entries.{IsEntryOf}
use Rattle.flr_steps.proofs.Fronts.{fronts_are_runs}
use Rattle.flr_bound.proofs.Runs.{run_held}
use Rattle.flr_honest.specs.OnlyAnswers.Alone.{AreMadeOnce}
use Rattle.flr_honest.specs.CallSteps.StepMakes.{call_made}
use Rattle.flr_honest.proofs.CallSteps.CallsMade.{made_called}
use Rattle.flr_honest.proofs.OnlyAnswers.Rising.Rises.{between_rises}

module _ (s : State) (run : IsRun s) (c : ℕ) (asked : Command) where
  module _ (x y : CallStep Running) (a : StandsIn s.script s.schedule c asked x) (b : StandsIn s.script s.schedule c asked y) (m n : Made) (i : In m (made_in x)) (j : In n (made_in y)) (target : m.target ≡ n.target) (call : m.call ≡ n.call) where
    -- of two steps the later one's call has the higher number
    apart : x.place < y.place → ⊥
    apart less =
        let mine = made_called s run c asked x a m i in
        let theirs = made_called s run c asked y b n j in
        let long = slice_get_within (target_at x.after.targets m.target).calls (m.call - 1) m.entry mine.1.logged.1 in
        let some = mine.1.logged.0 in
        let grown = between_rises s.schedule x.place (y.place - 1) (start s.script) a.new b.old (omega (arith, less)) (run_held (start s.script) (fronts_are_runs s (start s.script) 0 run refl)) a.new_is b.old_is m.target in
        let after : next_call (target_at x.after.targets m.target) ≡ next_call (target_at a.new.shared.targets m.target) = ap (λ (u : Servers). next_call (target_at u.targets m.target)) a.after_is in
        let before : next_call (target_at b.old.shared.targets m.target) ≡ next_call (target_at y.before.targets n.target) =
        ap (λ (u : Servers). next_call (target_at u.targets m.target)) (sym b.before_is) ∙ ap (λ (k : ℕ). next_call (target_at y.before.targets k)) target in
        let number = theirs.1.next in
        absurd (omega (arith, long, some, grown, after, before, number, call))

  -- two calls of one target with one number are one, whichever steps made them
  same_made : (x y : CallStep Running) → StandsIn s.script s.schedule c asked x → StandsIn s.script s.schedule c asked y → (m n : Made) → In m (made_in x) → In n (made_in y) → m.target ≡ n.target → m.call ≡ n.call → m ≡ n
  same_made x y a b m n i j target call = by (cases_lt x.place y.place) (cases_lt y.place x.place)
    where
      one : x.place ≡ y.place → m ≡ n
      one place =
          let mine = made_called s run c asked x a m i in
          let theirs = made_called s run c asked y b n j in
          let old_here = a.old_is in
          let old_there : state_at s.script s.schedule (x.place - 1) ≡ Some b.old = ap (λ (k : ℕ). state_at s.script s.schedule (k - 1)) place ∙ b.old_is in
          let new_here = a.new_is in
          let new_there : state_at s.script s.schedule x.place ≡ Some b.new = ap (λ (k : ℕ). state_at s.script s.schedule k) place ∙ b.new_is in
          let old : a.old ≡ b.old = cc in
          let new : a.new ≡ b.new = cc in
          let before : x.before ≡ y.before = a.before_is ∙ ap (λ (u : State). u.shared) old ∙ sym b.before_is in
          let after : x.after ≡ y.after = a.after_is ∙ ap (λ (u : State). u.shared) new ∙ sym b.after_is in
          let logged : slice_get (target_at x.after.targets m.target).calls (m.call - 1) ≡ Some m.entry = mine.1.logged.1 in
          let there : slice_get (target_at x.after.targets m.target).calls (m.call - 1) ≡ Some n.entry =
          (λ k. slice_get (target_at (after k).targets (target k)).calls (call k - 1)) ∙ theirs.1.logged.1 in
          let entry : m.entry ≡ n.entry = cc in
          mine.0 ∙ (λ k. call_made (place k) (before k) (target k) (entry k)) ∙ sym theirs.0

      by : (x.place < y.place) ⊎ (y.place ≤ x.place) → (y.place < x.place) ⊎ (x.place ≤ y.place) → m ≡ n
      by (inl less) other = absurd (apart x y a b m n i j target call less)
      by (inr most) (inl more) = absurd (apart y x b a n m j i (sym target) (sym call) more)
      by (inr most) (inr least) = one (omega (arith, most, least))

  -- a call of one of these steps, with the step
  abbrev IsOfStep : Made → Type 0
  IsOfStep m = (x : CallStep Running) × StandsIn s.script s.schedule c asked x × In m (made_in x)

  either_in : (xs ys : List Made) (m : Made) → In m (xs ++ ys) → In m xs ⊎ In m ys
  either_in [] ys m i = inr i
  either_in (x ∷ xs) ys m (inl e) = inl (inl e)
  either_in (x ∷ xs) ys m (inr more) = elim (either_in xs ys m more) as (λ _. In m (x ∷ xs) ⊎ In m ys) [ inl k ↦ inl (inr k) | inr k ↦ inr k ]

  step_of_made : (steps : List (CallStep Running)) (m : Made) → AllStand s.script s.schedule c asked steps → In m (flat_map made_in steps) → IsOfStep m
  step_of_made [] m st i = absurd i
  step_of_made (x ∷ xs) m st i = elim (either_in (made_in x) (flat_map made_in xs) m i) as (λ _. IsOfStep m) [ inl k ↦ (x, st.0, k) | inr k ↦ step_of_made xs m st.1 k ]

-- what passes a test was there
in_filtered : {A : Type 0} (test : A → Bool) (xs : List A) (x : A) → In x (filter test xs) → In x xs
in_filtered test [] x i = absurd i
in_filtered {A} test (y ∷ ys) x i = by (test y) i (λ k. in_filtered test ys x k)
  where
    by : (b : Bool) → In x (cond b (y ∷ filter test ys) (filter test ys)) → (In x (filter test ys) → In x ys) → In x (y ∷ ys)
    by true (inl e) rest = inl e
    by true (inr more) rest = inr (rest more)
    by false more rest = inr (rest more)

-- the calls that an entry's command made since it opened its file are of different numbers
pub calls_made_once : {s : State} {e : Entry} {p : Past} (is : IsEntryOf s e p) → AreMadeOnce (made_since_open p.doing)
calls_made_once {s} {e} {p} is m n i j target call =
    let steps : List (CallStep Running) = is.call.front ++ is.call.last ∷ [] in
    let made : p.doing.made ≡ flat_map made_in steps = ap (λ (d : Doing). d.made) is.call.did_is in
    let of = λ (k : Made) (there : Contains (made_since_open p.doing) k).
    step_of_made s is.run e.client is.asked steps k is.call.stand
    (subst (λ (ms : List Made). In k ms) made (in_filtered (λ (x : Made). nat_lt p.doing.opened x.place) p.doing.made k (from_contains (made_since_open p.doing) k there))) in
    let mine = of m i in
    let theirs = of n j in
    same_made s is.run e.client is.asked mine.0 theirs.0 mine.1 theirs.1 m n mine.2 theirs.2 target call
