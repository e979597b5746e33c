-- A writing call from its first step to its last, step by step.
use Rattle.std.proofs.Common.{◌≡◌, ℕ, ◌<◌, ◌≤◌, Bool, true, false, Option, Some, None, List, [], ◌∷◌, ◌++◌, refl, sym, ap, subst, ◌∙◌, arith}
use Rattle.std.specs.List.{AllByRecursion, flat_map}
use Rattle.std.proofs.lemmas.List.{append-nil, append_assoc}
use Rattle.script_values.specs.declared.command.Command.{Command}
use Rattle.script_values.specs.Scripts.{ScriptView}
use Rattle.call_steps.specs.Runs.{CallStep, IsRunOf, IsStepOf, goes_on}
use Rattle.call_steps.specs.Servers.{Servers}
use Rattle.call_steps.specs.Steps.{Outcome, Going, Fixed, Ended, Answered, Blocked}
use Rattle.flr_steps.specs.declared.client.Running.{Running}
use Rattle.flr_steps.specs.Traces.{Doing, Made, is_opening, nothing_done}
use Rattle.flr_asked.specs.CallRuns.{AllStand, StandsIn, done_in, made_in, opened_in, own_step, place_if}
use Rattle.flr_sole.specs.Sentences.{IsPast}
use Rattle.flr_sole.proofs.Making.{all_joined, made_placed, past_later}
use Rattle.flr_honest.specs.WriteCauses.Stages.{HasDone, Outside, Stage}

-- ---- what steps did, one after the other

abbrev pub done_then : Doing → CallStep Running → Doing
done_then d x = record { opened = place_if (is_opening x.call) x.place d.opened; made = d.made ++ made_in x }

abbrev pub done_from : Doing → List (CallStep Running) → Doing
done_from d [] = d
done_from d (x ∷ xs) = done_from (done_then d x) xs

done_so : (xs : List (CallStep Running)) (d : Doing) → done_from d xs ≡ record { opened = opened_in d.opened xs; made = d.made ++ flat_map made_in xs }
done_so [] d = ap (λ (ms : List Made). record { opened = d.opened; made = ms }) (sym (append-nil d.made))
done_so (x ∷ xs) d = done_so xs (done_then d x) ∙ ap (λ (ms : List Made). record { opened = opened_in (place_if (is_opening x.call) x.place d.opened) xs; made = ms }) (append_assoc d.made (made_in x) (flat_map made_in xs))

pub done_in_from : (xs : List (CallStep Running)) → done_in xs ≡ done_from nothing_done xs
done_in_from xs = sym (done_so xs nothing_done)

pub done_last : (xs : List (CallStep Running)) (y : CallStep Running) (d : Doing) → done_from d (xs ++ y ∷ []) ≡ done_then (done_from d xs) y
done_last [] y d = refl
done_last (x ∷ xs) y d = done_last xs y (done_then d x)

-- ---- a step

then_past : (b : Bool) (now place : ℕ) (made : List Made) (d : Doing) → now < place → AllByRecursion (λ (m : Made). m.place ≤ place) made → IsPast now d
    → IsPast place (record { opened = place_if b place d.opened; made = d.made ++ made })
then_past b now place made d less placed past =
    let more = past_later now place d (omega (arith, less)) past in record { opened = by b more.opened; made = all_joined (λ (m : Made). m.place ≤ place) d.made made more.made placed }
  where
    by : (b : Bool) → d.opened ≤ place → place_if b place d.opened ≤ place
    by true low = omega arith
    by false low = low

module _ (script : ScriptView) (schedule : List ℕ) (c first : ℕ) (asked : Command) {A : Type 0} (so : A → Running) (stage : A → Stage) where
  -- where the call goes on it is one of these, and has done what its stage says
  abbrev pub OnNext : Doing → Outcome Running → Type 0
  OnNext d (Going next after) = (a : A) × (next ≡ so a) × HasDone script schedule c first asked d (stage a)
  OnNext d (Fixed next reply takes after) = (a : A) × (next ≡ so a) × HasDone script schedule c first asked d (stage a)
  OnNext d (Ended after) = Unit {0}
  OnNext d (Answered reply takes after) = Unit {0}
  OnNext d (Blocked holder) = Unit {0}

  -- the step is one of the call as it is then, which has done so much before
  pub record Comes (d : Doing) (a : A) (x : CallStep Running) : Type 0 where
    pub now : ℕ
    pub past : IsPast now d
    pub has : HasDone script schedule c first asked d (stage a)
    pub step : IsStepOf (own_step c asked) (so a) now x
    pub stands : StandsIn script schedule c asked x
    pub began : first ≤ x.place

  -- each step leaves that
  abbrev pub EachGoes : Type 0
  EachGoes = (d : Doing) (a : A) (x : CallStep Running) → Comes d a x → OnNext (done_then d x) x.came

  walk : EachGoes → (xs : List (CallStep Running)) (y : CallStep Running) (a : A) (d : Doing) (now : ℕ) → IsPast now d
      → HasDone script schedule c first asked d (stage a) → IsRunOf (own_step c asked) (xs ++ y ∷ []) (Some (so a)) now
      → AllStand script schedule c asked (xs ++ y ∷ []) → AllByRecursion (λ (x : CallStep Running). first ≤ x.place) (xs ++ y ∷ []) → (b : A) × Comes (done_from d xs) b y
  walk goes [] y a d now past has run stand low = (a, record { now = now; past = past; has = has; step = run.0; stands = stand.0; began = low.0 })
  walk goes (x ∷ xs) y a d now past has run stand low =
      by x.came (goes d a x (record { now = now; past = past; has = has; step = run.0; stands = stand.0; began = low.0 })) run.1 (λ b has more. walk goes xs y b (done_then d x) x.place new_past has more stand.1 low.1)
    where
      new_past : IsPast x.place (done_then d x)
      new_past = then_past (is_opening x.call) now x.place (made_in x) d run.0.later (made_placed x.place x.before.targets x.after.targets) past

      rest : (next : Running) → (b : A) × (next ≡ so b) × HasDone script schedule c first asked (done_then d x) (stage b)
          → IsRunOf (own_step c asked) (xs ++ y ∷ []) (Some next) x.place
          → ((b : A) → HasDone script schedule c first asked (done_then d x) (stage b) → IsRunOf (own_step c asked) (xs ++ y ∷ []) (Some (so b)) x.place → (b : A) × Comes (done_from d (x ∷ xs)) b y) → (b : A) × Comes (done_from d (x ∷ xs)) b y
      rest next is more further = further is.0 is.2 (subst (λ (r : Running). IsRunOf (own_step c asked) (xs ++ y ∷ []) (Some r) x.place) is.1 more)

      none : (zs : List (CallStep Running)) → IsRunOf (own_step c asked) (zs ++ y ∷ []) None x.place → ⊥
      none [] h = h
      none (z ∷ zs) h = h

      by : (o : Outcome Running) → OnNext (done_then d x) o → IsRunOf (own_step c asked) (xs ++ y ∷ []) (goes_on o) x.place
          → ((b : A) → HasDone script schedule c first asked (done_then d x) (stage b) → IsRunOf (own_step c asked) (xs ++ y ∷ []) (Some (so b)) x.place → (b : A) × Comes (done_from d (x ∷ xs)) b y) → (b : A) × Comes (done_from d (x ∷ xs)) b y
      by (Going next after) on more further = rest next on more further
      by (Fixed next reply takes after) on more further = rest next on more further
      by (Ended after) on more further = absurd (none xs more)
      by (Answered reply takes after) on more further = absurd (none xs more)
      by (Blocked holder) on more further = absurd (none xs more)

  -- the last step of a call that began so
  pub walk_all : EachGoes → (a : A) → stage a ≡ Outside → (front : List (CallStep Running)) (last : CallStep Running)
      → IsRunOf (own_step c asked) (front ++ last ∷ []) (Some (so a)) 0
      → AllStand script schedule c asked (front ++ last ∷ []) → AllByRecursion (λ (x : CallStep Running). first ≤ x.place) (front ++ last ∷ [])
      → (b : A) × Comes (done_from nothing_done front) b last
  walk_all goes a outside front last run stand low =
      walk goes front last a nothing_done 0 (record { opened = omega arith; made = tt }) (subst (λ (k : Stage). HasDone script schedule c first asked nothing_done k) (sym outside) tt) run stand low

-- ---- all steps are behind the first

all_behind : {C : Type 0} (step : C → ℕ → Servers → Outcome C) (first : ℕ) (xs : List (CallStep C)) (call : Option C) (last : ℕ) → first ≤ last
    → IsRunOf step xs call last → AllByRecursion (λ (x : CallStep C). first ≤ x.place) xs
all_behind step first [] call last le run = tt
all_behind step first (x ∷ xs) None last le run = absurd run
all_behind step first (x ∷ xs) (Some call) last le run = let less = run.0.later in (omega (arith, le, less), all_behind step first xs (goes_on x.came) x.place (omega (arith, le, less)) run.1)

pub all_from : {C : Type 0} (step : C → ℕ → Servers → Outcome C) (xs : List (CallStep C)) (call : Option C) (last first : ℕ) → IsRunOf step xs call last
    → ((x : CallStep C) (rest : List (CallStep C)) → xs ≡ x ∷ rest → x.place ≡ first) → AllByRecursion (λ (x : CallStep C). first ≤ x.place) xs
all_from step [] call last first run begins = tt
all_from step (x ∷ xs) None last first run begins = absurd run
all_from step (x ∷ xs) (Some call) last first run begins = let same = begins x xs refl in (omega (arith, same), all_behind step first xs (goes_on x.came) x.place (omega (arith, same)) run.1)
