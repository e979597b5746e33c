-- What the trace tells of a call since it last opened its file or began.
use Rattle.std.proofs.Common.{◌≡◌, ℕ, ◌+◌, ◌<◌, ◌≤◌, Bool, true, false, cond, nat_lt, Option, Some, None, List, [], ◌∷◌, ◌++◌, length, drop, map, filter, ◌⊎◌, inl, inr, refl, sym, ap, subst, ◌∙◌, arith}
use Rattle.std.specs.List.{AllByRecursion, flat_map, range_with_len}
use Rattle.std.proofs.lemmas.Bool.Decides.{nat_tests}
use Rattle.object_target.specs.declared.call.CallEntry.{CallEntry}
use Rattle.object_target.specs.TargetState.{TargetState}
use Rattle.call_steps.specs.Runs.{CallStep, IsRun, IsRunOf, call_after, goes_on, place_after}
use Rattle.call_steps.specs.Servers.{Servers, target_at}
use Rattle.call_steps.specs.Steps.{Outcome}
use Rattle.call_steps.proofs.RunLaws.{split}
use Rattle.flr_steps.specs.declared.client.Running.{Running}
use Rattle.flr_steps.specs.Traces.{Made, is_opening, made_from, made_on}
use Rattle.flr_asked.specs.CallRuns.{made_in, of_kind, opened_in, place_if}
use Rattle.flr_sole.proofs.Making.{all_joined}
use Rattle.flr_honest.specs.CallSteps.SinceOpening.{NoneOpens}
use Rattle.flr_honest.proofs.CallSteps.Calling.{made_typed}

-- ---- places

-- what a step makes stands at its place
abbrev pub AreAt : ℕ → List Made → Type 0
AreAt place made = AllByRecursion (λ (m : Made). m.place ≡ place) made

placed_from : (place id : ℕ) (before : TargetState) (number : ℕ) (entries : List CallEntry) → AreAt place (made_from place id before number entries)
placed_from place id before number [] = tt
placed_from place id before number (entry ∷ entries) = (refl, placed_from place id before (number + 1) entries)

placed_each : (place : ℕ) (old new : List TargetState) (ids : List ℕ) → AreAt place (flat_map (made_on place old new) ids)
placed_each place old new [] = tt
placed_each place old new (id ∷ ids) =
    all_joined (λ (m : Made). m.place ≡ place) (made_on place old new id) (flat_map (made_on place old new) ids)
    (placed_from place id (target_at old id) (length (target_at old id).calls + 1) (drop (length (target_at old id).calls) (target_at new id).calls)) (placed_each place old new ids)

pub made_at : {C : Type 0} (x : CallStep C) → AreAt x.place (made_in x)
made_at x = placed_each x.place x.before.targets x.after.targets (range_with_len 0 (length x.after.targets))

all_to : {A : Type 0} (P Q : A → Type 0) (xs : List A) → ((x : A) → P x → Q x) → AllByRecursion P xs → AllByRecursion Q xs
all_to P Q [] h a = tt
all_to P Q (x ∷ xs) h a = (h x a.0, all_to P Q xs h a.1)

-- what these steps made stands where they do
all_flat : {C : Type 0} (Q : ℕ → Type 0) (steps : List (CallStep C)) → AllByRecursion (λ (x : CallStep C). Q x.place) steps → AllByRecursion (λ (m : Made). Q m.place) (flat_map made_in steps)
all_flat Q [] h = tt
all_flat Q (x ∷ xs) h =
    all_joined (λ (m : Made). Q m.place) (made_in x) (flat_map made_in xs)
    (all_to (λ (m : Made). m.place ≡ x.place) (λ (m : Made). Q m.place) (made_in x) (λ m at. subst Q (sym at) h.0) (made_at x)) (all_flat Q xs h.1)

module _ {C : Type 0} (step : C → ℕ → Servers → Outcome C) where
  -- the steps of a run stand behind the place before it
  pub all_behind : (steps : List (CallStep C)) (call : Option C) (last : ℕ) → IsRunOf step steps call last → AllByRecursion (λ (x : CallStep C). last < x.place) steps
  all_behind [] call last run = tt
  all_behind (x ∷ xs) None last run = absurd run
  all_behind (x ∷ xs) (Some call) last run =
      let here = run.0.later in (here, all_to (λ (y : CallStep C). x.place < y.place) (λ (y : CallStep C). last < y.place) xs (λ y behind. omega (arith, here, behind)) (all_behind xs (goes_on x.came) x.place run.1))

  middle_of : (P : CallStep C → Type 0) (front : List (CallStep C)) (y : CallStep C) (rest : List (CallStep C)) → AllByRecursion P (front ++ y ∷ rest) → P y
  middle_of P [] y rest h = h.0
  middle_of P (x ∷ xs) y rest h = middle_of P xs y rest h.1

  -- and those before one of them before its place
  pub all_before : (front : List (CallStep C)) (y : CallStep C) (rest : List (CallStep C)) (call : Option C) (last : ℕ) → IsRunOf step (front ++ y ∷ rest) call last → AllByRecursion (λ (x : CallStep C). x.place < y.place) front
  all_before [] y rest call last run = tt
  all_before (x ∷ xs) y rest None last run = absurd run
  all_before (x ∷ xs) y rest (Some call) last run =
      (middle_of (λ (z : CallStep C). x.place < z.place) xs y rest (all_behind (xs ++ y ∷ rest) (goes_on x.came) x.place run.1), all_before xs y rest (goes_on x.came) x.place run.1)

-- ---- filters

filter_joined : {A : Type 0} (p : A → Bool) (xs ys : List A) → filter p (xs ++ ys) ≡ filter p xs ++ filter p ys
filter_joined p [] ys = refl
filter_joined p (x ∷ xs) ys = by (p x) (filter_joined p xs ys)
  where
    by : (b : Bool) → filter p (xs ++ ys) ≡ filter p xs ++ filter p ys → cond b (x ∷ filter p (xs ++ ys)) (filter p (xs ++ ys)) ≡ cond b (x ∷ filter p xs) (filter p xs) ++ filter p ys
    by true rest = ap (λ zs. x ∷ zs) rest
    by false rest = rest

filter_nothing : {A : Type 0} (p : A → Bool) (xs : List A) → AllByRecursion (λ x. p x ≡ false) xs → filter p xs ≡ []
filter_nothing p [] a = refl
filter_nothing p (x ∷ xs) a = (λ j. cond (a.0 j) (x ∷ filter p xs) (filter p xs)) ∙ filter_nothing p xs a.1

filter_whole : {A : Type 0} (p : A → Bool) (xs : List A) → AllByRecursion (λ x. p x ≡ true) xs → filter p xs ≡ xs
filter_whole p [] a = refl
filter_whole p (x ∷ xs) a = (λ j. cond (a.0 j) (x ∷ filter p xs) (filter p xs)) ∙ ap (λ ys. x ∷ ys) (filter_whole p xs a.1)

no_later : (m : Made) (opened : ℕ) → m.place ≤ opened → nat_lt opened m.place ≡ false
no_later m opened h = grind (arith, nat_tests)

is_later : (m : Made) (opened : ℕ) → opened < m.place → nat_lt opened m.place ≡ true
is_later m opened h = grind (arith, nat_tests)

flat_joined : {A B : Type 0} (g : A → List B) (xs ys : List A) → flat_map g (xs ++ ys) ≡ flat_map g xs ++ flat_map g ys
flat_joined g [] ys = refl
flat_joined g (x ∷ xs) ys = ap (λ zs. g x ++ zs) (flat_joined g xs ys) ∙ sym (joined_so (g x) (flat_map g xs) (flat_map g ys))
  where
    joined_so : {B : Type 0} (ps qs rs : List B) → (ps ++ qs) ++ rs ≡ ps ++ (qs ++ rs)
    joined_so [] qs rs = refl
    joined_so (p ∷ ps) qs rs = ap (λ zs. p ∷ zs) (joined_so ps qs rs)

-- ---- the last step that opens

module _ {C : Type 0} (f : C → Running) where
  -- where none opens the place stays
  pub opened_none : (steps : List (CallStep C)) (last : ℕ) → NoneOpens f steps → opened_in last (map (of_kind f) steps) ≡ last
  opened_none [] last none = refl
  opened_none (x ∷ xs) last none = ap (λ (b : Bool). opened_in (place_if b x.place last) (map (of_kind f) xs)) none.0 ∙ opened_none xs last none.1

  pub opened_last : (front : List (CallStep C)) (y : CallStep C) (rest : List (CallStep C)) (last : ℕ) → is_opening (f y.call) ≡ true → NoneOpens f rest → opened_in last (map (of_kind f) (front ++ y ∷ rest)) ≡ y.place
  opened_last [] y rest last opens none = ap (λ (b : Bool). opened_in (place_if b y.place last) (map (of_kind f) rest)) opens ∙ opened_none rest y.place none
  opened_last (x ∷ xs) y rest last opens none = opened_last xs y rest (place_if (is_opening (f x.call)) x.place last) opens none

  -- a list, taken apart at its last one that opens
  pub record LastOpening (steps : List (CallStep C)) : Type 0 where
    pub front : List (CallStep C)
    pub opening : CallStep C
    pub rest : List (CallStep C)
    pub are : steps ≡ front ++ opening ∷ rest
    pub opens : is_opening (f opening.call) ≡ true
    pub none : NoneOpens f rest

  pub last_opening : (steps : List (CallStep C)) → NoneOpens f steps ⊎ LastOpening steps
  last_opening [] = inl tt
  last_opening (x ∷ xs) = by (last_opening xs) (is_opening (f x.call)) refl
    where
      by : NoneOpens f xs ⊎ LastOpening xs → (b : Bool) → is_opening (f x.call) ≡ b → NoneOpens f (x ∷ xs) ⊎ LastOpening (x ∷ xs)
      by (inr r) b e = inr (record { front = x ∷ r.front; opening = r.opening; rest = r.rest; are = ap (λ (ys : List (CallStep C)). x ∷ ys) r.are; opens = r.opens; none = r.none })
      by (inl none) true e = inr (record { front = []; opening = x; rest = xs; are = refl; opens = e; none = none })
      by (inl none) false e = inl (e, none)

  module _ (step : C → ℕ → Servers → Outcome C) (call : C) where
    -- what was made since the last opening one is what the steps behind it made
    pub made_since : (front : List (CallStep C)) (y : CallStep C) (rest : List (CallStep C)) → IsRun step call (front ++ y ∷ rest) → (opened : ℕ) → opened ≡ y.place
        → filter (λ (m : Made). nat_lt opened m.place) (flat_map made_in (map (of_kind f) (front ++ y ∷ rest))) ≡ flat_map made_in rest
    made_since front y rest run opened same =
        ap (λ (ms : List Made). filter later ms) (made_typed f (front ++ y ∷ rest) ∙ flat_joined made_in front (y ∷ rest))
        ∙ filter_joined later (flat_map made_in front) (made_in y ++ flat_map made_in rest)
        ∙ (λ j. past j ++ filter_joined later (made_in y) (flat_map made_in rest) j)
        ∙ (λ j. here j ++ behind j)
      where
        later : Made → Bool
        later m = nat_lt opened m.place

        parts : IsRunOf step front (Some call) 0 × IsRunOf step (y ∷ rest) (call_after front (Some call)) (place_after front 0)
        parts = split step front (y ∷ rest) (Some call) 0 run

        past : filter later (flat_map made_in front) ≡ []
        past =
            filter_nothing later (flat_map made_in front)
            (all_to (λ (m : Made). m.place < y.place) (λ (m : Made). later m ≡ false) (flat_map made_in front) (λ m low. no_later m opened (omega (arith, low, same)))
            (all_flat (λ (n : ℕ). n < y.place) front (all_before step front y rest (Some call) 0 run)))

        here : filter later (made_in y) ≡ []
        here = filter_nothing later (made_in y) (all_to (λ (m : Made). m.place ≡ y.place) (λ (m : Made). later m ≡ false) (made_in y) (λ m at. no_later m opened (omega (arith, at, same))) (made_at y))

        behind : filter later (flat_map made_in rest) ≡ flat_map made_in rest
        behind = whole (call_after front (Some call)) parts.1
          where
            whole : (o : Option C) → IsRunOf step (y ∷ rest) o (place_after front 0) → filter later (flat_map made_in rest) ≡ flat_map made_in rest
            whole None r = absurd r
            whole (Some k) r =
                filter_whole later (flat_map made_in rest)
                (all_to (λ (m : Made). y.place < m.place) (λ (m : Made). later m ≡ true) (flat_map made_in rest) (λ m high. is_later m opened (omega (arith, high, same)))
                (all_flat (λ (n : ℕ). y.place < n) rest (all_behind step rest (goes_on y.came) y.place r.1)))
