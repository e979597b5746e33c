-- What holds of the runs of every call.
use Rattle.std.proofs.Common.{◌≡◌, ℕ, ◌+◌, ◌<◌, List, [], ◌∷◌, ◌++◌, length, get_or, Option, Some, None, zero, suc, refl, sym, ◌∙◌, ap, subst, arith, add-one}
use Rattle.std.specs.Prelude.{AllPairs}
use Rattle.call_steps.specs.Servers.{Servers}
use Rattle.call_steps.specs.Steps.{Outcome}
use Rattle.call_steps.specs.Runs.{CallStep, IsStepOf, IsRunOf, goes_on, call_after, place_after}

-- each step of a run stands behind the last place before it
pub stands_behind : {C : Type 0} (step : C → ℕ → Servers → Outcome C) (steps : List (CallStep C)) (call : Option C) (last : ℕ) → IsRunOf step steps call last → (i : ℕ) (d : CallStep C) → i < length steps → last < (get_or steps i d).place
stands_behind step [] call last run i d h = absurd (omega arith)
stands_behind step (made ∷ rest) None last run i d h = absurd run
stands_behind step (made ∷ rest) (Some call) last run zero d h = run.0.later
stands_behind step (made ∷ rest) (Some call) last run (suc i) d h =
    let behind : made.place < (get_or rest i d).place = stands_behind step rest (goes_on made.came) made.place run.1 i d (omega arith) in
    omega (arith, run.0.later)

-- the steps of a run stand in the order of their places
pub ascend : {C : Type 0} (step : C → ℕ → Servers → Outcome C) (steps : List (CallStep C)) (call : Option C) (last : ℕ) → IsRunOf step steps call last → AllPairs (λ (a b : CallStep C). a.place < b.place) steps
ascend step [] call last run = λ i j d lt within. absurd (omega (arith, within))
ascend step (made ∷ rest) None last run = absurd run
ascend step (made ∷ rest) (Some call) last run = λ i j d lt within. at (ascend step rest (goes_on made.came) made.place run.1) i j d lt within
  where
    at : AllPairs (λ (a b : CallStep _). a.place < b.place) rest → (i j : ℕ) (d : CallStep _) → i < j → j < length (made ∷ rest) → (get_or (made ∷ rest) i d).place < (get_or (made ∷ rest) j d).place
    at others i zero d lt within = absurd (omega (arith, lt))
    at others zero (suc j) d lt within = stands_behind step rest (goes_on made.came) made.place run.1 j d (omega (arith, within))
    at others (suc i) (suc j) d lt within = others i j d (omega (arith, lt)) (omega (arith, within))

-- a front of a run and what goes on from it, and the other way round
pub split : {C : Type 0} (step : C → ℕ → Servers → Outcome C) (front rest : List (CallStep C)) (call : Option C) (last : ℕ) → IsRunOf step (front ++ rest) call last → IsRunOf step front call last × IsRunOf step rest (call_after front call) (place_after front last)
split step [] rest call last run = (tt, run)
split step (made ∷ front) rest None last run = absurd run
split step (made ∷ front) rest (Some call) last run =
    let others = split step front rest (goes_on made.came) made.place run.1 in ((run.0, others.0), others.1)

pub joined : {C : Type 0} (step : C → ℕ → Servers → Outcome C) (front rest : List (CallStep C)) (call : Option C) (last : ℕ) → IsRunOf step front call last × IsRunOf step rest (call_after front call) (place_after front last) → IsRunOf step (front ++ rest) call last
joined step [] rest call last h = h.1
joined step (made ∷ front) rest None last h = absurd h.0
joined step (made ∷ front) rest (Some call) last h = (h.0.0, joined step front rest (goes_on made.came) made.place (h.0.1, h.1))
