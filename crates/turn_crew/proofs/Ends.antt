-- Lists of seats, and clients that have ended.
use Rattle.std.proofs.Common.{◌≡◌, ℕ, List, [], ◌∷◌, ◌++◌, Option, Some, None, ◌⊎◌, ap, subst}
use Rattle.std.specs.Prelude.{All}
use Rattle.std.proofs.lemmas.List.Elements.{All-push, All-weaker}
use Rattle.turn_cell.specs.declared.stepped.StepAnswer.{StepAnswer}
use Rattle.turn_cell.specs.declared.stepped.StepAnswer.TheVariants.{Finished, Unknown}
use Rattle.turn_cell.specs.Schedules.{IsFront}
use Rattle.turn_cell.proofs.Fronts.{front_along}
use Rattle.turn_crew.specs.Crew.{HasEnded}

-- a fact of each, weakened, and of one more
pub all_push : {A : Type 0} (P Q : A → Type 0) (xs : List A) (y : A) → All P xs → ((x : A) → P x → Q x) → Q y → All Q (xs ++ y ∷ [])
all_push P Q xs y h f q = All-push Q xs y (All-weaker P Q f xs h) q

some_or : {A : Type 0} → A → Option A → A
some_or d None = d
some_or d (Some x) = x

pub some_inj : {A : Type 0} (x y : A) → Some x ≡ Some y → x ≡ y
unfolding some_or
some_inj x y e = ap (some_or x) e

module _ {O : Type 0} (allowed : O → List ℕ → ℕ → StepAnswer → Type 0) where
  -- a client that has ended has ended before each longer schedule
  pub ended_along : (o p : O) (from from' mid to : List ℕ) (n m : ℕ) → o ≡ p → from ≡ from' → n ≡ m → HasEnded allowed o from n mid → IsFront mid to → HasEnded allowed p from' m to
  ended_along o p from from' mid to n m so sf sn e b = record {
    at = e.at;
    from_front = subst (λ z. IsFront z e.at) sf e.from_front;
    front = front_along e.at mid to e.front b;
    ended = subst (λ (z : O × ℕ). allowed z.0 e.at z.1 Finished ⊎ allowed z.0 e.at z.1 Unknown) (λ i. (so i, sn i)) e.ended;
  }
