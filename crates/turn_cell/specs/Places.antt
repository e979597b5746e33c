-- Places of a schedule, of which the first is 1.
use Rattle.std.specs.Prelude.{ℕ, ◌<◌, ◌≤◌, ◌⊎◌, ◌↔◌, nat_lt, if◌then◌else◌, List, [], ◌∷◌, ◌++◌, length, Option, Some, None, Contains}
use Rattle.std.specs.List.Sorted.{IsStrictlyIncreasing}

-- these are places of the schedule, in ascending order, so that each stands there once
pub record ArePlaces (places schedule : List ℕ) : Type 0 where
  pub ascending : IsStrictlyIncreasing places
  pub within : (place : ℕ) → Contains places place → (0 < place) × (place ≤ length schedule)

-- the places that were made, with the last one of this schedule where a client stepped
abbrev pub places_with : List ℕ → List ℕ → Option ℕ → List ℕ
places_with places schedule None = places
places_with places schedule (Some client) = places ++ length schedule ∷ []

-- these are the places of both lists
abbrev pub HasBoth : List ℕ → List ℕ → List ℕ → Type 0
HasBoth places first second = (place : ℕ) → Contains places place ↔ (Contains first place ⊎ Contains second place)

-- the place among ascending ones
abbrev pub put_in_order : ℕ → List ℕ → List ℕ
put_in_order place [] = place ∷ []
put_in_order place (next ∷ places) = if nat_lt place next then place ∷ next ∷ places else next ∷ put_in_order place places

-- the places of two ascending lists, ascending
abbrev pub merged : List ℕ → List ℕ → List ℕ
merged [] second = second
merged (place ∷ first) second = put_in_order place (merged first second)
