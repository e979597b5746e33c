-- Lists that functions make, and what stands at a place of a list.
use Rattle.std.proofs.Common.{◌≡◌, ℕ, zero, suc, ◌<◌, ◌≤◌, Bool, true, false, ◌||◌, List, [], ◌∷◌, ◌++◌, length, Some, inl, inr, refl, ap, subst, arith, get_or, map, ◌⊎◌}
use Rattle.std.specs.Prelude.{slice_get}
use Rattle.std.specs.List.{AllByRecursion}
use Rattle.std.proofs.lemmas.List.{get_or_past}
use Rattle.std.proofs.lemmas.List.FromFn.{get_or-map-range_with_len, length-map-range_with_len}
use Rattle.plain_files.specs.Files.{made_by}

-- what a list made by a function has within it
pub made_within : (len : ℕ) (byte : ℕ → ℕ) (x : ℕ) → x < len → get_or (made_by len byte) x 0 ≡ byte x
made_within len byte x lt = get_or-map-range_with_len byte 0 len x x 0 lt (omega arith)

-- and past it
pub made_past : (len : ℕ) (byte : ℕ → ℕ) (x : ℕ) → len ≤ x → get_or (made_by len byte) x 0 ≡ 0
made_past len byte x past = let long = length-map-range_with_len byte 0 len in get_or_past (made_by len byte) x 0 (omega (arith, long, past))

-- each place of a list has something
pub some_there : {X : Type 0} (xs : List X) (i : ℕ) → i < length xs → (x : X) × (slice_get xs i ≡ Some x)
some_there [] i lt = absurd (omega (arith, lt))
some_there (x ∷ xs) zero lt = (x, refl)
some_there (x ∷ xs) (suc i) lt = some_there xs i (omega (arith, lt))

-- and what has something is within
pub there_within : {X : Type 0} (xs : List X) (i : ℕ) (x : X) → slice_get xs i ≡ Some x → i < length xs
there_within [] i x e = absurd (cc)
there_within (y ∷ ys) zero x e = omega arith
there_within (y ∷ ys) (suc i) x e = let rest = there_within ys i x e in omega (arith, rest)

-- what holds of all holds there
pub all_there : {X : Type 0} (P : X → Type 0) (xs : List X) (i : ℕ) (x : X) → AllByRecursion P xs → slice_get xs i ≡ Some x → P x
all_there P [] i x h e = absurd (cc)
all_there P (y ∷ ys) zero x h e = subst P (let same : y ≡ x = cc in same) h.0
all_there P (y ∷ ys) (suc i) x h e = all_there P ys i x h.1 e

-- what stands at a place stands there before more
pub there_before : {X : Type 0} (xs ys : List X) (i : ℕ) (x : X) → slice_get xs i ≡ Some x → slice_get (xs ++ ys) i ≡ Some x
there_before [] ys i x e = absurd (cc)
there_before (y ∷ rest) ys zero x e = e
there_before (y ∷ rest) ys (suc i) x e = there_before rest ys i x e

-- what is mapped stands at its place
pub mapped_there : {X Y : Type 0} (f : X → Y) (xs : List X) (i : ℕ) (y : Y) → slice_get (map f xs) i ≡ Some y → (x : X) × (slice_get xs i ≡ Some x) × (f x ≡ y)
mapped_there f [] i y e = absurd (cc)
mapped_there f (x ∷ xs) zero y e = (x, refl, cc)
mapped_there f (x ∷ xs) (suc i) y e = mapped_there f xs i y e

-- and what stands at a place is mapped there
pub there_mapped : {X Y : Type 0} (f : X → Y) (xs : List X) (i : ℕ) (x : X) → slice_get xs i ≡ Some x → slice_get (map f xs) i ≡ Some (f x)
there_mapped f [] i x e = absurd (cc)
there_mapped f (y ∷ ys) zero x e = let same : y ≡ x = cc in ap (λ k. Some (f k)) same
there_mapped f (y ∷ ys) (suc i) x e = there_mapped f ys i x e

-- one of two tests passes
pub either : (a b : Bool) → (a || b) ≡ true → (a ≡ true) ⊎ (b ≡ true)
either true b e = inl refl
either false b e = inr e

-- where the first passes one does
pub first_passes : (a b : Bool) → a ≡ true → (a || b) ≡ true
first_passes true b e = refl
first_passes false b e = absurd (cc)

-- and where the second passes
pub second_passes : (a b : Bool) → b ≡ true → (a || b) ≡ true
second_passes true b e = refl
second_passes false b e = e
