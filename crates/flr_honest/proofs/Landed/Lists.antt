-- What stands at the places of lists.
use Rattle.std.proofs.Common.{◌≡◌, ℕ, zero, suc, ◌<◌, Some, List, [], ◌∷◌, ◌++◌, length, map, ◌⊎◌, inl, inr, refl, ap, arith, get_or}
use Rattle.std.specs.Prelude.{slice_get}
use Rattle.std.proofs.Math.ListN.{set}
use Rattle.mirror_select.proofs.Least.{In}

-- what is there is one
pub some_same : {X : Type 0} (x y : X) → Some x ≡ Some y → x ≡ y
some_same x y e = cc

-- nothing is put behind
pub nothing_behind : {X : Type 0} (xs : List X) → xs ++ [] ≡ xs
nothing_behind [] = refl
nothing_behind (x ∷ xs) = ap (λ ys. x ∷ ys) (nothing_behind xs)

-- what is at a place that the list has
pub got : {X : Type 0} (xs : List X) (i : ℕ) (d : X) → i < length xs → slice_get xs i ≡ Some (get_or xs i d)
got [] i d within = absurd (omega (arith, within))
got (x ∷ xs) zero d within = refl
got (x ∷ xs) (suc i) d within = got xs i d (omega (arith, within))

-- what is at a place is in the list
pub got_in : {X : Type 0} (xs : List X) (i : ℕ) (y : X) → slice_get xs i ≡ Some y → In y xs
got_in [] i y e = absurd (cc)
got_in (x ∷ xs) zero y e = inl (cc)
got_in (x ∷ xs) (suc i) y e = inr (got_in xs i y e)

-- ---- a list that is made of another

-- what is at a place comes from what is at that place of the first
pub got_from : {X Y : Type 0} (f : X → Y) (xs : List X) (i : ℕ) (d : Y) → i < length (map f xs) → (x : X) × (slice_get xs i ≡ Some x) × (get_or (map f xs) i d ≡ f x)
got_from f [] i d within = absurd (omega (arith, within))
got_from f (x ∷ xs) zero d within = (x, refl, refl)
got_from f (x ∷ xs) (suc i) d within = got_from f xs i d (omega (arith, within))

-- and so does what was found there
pub got_back : {X Y : Type 0} (f : X → Y) (xs : List X) (i : ℕ) (y : Y) → slice_get (map f xs) i ≡ Some y → (x : X) × (slice_get xs i ≡ Some x) × (f x ≡ y)
got_back f [] i y e = absurd (cc)
got_back f (x ∷ xs) zero y e = (x, refl, cc)
got_back f (x ∷ xs) (suc i) y e = got_back f xs i y e

-- what is at a place of the first is there in the other
pub map_got : {X Y : Type 0} (f : X → Y) (xs : List X) (i : ℕ) (x : X) → slice_get xs i ≡ Some x → slice_get (map f xs) i ≡ Some (f x)
map_got f [] i x e = absurd (cc)
map_got f (y ∷ ys) zero x e = let same : y ≡ x = cc in ap (λ z. Some (f z)) same
map_got f (y ∷ ys) (suc i) x e = map_got f ys i x e

-- so it is in the other
pub map_in : {X Y : Type 0} (f : X → Y) (xs : List X) (i : ℕ) (x : X) → slice_get xs i ≡ Some x → In (f x) (map f xs)
map_in f xs i x e = got_in (map f xs) i (f x) (map_got f xs i x e)

-- ---- one more behind a list

-- what is at a place stood there before, or is the new one
pub got_last : {X : Type 0} (xs : List X) (x y : X) (i : ℕ) → slice_get (xs ++ x ∷ []) i ≡ Some y → (slice_get xs i ≡ Some y) ⊎ ((i ≡ length xs) × (x ≡ y))
got_last [] x y zero e = inr (refl, cc)
got_last [] x y (suc i) e = absurd (cc)
got_last (w ∷ ws) x y zero e = inl e
got_last (w ∷ ws) x y (suc i) e = elim (got_last ws x y i e) as (λ _. (slice_get ws i ≡ Some y) ⊎ ((suc i ≡ length (w ∷ ws)) × (x ≡ y))) [ inl k ↦ inl k | inr k ↦ inr (ap suc k.0, k.1) ]

-- the new one is at the end
pub got_end : {X : Type 0} (xs : List X) (x : X) → slice_get (xs ++ x ∷ []) (length xs) ≡ Some x
got_end [] x = refl
got_end (w ∷ ws) x = got_end ws x

-- ---- one is set

-- what is set is there
pub set_there : {X : Type 0} (xs : List X) (i : ℕ) (x y : X) → slice_get xs i ≡ Some x → slice_get (set xs i y) i ≡ Some y
set_there [] i x y e = absurd (cc)
set_there (w ∷ ws) zero x y e = refl
set_there (w ∷ ws) (suc i) x y e = set_there ws i x y e

-- and all else is as it was
pub set_other : {X : Type 0} (xs : List X) (i j : ℕ) (y : X) → (j ≡ i → ⊥) → slice_get (set xs i y) j ≡ slice_get xs j
set_other [] i j y apart = refl
set_other (w ∷ ws) zero zero y apart = absurd (apart refl)
set_other (w ∷ ws) zero (suc j) y apart = refl
set_other (w ∷ ws) (suc i) zero y apart = refl
set_other (w ∷ ws) (suc i) (suc j) y apart = set_other ws i j y (λ same. apart (ap suc same))
