-- Ascending lists with the same members are one.
use Rattle.std.proofs.Common.{◌≡◌, ℕ, ◌<◌, ◌⊎◌, suc, List, [], ◌∷◌, map, inl, inr, refl, sym, ap, subst, arith}
use Rattle.std.specs.List.{AllByRecursion, AllPairs}
use Rattle.std.specs.List.Sorted.{IsStrictlyIncreasing}
use Rattle.std.proofs.lemmas.List.Kept.{AllPairs-from_increasing}
use Rattle.mirror_select.proofs.Least.{In, to_contains}

-- each number is below all later ones
abbrev pub Ascends : List ℕ → Type 0
Ascends [] = Unit {0}
Ascends (x ∷ xs) = ((y : ℕ) → In y xs → x < y) × Ascends xs

from_pairs : (xs : List ℕ) → AllPairs (λ a b. a < b) xs → Ascends xs
from_pairs [] h = tt
from_pairs (x ∷ xs) h = (
  (λ y i. (let k = to_contains xs y i in let l = k.1 in subst (λ z. x < z) k.2 (h 0 (suc k.0) y (omega (arith, l)) (omega (arith, l))))),
  from_pairs xs (λ i j d l m. h (suc i) (suc j) d (omega (arith, l)) (omega (arith, m))),
)

pub ascends : (xs : List ℕ) → IsStrictlyIncreasing xs → Ascends xs
ascends xs h = from_pairs xs (AllPairs-from_increasing xs h)

-- what is in one is in the other
abbrev pub AreAmong : List ℕ → List ℕ → Type 0
AreAmong xs ys = (z : ℕ) → In z xs → In z ys

one_head : (x y : ℕ) (xs ys : List ℕ) → Ascends (x ∷ xs) → Ascends (y ∷ ys) → (y ≡ x) ⊎ In x ys → (x ≡ y) ⊎ In y xs → y ≡ x
one_head x y xs ys a b (inl e) other = e
one_head x y xs ys a b (inr i) (inl e) = sym e
one_head x y xs ys a b (inr i) (inr j) = let low = a.0 y j in let high = b.0 x i in absurd (omega (arith, low, high))

among_tails : (x y : ℕ) (xs ys : List ℕ) → y ≡ x → ((z : ℕ) → In z xs → x < z) → AreAmong (x ∷ xs) (y ∷ ys) → AreAmong xs ys
among_tails x y xs ys same above to z i = by (to z (inr i))
  where
    by : (y ≡ z) ⊎ In z ys → In z ys
    by (inl e) = let more = above z i in absurd (omega (arith, more, e, same))
    by (inr k) = k

pub one_ascending : (xs ys : List ℕ) → Ascends xs → Ascends ys → AreAmong xs ys → AreAmong ys xs → ys ≡ xs
one_ascending [] [] a b to back = refl
one_ascending [] (y ∷ ys) a b to back = absurd (back y (inl refl))
one_ascending (x ∷ xs) [] a b to back = absurd (to x (inl refl))
one_ascending (x ∷ xs) (y ∷ ys) a b to back =
    let head : y ≡ x = one_head x y xs ys a b (to x (inl refl)) (back y (inl refl)) in
    let tail : ys ≡ xs = one_ascending xs ys a.1 b.1 (among_tails x y xs ys head a.0 to) (among_tails y x ys xs (sym head) b.0 back) in
    (λ i. head i ∷ tail i)

-- ---- lists of what is named by numbers

pub in_mapped : {A : Type 0} (f : A → ℕ) (xs : List A) (x : A) → In x xs → In (f x) (map f xs)
in_mapped f [] x i = absurd i
in_mapped f (y ∷ ys) x (inl e) = inl (ap f e)
in_mapped f (y ∷ ys) x (inr i) = inr (in_mapped f ys x i)

pub of_mapped : {A : Type 0} (f : A → ℕ) (xs : List A) (n : ℕ) → In n (map f xs) → (x : A) × In x xs × (f x ≡ n)
of_mapped f [] n i = absurd i
of_mapped f (y ∷ ys) n (inl e) = (y, inl refl, e)
of_mapped f (y ∷ ys) n (inr i) = let found = of_mapped f ys n i in (found.0, inr found.1, found.2)

-- what is so of each is so of one
pub so_of_one : {A : Type 0} (P : A → Type 0) (xs : List A) (x : A) → AllByRecursion P xs → In x xs → P x
so_of_one P [] x h i = absurd i
so_of_one P (y ∷ ys) x h (inl e) = subst P e h.0
so_of_one P (y ∷ ys) x h (inr i) = so_of_one P ys x h.1 i
