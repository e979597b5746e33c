-- Lists of which one item is pushed or changed.
use Rattle.std.proofs.Common.{◌≡◌, ℕ, zero, suc, List, [], ◌∷◌, ◌++◌, length, map, Some, option_map, inl, inr, refl, ap, ◌∙◌, subst, arith}
use Rattle.std.specs.Prelude.{◌⊎◌, slice_get, slice_set}
use Rattle.std.specs.List.{AllByRecursion}
use Rattle.std.proofs.lemmas.Option.{slice_get-map}

-- an item stays at its place when the list grows
pub get_less : {A : Type 0} (xs ys : List A) (k : ℕ) (x : A) → slice_get xs k ≡ Some x → slice_get (xs ++ ys) k ≡ Some x
get_less [] ys k x e = absurd (cc e)
get_less (y ∷ xs) ys zero x e = e
get_less (y ∷ xs) ys (suc k) x e = get_less xs ys k x e

pub get_last : {A : Type 0} (xs : List A) (x : A) → slice_get (xs ++ x ∷ []) (length xs) ≡ Some x
get_last [] x = refl
get_last (y ∷ xs) x = get_last xs x

pub all_got : {A : Type 0} (P : A → Type 0) (xs : List A) (i : ℕ) (x : A) → AllByRecursion P xs → slice_get xs i ≡ Some x → P x
all_got P [] i x h e = absurd (cc e)
all_got P (y ∷ ys) zero x h e = let same : y ≡ x = cc e in subst P same h.0
all_got P (y ∷ ys) (suc i) x h e = all_got P ys i x h.1 e

pub all_at : {A : Type 0} (P : A → Type 0) (xs : List A) → ((i : ℕ) (x : A) → slice_get xs i ≡ Some x → P x) → AllByRecursion P xs
all_at P [] h = tt
all_at P (x ∷ xs) h = (h 0 x refl, all_at P xs (λ i y e. h (suc i) y e))

-- where one item was put, there it is, and each other is as it was
pub set_got : {A : Type 0} (xs : List A) (i j : ℕ) (new found : A) → slice_get (slice_set xs i new) j ≡ Some found → ((i ≡ j) × (new ≡ found)) ⊎ ((i ≡ j → ⊥) × (slice_get xs j ≡ Some found))
set_got [] i j new found e = absurd (cc e)
set_got (x ∷ xs) zero zero new found e = inl (refl, cc e)
set_got (x ∷ xs) zero (suc j) new found e = inr (λ same. omega (arith, same), e)
set_got (x ∷ xs) (suc i) zero new found e = inr (λ same. omega (arith, same), e)
set_got (x ∷ xs) (suc i) (suc j) new found e = elim (set_got xs i j new found e) [
  | inl here ↦ inl (ap suc here.0, here.1)
  | inr other ↦ inr (λ same. other.0 (omega (arith, same)), other.1)
]

-- ---- a map that changes one item

map_same : {A : Type 0} (f : A → A) (xs : List A) → ((i : ℕ) (z : A) → slice_get xs i ≡ Some z → f z ≡ z) → map f xs ≡ xs
map_same f [] h = refl
map_same f (x ∷ xs) h = ap (λ y. y ∷ map f xs) (h 0 x refl) ∙ ap (λ ys. x ∷ ys) (map_same f xs (λ i z e. h (suc i) z e))

pub map_at : {A : Type 0} (f : A → A) (xs : List A) (j : ℕ) (x y : A) → slice_get xs j ≡ Some x → f x ≡ y → ((i : ℕ) (z : A) → (i ≡ j → ⊥) → slice_get xs i ≡ Some z → f z ≡ z) → map f xs ≡ slice_set xs j y
map_at f [] j x y here is others = absurd (cc here)
map_at f (z ∷ zs) zero x y here is others =
    let same : z ≡ x = cc here in
    ap (λ u. u ∷ map f zs) (ap f same ∙ is) ∙ ap (λ us. y ∷ us) (map_same f zs (λ i u e. others (suc i) u (λ k. omega (arith, k)) e))
map_at f (z ∷ zs) (suc j) x y here is others =
    ap (λ u. u ∷ map f zs) (others 0 z (λ k. omega (arith, k)) refl) ∙ ap (λ us. z ∷ us) (map_at f zs j x y here is (λ i u other e. others (suc i) u (λ k. other (omega (arith, k))) e))

-- an item that the map leaves stays at its place
pub map_got : {A : Type 0} (f : A → A) (xs : List A) (k : ℕ) (x : A) → slice_get xs k ≡ Some x → f x ≡ x → slice_get (map f xs) k ≡ Some x
map_got f xs k x here is = slice_get-map f xs k ∙ ap (option_map f) here ∙ ap Some is
