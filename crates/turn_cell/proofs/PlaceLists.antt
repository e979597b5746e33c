-- Ascending lists of places.
use Rattle.std.proofs.Common.{◌≡◌, ◌≢◌, ◌⊎◌, ◌↔◌, ℕ, zero, suc, ◌+◌, ◌<◌, ltb, Bool, true, false, if◌then◌else◌, List, [], ◌∷◌, ◌++◌, length, get_or, refl, sym, ap, subst, inl, inr, ⊎_elim, arith, length-append}
use Rattle.std.specs.Prelude.{Contains, AllPairs}
use Rattle.std.specs.List.Sorted.{IsStrictlyIncreasing}
use Rattle.std.proofs.lemmas.List.Elements.{Contains-push_cases}
use Rattle.std.proofs.lemmas.List.Kept.{AllPairs-from_increasing}
use Rattle.turn_cell.specs.Places.{ArePlaces, HasBoth, put_in_order, merged}
use Rattle.turn_cell.specs.Schedules.{IsFront}
use Rattle.turn_cell.proofs.Fronts.{front_length}

-- `Contains` and `IsStrictlyIncreasing` by recursion
abbrev Has : ℕ → List ℕ → Type 0
Has p [] = ⊥
Has p (x ∷ xs) = (p ≡ x) ⊎ Has p xs

abbrev Ascends : List ℕ → Type 0
Ascends [] = Unit {0}
Ascends (x ∷ xs) = ((p : ℕ) → Has p xs → x < p) × Ascends xs

has-from_Contains : (p : ℕ) (xs : List ℕ) → Contains xs p → Has p xs
has-from_Contains p [] (k, l, e) = absurd (omega arith)
has-from_Contains p (x ∷ xs) (zero, l, e) = inl (sym e)
has-from_Contains p (x ∷ xs) (suc k, l, e) = inr (has-from_Contains p xs (k, omega arith, e))

Contains-from_has : (p : ℕ) (xs : List ℕ) → Has p xs → Contains xs p
Contains-from_has p [] h = absurd h
Contains-from_has p (x ∷ xs) h = ⊎_elim (λ e. (zero, omega arith, sym e)) (λ t. let k = Contains-from_has p xs t in let l = k.1 in (suc k.0, omega arith, k.2)) h

increasing-from_ascends : (xs : List ℕ) → Ascends xs → IsStrictlyIncreasing xs
increasing-from_ascends [] a k l = absurd (omega arith)
increasing-from_ascends (x ∷ []) a k l = absurd (omega arith)
increasing-from_ascends (x ∷ y ∷ xs) a zero l = a.0 y (inl refl)
increasing-from_ascends (x ∷ y ∷ xs) a (suc k) l = let e : suc (k + 1) ≡ suc k + 1 = omega arith in subst (λ n. get_or (y ∷ xs) k 0 < get_or (x ∷ y ∷ xs) n 0) e (increasing-from_ascends (y ∷ xs) a.1 k (omega arith))

ascends-from_pairs : (xs : List ℕ) → AllPairs (λ a b. a < b) xs → Ascends xs
ascends-from_pairs [] h = tt
ascends-from_pairs (x ∷ xs) h =
    ((λ p m. let k = Contains-from_has p xs m in let l = k.1 in subst (λ z. x < z) k.2 (h 0 (suc k.0) p (omega arith) (omega arith))), ascends-from_pairs xs (λ i j d l m. h (suc i) (suc j) d (omega arith) (omega arith)))

ascends-from_increasing : (xs : List ℕ) → IsStrictlyIncreasing xs → Ascends xs
ascends-from_increasing xs h = ascends-from_pairs xs (AllPairs-from_increasing xs h)

pub contains_none : (p : ℕ) → Contains [] p → ⊥
contains_none p (k, l, e) = absurd (omega arith)

pub increasing_none : IsStrictlyIncreasing []
increasing_none k l = absurd (omega arith)

ascends_push : (xs : List ℕ) (q : ℕ) → Ascends xs → ((p : ℕ) → Has p xs → p < q) → Ascends (xs ++ q ∷ [])
ascends_push [] q a f = ((λ p n. absurd n), tt)
ascends_push (x ∷ xs) q a f =
    ((λ p h. ⊎_elim (λ t. a.0 p (has-from_Contains p xs t)) (λ (e : q ≡ p). subst (λ z. x < z) e (f x (inl refl))) (Contains-push_cases xs q p (Contains-from_has p (xs ++ q ∷ []) h))), ascends_push xs q a.1 (λ p h. f p (inr h)))

-- a place above all others
pub increasing_push : (xs : List ℕ) (q : ℕ) → IsStrictlyIncreasing xs → ((p : ℕ) → Contains xs p → p < q) → IsStrictlyIncreasing (xs ++ q ∷ [])
increasing_push xs q a f = increasing-from_ascends (xs ++ q ∷ []) (ascends_push xs q (ascends-from_increasing xs a) (λ p h. f p (Contains-from_has p xs h)))

has_put_if : (p x y : ℕ) (ys : List ℕ) (b : Bool) → (Has p (put_in_order x ys) ↔ ((p ≡ x) ⊎ Has p ys)) → (Has p (if b then x ∷ y ∷ ys else y ∷ put_in_order x ys) ↔ ((p ≡ x) ⊎ Has p (y ∷ ys)))
has_put_if p x y ys true f = ((λ h. h), (λ h. h))
has_put_if p x y ys false f = (
  (λ h. ⊎_elim (λ e. inr (inl e)) (λ t. ⊎_elim (λ e. inl e) (λ u. inr (inr u)) (f.0 t)) h),
  (λ h. ⊎_elim (λ e. inr (f.1 (inl e))) (λ t. ⊎_elim (λ e. inl e) (λ u. inr (f.1 (inr u))) t) h),
)

has_put : (p x : ℕ) (ys : List ℕ) → (Has p (put_in_order x ys) ↔ ((p ≡ x) ⊎ Has p ys))
has_put p x [] = ((λ h. h), (λ h. h))
has_put p x (y ∷ ys) = has_put_if p x y ys (ltb x y) (has_put p x ys)

has_merged : (p : ℕ) (xs ys : List ℕ) → (Has p (merged xs ys) ↔ (Has p xs ⊎ Has p ys))
has_merged p [] ys = ((λ h. inr h), (λ h. ⊎_elim (λ n. absurd n) (λ t. t) h))
has_merged p (x ∷ xs) ys = let m = has_merged p xs ys in let q = has_put p x (merged xs ys) in (
  (λ h. ⊎_elim (λ e. inl (inl e)) (λ t. ⊎_elim (λ a. inl (inr a)) (λ b. inr b) (m.0 t)) (q.0 h)),
  (λ h. q.1 (⊎_elim (λ t. ⊎_elim (λ e. inl e) (λ a. inr (m.1 (inl a))) t) (λ b. inr (m.1 (inr b))) h)),
)

-- the places of both lists stand in the merged one
pub both-merged : (xs ys : List ℕ) → HasBoth (merged xs ys) xs ys
both-merged xs ys p = let m = has_merged p xs ys in (
  (λ h. ⊎_elim (λ a. inl (Contains-from_has p xs a)) (λ b. inr (Contains-from_has p ys b)) (m.0 (has-from_Contains p (merged xs ys) h))),
  (λ h. Contains-from_has p (merged xs ys) (m.1 (⊎_elim (λ a. inl (has-from_Contains p xs a)) (λ b. inr (has-from_Contains p ys b)) h))),
)

ascends_put_if : (x y : ℕ) (ys : List ℕ) (b : Bool) → ltb x y ≡ b → x ≢ y → Ascends (y ∷ ys) → Ascends (put_in_order x ys) → Ascends (if b then x ∷ y ∷ ys else y ∷ put_in_order x ys)
ascends_put_if x y ys true is ne a f = let l : x < y = grind (arith, is) in ((λ p h. ⊎_elim (λ (e : p ≡ y). subst (λ z. x < z) (sym e) l) (λ t. let m = a.0 p t in omega arith) h), a)
ascends_put_if x y ys false is ne a f = let l : y < x = grind (arith, is) in ((λ p h. ⊎_elim (λ (e : p ≡ x). subst (λ z. y < z) (sym e) l) (λ t. a.0 p t) ((has_put p x ys).0 h)), f)

ascends_put : (x : ℕ) (ys : List ℕ) → Ascends ys → (Has x ys → ⊥) → Ascends (put_in_order x ys)
ascends_put x [] a n = ((λ p h. absurd h), tt)
ascends_put x (y ∷ ys) a n = ascends_put_if x y ys (ltb x y) refl (λ e. n (inl e)) a (ascends_put x ys a.1 (λ h. n (inr h)))

ascends_merged : (xs ys : List ℕ) → Ascends xs → Ascends ys → ((p : ℕ) → Has p xs → Has p ys → ⊥) → Ascends (merged xs ys)
ascends_merged [] ys a b f = b
ascends_merged (x ∷ xs) ys a b f =
    ascends_put x (merged xs ys) (ascends_merged xs ys a.1 b (λ p h k. f p (inr h) k))
    (λ h. ⊎_elim (λ t. let l = a.0 x t in omega arith) (λ t. f x (inl refl) t) ((has_merged x xs ys).0 h))

-- the places of two seats that share none
pub increasing_merged : (xs ys : List ℕ) → IsStrictlyIncreasing xs → IsStrictlyIncreasing ys → ((p : ℕ) → Contains xs p → Contains ys p → ⊥) → IsStrictlyIncreasing (merged xs ys)
increasing_merged xs ys a b f =
    increasing-from_ascends (merged xs ys) (ascends_merged xs ys (ascends-from_increasing xs a) (ascends-from_increasing ys b) (λ p h k. f p (Contains-from_has p xs h) (Contains-from_has p ys k)))

-- a longer schedule has the places too
pub places_later : (mine seen mine' more : List ℕ) → ArePlaces mine seen → mine' ≡ mine → IsFront seen more → ArePlaces mine' more
places_later mine seen mine' more a e b =
    subst (λ z. ArePlaces z more) (sym e) record { ascending = a.ascending; within = λ p h. let l = front_length seen more b in let k = a.within p h in let low = k.0 in let high = k.1 in (low, omega arith) }

-- a place made at the end
pub places_made : (mine seen mine' more : List ℕ) (client : ℕ) → ArePlaces mine seen → more ≡ seen ++ client ∷ [] → mine' ≡ mine ++ length more ∷ [] → ArePlaces mine' more
places_made mine seen mine' more client a e f =
    let n : ℕ = length more in
    let long = length-append seen (client ∷ []) in
    let same = ap length e in
    subst (λ z. ArePlaces z more) (sym f) record {
      ascending = increasing_push mine n a.ascending (λ p h. let k = (a.within p h).1 in omega arith);
      within = λ p h. ⊎_elim (λ t. let k = a.within p t in let low = k.0 in let high = k.1 in (low, omega arith)) (λ (e : n ≡ p). (omega arith, omega arith)) (Contains-push_cases mine n p h);
    }
