-- Elements of lists by their places.
use Rattle.std.proofs.Common.{◌≡◌, ℕ, zero, suc, ◌<◌, ◌≤◌, List, [], ◌∷◌, ◌++◌, length, map, set, ◌⊎◌, inl, inr, refl, ap, subst, ◌∙◌, arith}
use Rattle.std.specs.Prelude.{Some, None, slice_get}

-- what is so of every other element, and of the one that was put, is so of each
pub put_at : {A : Type 0} (P : ℕ → A → Type 0) (xs : List A) (i j : ℕ) (new found : A) → ((k : ℕ) (x : A) → slice_get xs k ≡ Some x → (k ≡ i → ⊥) → P k x) → P i new → slice_get (set xs i new) j ≡ Some found → P j found
put_at P [] i j new found others one there = absurd (cc there)
put_at P (x ∷ xs) zero zero new found others one there = let same : new ≡ found = cc there in subst (P 0) same one
put_at P (x ∷ xs) zero (suc j) new found others one there = others (suc j) found there (λ e. cc)
put_at P (x ∷ xs) (suc i) zero new found others one there = others 0 found there (λ e. cc)
put_at P (x ∷ xs) (suc i) (suc j) new found others one there = put_at (λ k y. P (suc k) y) xs i j new found (λ k y at other. others (suc k) y at (λ e. other (cc))) one there

-- an element of a list behind which one was put
pub pushed_at : {A : Type 0} (xs : List A) (new : A) (j : ℕ) (x : A) → slice_get (xs ++ new ∷ []) j ≡ Some x → (slice_get xs j ≡ Some x) ⊎ ((j ≡ length xs) × (new ≡ x))
pushed_at [] new zero x e = inr (refl, (cc e))
pushed_at [] new (suc j) x e = absurd (cc e)
pushed_at (y ∷ ys) new zero x e = inl e
pushed_at (y ∷ ys) new (suc j) x e = elim (pushed_at ys new j x e) [ inl h ↦ inl h | inr h ↦ inr (ap suc h.0, h.1) ]

-- the one that was put
pub last_at : {A : Type 0} (xs : List A) (new : A) → slice_get (xs ++ new ∷ []) (length xs) ≡ Some new
last_at [] new = refl
last_at (x ∷ xs) new = last_at xs new

-- an element of a list of images
pub mapped_at : {A B : Type 0} (f : A → B) (xs : List A) (j : ℕ) (y : B) → slice_get (map f xs) j ≡ Some y → (x : A) × (slice_get xs j ≡ Some x) × (f x ≡ y)
mapped_at f [] j y e = absurd (cc e)
mapped_at f (x ∷ xs) zero y e = (x, refl, (cc e))
mapped_at f (x ∷ xs) (suc j) y e = mapped_at f xs j y e

pub image_at : {A B : Type 0} (f : A → B) (xs : List A) (j : ℕ) (x : A) → slice_get xs j ≡ Some x → slice_get (map f xs) j ≡ Some (f x)
image_at f [] j x e = absurd (cc e)
image_at f (y ∷ ys) zero x e = let same : y ≡ x = cc e in ap (λ z. Some (f z)) same
image_at f (y ∷ ys) (suc j) x e = image_at f ys j x e

pub map_set : {A B : Type 0} (f : A → B) (xs : List A) (i : ℕ) (new : A) → map f (set xs i new) ≡ set (map f xs) i (f new)
map_set f [] i new = refl
map_set f (x ∷ xs) zero new = refl
map_set f (x ∷ xs) (suc i) new = ap (λ ys. f x ∷ ys) (map_set f xs i new)

-- a function that leaves every element leaves the list
pub map_leaves : {A : Type 0} (f : A → A) (xs : List A) → ((j : ℕ) (x : A) → slice_get xs j ≡ Some x → f x ≡ x) → map f xs ≡ xs
map_leaves f [] leaves = refl
map_leaves f (x ∷ xs) leaves = ap (λ y. y ∷ map f xs) (leaves 0 x refl) ∙ ap (λ ys. x ∷ ys) (map_leaves f xs (λ j y at. leaves (suc j) y at))

-- a function that leaves every element but one changes the one
pub map_changes_one : {A : Type 0} (f : A → A) (xs : List A) (i : ℕ) (x : A) → slice_get xs i ≡ Some x → ((j : ℕ) (y : A) → slice_get xs j ≡ Some y → (j ≡ i → ⊥) → f y ≡ y) → map f xs ≡ set xs i (f x)
map_changes_one f [] i x at leaves = absurd (cc at)
map_changes_one f (y ∷ ys) zero x at leaves =
    let same : y ≡ x = cc at in
    ap (λ z. f z ∷ map f ys) same ∙ ap (λ zs. f x ∷ zs) (map_leaves f ys (λ j z there. leaves (suc j) z there (λ e. cc)))
map_changes_one f (y ∷ ys) (suc i) x at leaves =
    ap (λ z. z ∷ map f ys) (leaves 0 y refl (λ e. cc)) ∙ ap (λ zs. y ∷ zs) (map_changes_one f ys i x at (λ j z there other. leaves (suc j) z there (λ e. other (cc))))

pub within : {A : Type 0} (xs : List A) (j : ℕ) (x : A) → slice_get xs j ≡ Some x → j < length xs
within [] j x e = absurd (cc e)
within (y ∷ ys) zero x e = omega arith
within (y ∷ ys) (suc j) x e = let less = within ys j x e in omega (arith, less)

pub behind : {A : Type 0} (xs : List A) (j : ℕ) → length xs ≤ j → slice_get xs j ≡ None
behind [] j le = refl
behind (x ∷ xs) zero le = absurd (omega (arith, le))
behind (x ∷ xs) (suc j) le = behind xs j (omega (arith, le))
