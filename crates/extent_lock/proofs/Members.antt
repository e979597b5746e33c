-- The elements of a list with one more at its front, and of a filter.
use Rattle.std.proofs.Common.{◌≡◌, ◌<◌, All, Bool, true, false, cond, List, [], ◌∷◌, ◌⊎◌, inl, inr, refl, ap, ◌∙◌, subst, arith, filter, Contains}
use Rattle.std.proofs.lemmas.List.Elements.{Contains-append_right, Contains-append_cases, Contains-push_cases, All-contains, All-filter, All-contains_itself, filter_passes, All-head, All-tail}

module _ {X : Type 0} where
  pub Contains-nil : (x : X) → Contains [] x → ⊥
  Contains-nil x h = let k : h.0 < 0 = h.1 in absurd (omega arith)

  pub Contains-head : (x : X) (xs : List X) → Contains (x ∷ xs) x
  Contains-head x xs = (0, omega arith, refl)

  pub Contains-tail : (x : X) (xs : List X) (y : X) → Contains xs y → Contains (x ∷ xs) y
  Contains-tail x xs y h = Contains-append_right (x ∷ []) xs y h

  pub Contains-cases : (x : X) (xs : List X) (y : X) → Contains (x ∷ xs) y → (x ≡ y) ⊎ Contains xs y
  Contains-cases x xs y h =
      elim (Contains-append_cases (x ∷ []) xs y h) [
        | inl one ↦ elim (Contains-push_cases [] x y one) [ inl none ↦ absurd (Contains-nil y none) | inr e ↦ inl e ]
        | inr more ↦ inr more
      ]

  -- what a filter keeps is of the list and passes
  pub Contains-filter_parts : (p : X → Bool) (xs : List X) (x : X) → Contains (filter p xs) x → Contains xs x × (p x ≡ true)
  Contains-filter_parts p xs x h =
      (All-contains (Contains xs) (filter p xs) x (All-filter p (Contains xs) xs (All-contains_itself xs)) h, All-contains (λ y. p y ≡ true) (filter p xs) x (filter_passes p xs) h)

  kept_at : (p : X → Bool) (y : X) (ys : List X) (x : X) (b : Bool) → p y ≡ b → p x ≡ true → (y ≡ x) ⊎ Contains ys x → Contains (cond b (y ∷ ys) ys) x
  kept_at p y ys x true e t (inl same) = subst (λ z. Contains (y ∷ ys) z) same (Contains-head y ys)
  kept_at p y ys x true e t (inr h) = Contains-tail y ys x h
  kept_at p y ys x false e t (inl same) = let f : p y ≡ true = ap p same ∙ t in absurd (cc)
  kept_at p y ys x false e t (inr h) = h

  -- a filter keeps what passes
  pub Contains-filter : (p : X → Bool) (xs : List X) (x : X) → Contains xs x → p x ≡ true → Contains (filter p xs) x
  Contains-filter p [] x h t = absurd (Contains-nil x h)
  Contains-filter p (y ∷ ys) x h t =
      kept_at p y (filter p ys) x (p y) refl t (elim (Contains-cases y ys x h) [ inl e ↦ inl e | inr more ↦ inr (Contains-filter p ys x more t) ])

  -- a filter that passes none, or all
  pub filter_none : (p : X → Bool) (xs : List X) → All (λ x. p x ≡ false) xs → filter p xs ≡ []
  filter_none p [] h = refl
  filter_none p (x ∷ xs) h =
      ap (λ b. cond b (x ∷ filter p xs) (filter p xs)) (All-head (λ y. p y ≡ false) x xs h) ∙ filter_none p xs (All-tail (λ y. p y ≡ false) x xs h)

  pub filter_all : (p : X → Bool) (xs : List X) → All (λ x. p x ≡ true) xs → filter p xs ≡ xs
  filter_all p [] h = refl
  filter_all p (x ∷ xs) h =
      ap (λ b. cond b (x ∷ filter p xs) (filter p xs)) (All-head (λ y. p y ≡ true) x xs h) ∙ ap (λ ys. x ∷ ys) (filter_all p xs (All-tail (λ y. p y ≡ true) x xs h))

  -- two tests that agree at each element keep the same
  pub filter_same_on : (p q : X → Bool) (xs : List X) → All (λ x. p x ≡ q x) xs → filter p xs ≡ filter q xs
  filter_same_on p q [] h = refl
  filter_same_on p q (x ∷ xs) h =
      ap (λ b. cond b (x ∷ filter p xs) (filter p xs)) (All-head (λ y. p y ≡ q y) x xs h) ∙ ap (λ ys. cond (q x) (x ∷ ys) ys) (filter_same_on p q xs (All-tail (λ y. p y ≡ q y) x xs h))
