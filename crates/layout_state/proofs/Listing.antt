-- Lists that are made item by item, of those that pass a test.
use Rattle.std.proofs.Common.{◌≡◌, ℕ, ◌+◌, ◌<◌, Bool, true, false, refl, sym, ap, ◌∙◌, List, [], ◌∷◌, ◌++◌, length, map, filter, get_or, take}
use Rattle.std.proofs.lemmas.List.{append-nil, map-append, take_more}
use Rattle.std.proofs.lemmas.List.Elements.{filter-append}

one_more : {X : Type 0} (p : X → Bool) (xs : List X) (i : ℕ) (x : X) → i < length xs → x ≡ get_or xs i x → filter p (take (i + 1) xs) ≡ filter p (take i xs) ++ filter p (x ∷ [])
one_more p xs i x lt is = ap (filter p) (take_more xs i x lt) ∙ filter-append p (take i xs) (get_or xs i x ∷ []) ∙ ap (λ z. filter p (take i xs) ++ filter p (z ∷ [])) (sym is)

-- one more item passes
pub chosen_more : {X Y : Type 0} (f : X → Y) (p : X → Bool) (xs : List X) (i : ℕ) (x : X) (ys more : List Y) → i < length xs → x ≡ get_or xs i x → p x ≡ true → ys ≡ map f (filter p (take i xs)) → more ≡ ys ++ f x ∷ [] → more ≡ map f (filter p (take (i + 1) xs))
chosen_more f p xs i x ys more lt is passes before now =
    let this : filter p (x ∷ []) ≡ x ∷ [] = rw passes refl in
    now ∙ ap (λ zs. zs ++ f x ∷ []) before ∙ sym (map-append f (filter p (take i xs)) (x ∷ []))
    ∙ ap (λ zs. map f (filter p (take i xs) ++ zs)) (sym this) ∙ ap (map f) (sym (one_more p xs i x lt is))

-- one more item doesn't
pub left_more : {X Y : Type 0} (f : X → Y) (p : X → Bool) (xs : List X) (i : ℕ) (x : X) (ys : List Y) → i < length xs → x ≡ get_or xs i x → p x ≡ false → ys ≡ map f (filter p (take i xs)) → ys ≡ map f (filter p (take (i + 1) xs))
left_more f p xs i x ys lt is fails before =
    let this : filter p (x ∷ []) ≡ [] = rw fails refl in
    before ∙ ap (map f) (sym (append-nil (filter p (take i xs))) ∙ ap (λ zs. filter p (take i xs) ++ zs) (sym this) ∙ sym (one_more p xs i x lt is))
