-- A list is spelled by one word, both ways.
use Rattle.std.proofs.Common.{◌≡◌, ℕ, ◌+◌, ◌<◌, ◌≤◌, List, [], ◌∷◌, ◌++◌, length, get_or, drop, map, Option, Some, None, refl, sym, ap, ◌∙◌, append_assoc}
use Rattle.std.specs.Prelude.{option_and_then}
use Rattle.std.specs.Option.{option_map}
use denote.Ref.{Bor}
use Rattle.std.proofs.lemmas.List.{at_drop_more, at_drop_all, get_or-map, length-map, append-nil}
use Rattle.text_words.specs.Lists.{items_of}

-- ---- for the code

abbrev pub ItemsSoFar : {A : Type 0} → (List ℕ → Option A) → List (List ℕ) → ℕ → List A → Type 0
ItemsSoFar read words at items = option_map (λ rest. items ++ rest) (items_of read (drop at words)) ≡ items_of read words

map_none : {A : Type 0} (o : Option (List A)) → option_map (λ rest. [] ++ rest) o ≡ o
map_none None = refl
map_none (Some xs) = refl

pub items_start : {A : Type 0} (read : List ℕ → Option A) (words : List (List ℕ)) → ItemsSoFar read words 0 []
items_start read words = map_none (items_of read words)

onto_items : {A : Type 0} (items : List A) (x : A) (o : Option (List A)) → option_map (λ rest. items ++ rest) (option_map (λ rest. x ∷ rest) o) ≡ option_map (λ rest. (items ++ x ∷ []) ++ rest) o
onto_items items x None = refl
onto_items items x (Some rest) = ap (λ xs. Some xs) (sym (append_assoc items (x ∷ []) rest))

items_one : {A : Type 0} (read : List ℕ → Option A) (words : List (List ℕ)) (at : ℕ) (word : List ℕ) (o : Option A) → at < length words → read (get_or words at word) ≡ o
    → items_of read (drop at words) ≡ option_and_then (λ item. option_map (λ rest. item ∷ rest) (items_of read (drop (at + 1) words))) o
items_one {A} read words at word o lt e = at_drop_more (items_of read) words at word lt ∙ ap (λ (p : Option A). option_and_then (λ item. option_map (λ rest. item ∷ rest) (items_of read (drop (at + 1) words))) p) e

at_slice : (ws : List (Bor (List ℕ))) (at : ℕ) (d : Bor (List ℕ)) → at < length ws → (get_or (map (λ (w : Bor (List ℕ)). w.now) ws) at d.now ≡ (get_or ws at d).now) × (at < length (map (λ (w : Bor (List ℕ)). w.now) ws))
at_slice ws at d lt = (get_or-map (λ (w : Bor (List ℕ)). w.now) ws at d d.now lt, rw length-map lt)

pub items_more : {A : Type 0} (read : List ℕ → Option A) (ws : List (Bor (List ℕ))) (at : ℕ) (d : Bor (List ℕ)) (items : List A) (x : A) → ItemsSoFar read (map (λ w. w.now) ws) at items → at < length ws → read (get_or ws at d).now ≡ Some x
    → ItemsSoFar read (map (λ w. w.now) ws) (at + 1) (items ++ x ∷ [])
items_more {A} read ws at d items x h lt e =
    let p = at_slice ws at d lt in
    let one = items_one read (map (λ w. w.now) ws) at d.now (Some x) p.1 (ap read p.0 ∙ e) in
    sym (onto_items items x (items_of read (drop (at + 1) (map (λ w. w.now) ws)))) ∙ ap (λ (o : Option (List A)). option_map (λ rest. items ++ rest) o) (sym one) ∙ h

pub items_none : {A : Type 0} (read : List ℕ → Option A) (ws : List (Bor (List ℕ))) (at : ℕ) (d : Bor (List ℕ)) (items : List A) → ItemsSoFar read (map (λ w. w.now) ws) at items → at < length ws → read (get_or ws at d).now ≡ None
    → None ≡ items_of read (map (λ w. w.now) ws)
items_none {A} read ws at d items h lt e =
    let p = at_slice ws at d lt in
    let one = items_one read (map (λ w. w.now) ws) at d.now None p.1 (ap read p.0 ∙ e) in
    ap (λ (o : Option (List A)). option_map (λ rest. items ++ rest) o) (sym one) ∙ h

pub items_end : {A : Type 0} (read : List ℕ → Option A) (words : List (List ℕ)) (at : ℕ) (items : List A) → ItemsSoFar read words at items → length words ≤ at → Some items ≡ items_of read words
items_end {A} read words at items h le =
    ap (λ (xs : List A). Some xs) (sym (append-nil items)) ∙ ap (λ (o : Option (List A)). option_map (λ rest. items ++ rest) o) (sym (at_drop_all (items_of read) words at le)) ∙ h
