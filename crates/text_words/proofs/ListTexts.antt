-- The word of a list is read as its items, and no other word is.
use Rattle.std.proofs.Common.{◌≡◌, ℕ, ◌<◌, false, eqb, List, [], ◌∷◌, ◌++◌, length, map, Option, Some, None, refl, sym, ap, subst, ◌∙◌, arith}
use Rattle.std.specs.Prelude.{codes, option_and_then}
use Rattle.std.specs.Option.{option_map}
use Rattle.std.specs.List.{join_with_byte, AllByRecursion}
use Rattle.std.specs.Str.{bytes_eq}
use Rattle.std.proofs.lemmas.Bool.{cond_both, false_from_ne_true}
use Rattle.std.proofs.lemmas.List.{append-nil}
use Rattle.std.proofs.lemmas.List.Splits.{join_with_byte-slice_split, length-slice_split}
use Rattle.std.proofs.lemmas.Slice.Eq.{bytes_eq-Decides}
use Rattle.text_words.specs.Pieces.{AllLack, parts_of}
use Rattle.text_words.specs.Lists.{items_of, list_of, list_text, HasOneWord, SpellsList}
use Rattle.text_words.proofs.Splits.{parts-joined}

-- ---- the texts of items, whatever these are

-- the items' texts, joined
joined : {A : Type 0} (print : A → List ℕ) (item : A) (items : List A) → join_with_byte 44 (map print (item ∷ items)) ≡ list_text print (item ∷ items)
joined print item [] = sym (append-nil (print item))
joined print item (next ∷ items) = ap (λ (xs : List ℕ). print item ++ 44 ∷ xs) (joined print next items)

-- the word of one or more items is parted into their texts
pub parts_text : {A : Type 0} (print : A → List ℕ) (items : List A) → 0 < length items → AllLack 44 (map print items) → parts_of 44 (list_text print items) ≡ map print items
parts_text print [] some h = absurd (omega arith)
parts_text print (item ∷ items) some h = ap (parts_of 44) (sym (joined print item items)) ∙ parts-joined 44 (print item) (map print items) h.0 h.1

-- and a word that is parted so is theirs
pub text_parts : {A : Type 0} (print : A → List ℕ) (word : List ℕ) (items : List A) → parts_of 44 word ≡ map print items → (0 < length items) × (word ≡ list_text print items)
text_parts print word [] e =
    let many = length-slice_split (λ b. eqb b 44) word in
    let none = ap (λ (xs : List (List ℕ)). length xs) e in absurd (omega (arith, many, none))
text_parts print word (item ∷ items) e = (omega arith, sym (join_with_byte-slice_split 44 word) ∙ ap (join_with_byte 44) e ∙ joined print item items)

-- ---- items with one word each

all_lack : {A : Type 0} {print : A → List ℕ} {read : List ℕ → Option A} {IsItem : A → Type 0} → HasOneWord print read IsItem → (items : List A) → AllByRecursion IsItem items → AllLack 44 (map print items)
all_lack o [] all = tt
all_lack o (item ∷ items) all = (o.apart item all.0, all_lack o items all.1)

-- the word of one or more items comes apart into theirs
apart : {A : Type 0} {print : A → List ℕ} {read : List ℕ → Option A} {IsItem : A → Type 0} → HasOneWord print read IsItem → (item : A) (items : List A) → AllByRecursion IsItem (item ∷ items)
    → parts_of 44 (list_text print (item ∷ items)) ≡ map print (item ∷ items)
apart {print = print} o item items all = parts_text print (item ∷ items) (omega arith) (all_lack o (item ∷ items) all)

items_by : {A : Type 0} {print : A → List ℕ} {read : List ℕ → Option A} {IsItem : A → Type 0} → HasOneWord print read IsItem → (word : List ℕ) (words : List (List ℕ)) (items : List A) (one : Option A) → read word ≡ one
    → (more : Option (List A)) → ((rest : List A) → more ≡ Some rest → AllByRecursion IsItem rest × (words ≡ map print rest)) → option_and_then (λ item. option_map (λ rest. item ∷ rest) more) one ≡ Some items
    → AllByRecursion IsItem items × (word ∷ words ≡ map print items)
items_by o word words items None r more h e = absurd cc
items_by o word words items (Some x) r None h e = absurd cc
items_by {print = print} {IsItem = IsItem} o word words items (Some x) r (Some xs) h e =
    let same : x ∷ xs ≡ items = cc in
    let rest = h xs refl in
    let first = o.takes word x r in
    subst (λ is. AllByRecursion IsItem is × (word ∷ words ≡ map print is)) same ((first.0, rest.0), rw (first.1, rest.1) refl)

items_takes : {A : Type 0} {print : A → List ℕ} {read : List ℕ → Option A} {IsItem : A → Type 0} → HasOneWord print read IsItem → (words : List (List ℕ)) (items : List A) → items_of read words ≡ Some items
    → AllByRecursion IsItem items × (words ≡ map print items)
items_takes {A} {print = print} {IsItem = IsItem} o [] items e =
    let none : List A = [] in
    let same : none ≡ items = cc in
    subst (λ is. AllByRecursion IsItem is × ([] ≡ map print is)) same (tt, refl)
items_takes {read = read} o (word ∷ words) items e = items_by o word words items (read word) refl (items_of read words) (items_takes o words) e

items_again : {A : Type 0} {print : A → List ℕ} {read : List ℕ → Option A} {IsItem : A → Type 0} → HasOneWord print read IsItem → (items : List A) → AllByRecursion IsItem items → items_of read (map print items) ≡ Some items
items_again o [] all = refl
items_again o (item ∷ items) all = rw (o.again item all.0, items_again o items all.1) refl

list_takes : {A : Type 0} {print : A → List ℕ} {read : List ℕ → Option A} {IsItem : A → Type 0} → HasOneWord print read IsItem → (word : List ℕ) (items : List A) → list_of read word ≡ Some items
    → AllByRecursion IsItem items × (word ≡ list_text print items)
list_takes {A} {print = print} {read = read} {IsItem = IsItem} o word items e =
    cond_both (bytes_eq word (codes "-")) (Some []) (items_of read (parts_of 44 word)) (λ found. found ≡ Some items → AllByRecursion IsItem items × (word ≡ list_text print items))
    (λ t f.
    let none : List A = [] in
    let same : none ≡ items = cc in
    subst (λ is. AllByRecursion IsItem is × (word ≡ list_text print is)) same (tt, (bytes_eq-Decides word (codes "-")).0 t))
    (λ t f. let all = items_takes o (parts_of 44 word) items f in (all.0, (text_parts print word items all.1).1))
    e

-- the word of one or more items isn't the dash
not_dash : {A : Type 0} {print : A → List ℕ} {read : List ℕ → Option A} {IsItem : A → Type 0} → HasOneWord print read IsItem → (item : A) (items : List A) → AllByRecursion IsItem (item ∷ items) → list_text print (item ∷ items) ≡ codes "-" → ⊥
not_dash {print = print} o item items all e =
    let same : print item ∷ map print items ≡ codes "-" ∷ [] = sym (apart o item items all) ∙ ap (parts_of 44) e in
    o.other item all.0 cc

list_again : {A : Type 0} {print : A → List ℕ} {read : List ℕ → Option A} {IsItem : A → Type 0} → HasOneWord print read IsItem → (items : List A) → AllByRecursion IsItem items → list_of read (list_text print items) ≡ Some items
list_again o [] all = refl
list_again {print = print} {read = read} o (item ∷ items) all =
    let other : bytes_eq (list_text print (item ∷ items)) (codes "-") ≡ false = false_from_ne_true _ (λ t. not_dash o item items all ((bytes_eq-Decides (list_text print (item ∷ items)) (codes "-")).0 t)) in
    rw other (ap (items_of read) (apart o item items all) ∙ items_again o (item ∷ items) all)

-- both ways
pub list_spelled : {A : Type 0} {print : A → List ℕ} {read : List ℕ → Option A} {IsItem : A → Type 0} → HasOneWord print read IsItem → (word : List ℕ) → SpellsList print IsItem word (list_of read word)
list_spelled {read = read} o word items = (list_takes o word items, λ h. ap (list_of read) h.1 ∙ list_again o items h.0)

pub found_spelled : {A : Type 0} {print : A → List ℕ} {read : List ℕ → Option A} {IsItem : A → Type 0} → HasOneWord print read IsItem → (word : List ℕ) (found : Option (List A)) → found ≡ list_of read word → SpellsList print IsItem word found
found_spelled {print = print} {IsItem = IsItem} o word found e = subst (SpellsList print IsItem word) (sym e) (list_spelled o word)
