-- Lists as one word, their items joined by commas.
use Rattle.std.specs.Prelude.{◌≡◌, ℕ, List, [], ◌∷◌, ◌++◌, if◌then◌else◌, Option, Some, option_and_then, codes, ◌↔◌}
use Rattle.std.specs.Option.{option_map}
use Rattle.std.specs.List.{flat_map, AllByRecursion}
use Rattle.std.specs.Str.{bytes_eq}
use Rattle.text_words.specs.Pieces.{Lacks, parts_of}

-- the items that the words are, where each is one
abbrev pub items_of : {A : Type 0} → (List ℕ → Option A) → List (List ℕ) → Option (List A)
items_of read [] = Some []
items_of read (word ∷ words) = option_and_then (λ item. option_map (λ items. item ∷ items) (items_of read words)) (read word)

-- the items that a word spells: a dash for none
abbrev pub list_of : {A : Type 0} → (List ℕ → Option A) → List ℕ → Option (List A)
list_of read word = if bytes_eq word (codes "-") then Some [] else items_of read (parts_of 44 word)

-- the word of the items
abbrev pub list_text : {A : Type 0} → (A → List ℕ) → List A → List ℕ
list_text print [] = codes "-"
list_text print (item ∷ items) = print item ++ flat_map (λ next. 44 ∷ print next) items

-- each item has one word: this word alone is read as the item, it has no comma, and it isn't the dash
pub record HasOneWord {A : Type 0} (print : A → List ℕ) (read : List ℕ → Option A) (IsItem : A → Type 0) : Type 0 where
  pub takes : (word : List ℕ) (item : A) → read word ≡ Some item → IsItem item × (word ≡ print item)
  pub again : (item : A) → IsItem item → read (print item) ≡ Some item
  pub apart : (item : A) → IsItem item → Lacks 44 (print item)
  pub other : (item : A) → IsItem item → print item ≡ codes "-" → ⊥

-- the word spells these items and no others, and each of them may stand in a list
abbrev pub SpellsList : {A : Type 0} → (A → List ℕ) → (A → Type 0) → List ℕ → Option (List A) → Type 0
SpellsList {A} print IsItem word found = (items : List A) → ((found ≡ Some items) ↔ (AllByRecursion IsItem items × (word ≡ list_text print items)))
