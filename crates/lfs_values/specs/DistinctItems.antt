-- Lists written as one word, whose items are joined by commas, and of which no two are the same.
use Rattle.std.specs.Prelude.{◌≡◌, ℕ, Bool, true, List, [], ◌∷◌, ◌++◌, map, if◌then◌else◌, Option, Some, None, Result, Ok, Err, ◌⊎◌}
use Rattle.std.specs.List.{list_any, IsDistinct}
use Rattle.flr_base.specs.Reading.{reads}
use Rattle.lfs_values.specs.declared.cause.Fault.{Fault}
use Rattle.lfs_values.specs.declared.cause.Fault.TheVariants as faults

-- the items and one more, unless there is none, or the same stood before
abbrev pub with_found : {A : Type 0} → (A → A → Bool) → Fault → List A → Option A → Result (List A) Fault
with_found same bad items None = Err bad
with_found same bad items (Some item) = if list_any (same item) items then Err faults.Repeated else Ok (items ++ item ∷ [])

-- the items and the one that the word spells
abbrev pub with_item : {A : Type 0} → (A → A → Bool) → Fault → (List ℕ → Option A) → List A → List ℕ → Result (List A) Fault
with_item same bad read items word = with_found same bad items (read word)

-- what was read, and else the fault without its place in the list
abbrev pub placeless : {S : Type 0} → Result S (ℕ × Fault) → Result S Fault
placeless (Ok s) = Ok s
placeless (Err fault) = Err fault.1

-- the items of the words, read from the left
abbrev pub items_of : {A : Type 0} → (A → A → Bool) → Fault → (List ℕ → Option A) → List (List ℕ) → Result (List A) Fault
items_of same bad read words = placeless (reads (with_item same bad read) 0 [] words)

-- a word is no item, or it is an item that stands among those before it
abbrev pub IsItemFault : {A : Type 0} → (A → A → Bool) → Fault → (List ℕ → Option A) → List A → List ℕ → Fault → Type 0
IsItemFault {A} same bad read before word fault = ((fault ≡ bad) × (read word ≡ None)) ⊎ ((fault ≡ faults.Repeated) × ((item : A) × (read word ≡ Some item) × (list_any (same item) before ≡ true)))

-- the fault is that of the first word at fault: those before it are items, of which no two are the same
pub record IsFirstItemFault {A : Type 0} (same : A → A → Bool) (bad : Fault) (read : List ℕ → Option A) (words : List (List ℕ)) (fault : Fault) : Type 0 where
  pub front : List (List ℕ)
  pub word : List ℕ
  pub behind : List (List ℕ)
  pub before : List A
  pub whole : words ≡ front ++ word ∷ behind
  pub items : map read front ≡ map (λ item. Some item) before
  pub differ : IsDistinct same before
  pub first : IsItemFault same bad read before word fault
