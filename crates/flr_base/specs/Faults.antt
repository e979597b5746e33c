-- Where a text first leaves a language, whether its symbols are bytes, words or lines.
use Rattle.std.specs.Prelude.{ℕ, ◌+◌, ◌<◌, ◌≤◌, List, ◌++◌, length, take}

-- something of the language begins so
abbrev pub Begins : {A : Type 0} → (List A → Type 0) → List A → Type 0
Begins {A} L xs = (more : List A) × L (xs ++ more)

-- the place of the first symbol with which the text begins nothing of the language, or the length of a text that ends early
pub record IsFirstFault {A : Type 0} (L : List A → Type 0) (text : List A) (at : ℕ) : Type 0 where
  pub within : at ≤ length text
  pub begins : Begins L (take at text)
  pub stops : at < length text → Begins L (take (at + 1) text) → ⊥
  pub none : L text → ⊥
