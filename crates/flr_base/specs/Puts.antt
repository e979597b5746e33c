-- What a text holds after another was put behind it.
use Rattle.std.specs.Prelude.{◌≡◌, ℕ, List, ◌++◌, Result, Ok, Err}

-- a front of the text stands behind what was there
unfoldable pub PutsFront : List ℕ → List ℕ → List ℕ → Type 0
PutsFront old new text = (front : List ℕ) × (rest : List ℕ) × (new ≡ old ++ front) × (text ≡ front ++ rest)

-- the whole text stands behind what was there, or after a failure a front of it
abbrev pub Puts : {T E : Type 0} → List ℕ → List ℕ → Result T E → List ℕ → Type 0
Puts old new (Ok done) text = new ≡ old ++ text
Puts old new (Err cause) text = PutsFront old new text
