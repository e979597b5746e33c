-- What a source gave and a sink took, where they tell it.
use Rattle.std.specs.Prelude.{◌≡◌, ◌<◌, ◌≤◌, ℕ, List, [], ◌++◌, length, Option, Some, None, Result, OnOk}
use Rattle.std.specs.Io.KnownBytes.{Appends, Consumes, IsAtEnd}

-- what was taken is a front of the text, and all of it at Ok
pub record WritesFront {E : Type 0} (old new : Option (List ℕ)) (result : Result (Unit {0}) E) (text : List ℕ) : Type 0 where
  pub front : List ℕ
  pub rest : List ℕ
  pub parts : text ≡ front ++ rest
  pub taken : Appends old new front
  pub whole : OnOk result (rest ≡ [])

-- the bytes are all that was left
abbrev pub ReadsWhole : Option (List ℕ) → Option (List ℕ) → List ℕ → Type 0
ReadsWhole old new bytes = Consumes old new bytes × IsAtEnd new

-- some of the bytes that were left were read, and no more than this many
abbrev pub ReadsSome : Option (List ℕ) → Option (List ℕ) → ℕ → Type 0
ReadsSome old new most = (bytes : List ℕ) × Consumes old new bytes × (0 < length bytes) × (length bytes ≤ most)

-- more bytes were left than this many
abbrev pub IsLonger : Option (List ℕ) → ℕ → Type 0
IsLonger None most = Unit {0}
IsLonger (Some bytes) most = most < length bytes
