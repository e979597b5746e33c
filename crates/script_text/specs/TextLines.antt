-- The lines of an input.
use Rattle.std.specs.Prelude.{◌≡◌, ◌<◌, ◌++◌, ℕ, ◌+◌, nat_eq, nat_le, ◌&&◌, if◌then◌else◌, List, [], ◌∷◌, length, Bool, true, false}
use Rattle.std.specs.List.{list_all, sum_by}

-- the bytes of a line without the byte 10 that ends it, and whether there is one
pub record Line : Type 0 where
  pub text : List ℕ
  pub ended : Bool

abbrev pub onto_line : ℕ → List Line → List Line
onto_line byte [] = record { text = byte ∷ []; ended = false } ∷ []
onto_line byte (line ∷ lines) = record { text = byte ∷ line.text; ended = line.ended } ∷ lines

-- the lines of a text; the last of them may have no end
abbrev pub lines_in : List ℕ → List Line
lines_in [] = []
lines_in (byte ∷ text) = if nat_eq byte 10 then record { text = []; ended = true } ∷ lines_in text else onto_line byte (lines_in text)

-- how many bytes a line has with its end
abbrev pub size_of_line : Line → ℕ
size_of_line line = length line.text + (if line.ended then 1 else 0)

-- how many bytes lines have
abbrev pub size_of_lines : List Line → ℕ
size_of_lines lines = sum_by size_of_line lines

-- each byte is in 32 to 126
abbrev pub is_text : List ℕ → Bool
is_text text = list_all (λ byte. nat_le 32 byte && nat_le byte 126) text

-- the first line of a text: its bytes and its end come before what stands behind it
pub record IsFirstLine (text : List ℕ) (line : Line) (behind : List ℕ) : Type 0 where
  pub front : List ℕ
  pub whole : text ≡ front ++ behind
  pub alone : lines_in front ≡ line ∷ []
  pub joins : 0 < length behind → (more : List ℕ) → lines_in (front ++ more) ≡ line ∷ lines_in more
