-- The lines of a text.
use Rattle.std.specs.Prelude.{ℕ, nat_eq, if◌then◌else◌, List, [], ◌∷◌, ◌++◌, Option, Some, None}
use Rattle.std.specs.List.{flat_map}

abbrev pub onto_line : ℕ → List (Option (List ℕ)) → List (Option (List ℕ))
onto_line byte [] = None ∷ []
onto_line byte (None ∷ ls) = None ∷ ls
onto_line byte (Some line ∷ ls) = Some (byte ∷ line) ∷ ls

-- each line that ends with byte 10, without it, and None for bytes after the last of these
abbrev pub lines_of : List ℕ → List (Option (List ℕ))
lines_of [] = []
lines_of (byte ∷ text) = if nat_eq byte 10 then Some [] ∷ lines_of text else onto_line byte (lines_of text)

-- the text of these lines
abbrev pub text_of : List (List ℕ) → List ℕ
text_of ls = flat_map (λ line. line ++ 10 ∷ []) ls

-- where no line ends
abbrev pub unended : List ℕ → List (Option (List ℕ))
unended [] = []
unended (byte ∷ text) = None ∷ []
