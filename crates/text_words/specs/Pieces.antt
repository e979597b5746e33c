-- Texts in pieces.
use Rattle.std.specs.Prelude.{◌≡◌, ℕ, suc, List, [], ◌∷◌, ◌++◌, length, replicate, false, not, ◌==◌, if◌then◌else◌}
use Rattle.std.specs.List.{slice_split, filter, AllByRecursion}

-- the parts between the bytes sep
abbrev pub parts_of : ℕ → List ℕ → List (List ℕ)
parts_of sep text = slice_split (λ byte. byte == sep) text

-- the words between spaces
abbrev pub words_of : List ℕ → List (List ℕ)
words_of line = filter (λ word. not (length word == 0)) (parts_of 32 line)

-- how long the word at the front is
abbrev pub word_len : List ℕ → ℕ
word_len [] = 0
word_len (byte ∷ bytes) = if byte == 32 then 0 else suc (word_len bytes)

-- the line is the word with spaces alone before it, and the rest behind it
abbrev pub IsFirstWord : List ℕ → List ℕ → List ℕ → Type 0
IsFirstWord word rest line = (gap : ℕ) × (line ≡ replicate gap 32 ++ word ++ rest)

-- no byte of the text is sep
abbrev pub Lacks : ℕ → List ℕ → Type 0
Lacks sep text = AllByRecursion (λ byte. (byte == sep) ≡ false) text

abbrev pub AllLack : ℕ → List (List ℕ) → Type 0
AllLack sep texts = AllByRecursion (Lacks sep) texts
