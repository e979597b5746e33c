-- Words, and the lines that are made of them.
use Rattle.std.specs.Prelude.{◌≡◌, ℕ, List, [], ◌∷◌, Bool, true, false, ◌&&◌, nat_le}
use Rattle.std.specs.List.{list_all, join_with_byte, AllByRecursion}

-- a byte that may stand in a word: none that ends a word or a line
abbrev pub is_graphic : ℕ → Bool
is_graphic byte = nat_le 33 byte && nat_le byte 126

-- each byte of the text may stand in a word
abbrev pub IsGraphic : List ℕ → Type 0
IsGraphic text = list_all is_graphic text ≡ true

-- one or more such bytes
abbrev pub is_word : List ℕ → Bool
is_word [] = false
is_word (byte ∷ bytes) = list_all is_graphic (byte ∷ bytes)

abbrev pub IsWord : List ℕ → Type 0
IsWord word = is_word word ≡ true

abbrev pub AreWords : List (List ℕ) → Type 0
AreWords words = AllByRecursion IsWord words

-- the words with one space between each two
abbrev pub spaced : List (List ℕ) → List ℕ
spaced words = join_with_byte 32 words
