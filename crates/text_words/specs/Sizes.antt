-- Numbers of bytes, and where a component ends.
use Rattle.std.specs.Prelude.{◌≡◌, ℕ, ◌-◌, ◌*◌, ◌^◌, ◌<◌, List, [], ◌∷◌, ◌++◌, length, take, get_or, Bool, ◌||◌, nat_lt, ◌==◌, if◌then◌else◌, Option, Some, None, option_and_then, codes, ◌⊎◌}
use Rattle.std.specs.Str.{bytes_eq}
use Rattle.std.specs.Fmt.{decimal}
use Rattle.text_words.specs.Numbers.{number_of, number_from}

-- how many bytes the letter k, m or g stands for, in either case, and 1 for any other byte
abbrev pub unit_of : ℕ → ℕ
unit_of letter =
    if letter == 107 || letter == 75 then 1024 else
    (if letter == 109 || letter == 77 then 1048576 else
    (if letter == 103 || letter == 71 then 1073741824 else 1))

-- so many units, where they are fewer bytes than the end of a file that has none
abbrev pub units : ℕ → ℕ → Option ℕ
units unit count = if nat_lt (count * unit) (2 ^ 64 - 1) then Some (count * unit) else None

-- the bytes that a word spells, whose last byte stands for such a unit
abbrev pub size_by : List ℕ → ℕ → Option ℕ
size_by word unit = if unit == 1 then number_from 0 (2 ^ 64 - 2) word else option_and_then (units unit) (number_of (take (length word - 1) word))

-- the bytes that a word spells
unfoldable pub size_of : List ℕ → Option ℕ
size_of word = size_by word (unit_of (get_or word (length word - 1) 0))

-- a number, or a number and a letter that multiplies it
abbrev pub IsSize : List ℕ → ℕ → Type 0
IsSize word n = (n < 2 ^ 64 - 1) × ((word ≡ decimal n) ⊎ ((count : ℕ) × (letter : ℕ) × (1 < unit_of letter) × (n ≡ count * unit_of letter) × (word ≡ decimal count ++ letter ∷ [])))

-- the words for the end of a file that has none
abbrev pub is_eof : List ℕ → Bool
is_eof word = bytes_eq word (codes "-1") || (bytes_eq word (codes "EOF") || bytes_eq word (codes "eof"))

-- the end that a word spells
unfoldable pub end_of : List ℕ → Option ℕ
end_of word = if is_eof word then Some (2 ^ 64 - 1) else size_of word

abbrev pub IsEnd : List ℕ → ℕ → Type 0
IsEnd word n = ((n ≡ 2 ^ 64 - 1) × ((word ≡ codes "-1") ⊎ ((word ≡ codes "EOF") ⊎ (word ≡ codes "eof")))) ⊎ IsSize word n

-- an end in bytes, with this word for the end of a file that has none
abbrev pub end_text : List ℕ → ℕ → List ℕ
end_text eof end = if end == 2 ^ 64 - 1 then eof else decimal end
