-- A number is decimal, without sign and without a leading zero, 0 apart.
use Rattle.std.specs.Prelude.{ℕ, ◌^◌, List, length, get_or, Bool, not, ◌&&◌, ◌||◌, nat_lt, nat_le, ◌==◌, if◌then◌else◌, Option, Some, None, option_and_then}
use Rattle.std.specs.Str.{all_ascii_digits}
use Rattle.std.specs.Str.Parse.{digits_value}

-- digits alone, at least one, the first not 0 where there are more, of a value that 64 bits hold
abbrev pub is_number : List ℕ → Bool
is_number word = all_ascii_digits word && (nat_lt 0 (length word) && ((not (get_or word 0 0 == 48) || length word == 1) && nat_lt (digits_value 10 word) (2 ^ 64)))

-- the number that a word spells
unfoldable pub number_of : List ℕ → Option ℕ
number_of word = if is_number word then Some (digits_value 10 word) else None

-- the value, where it lies between these two
abbrev pub kept : ℕ → ℕ → ℕ → Option ℕ
kept least most value = if nat_le least value && nat_le value most then Some value else None

-- the number that a word spells, where it lies between these two
unfoldable pub number_from : ℕ → ℕ → List ℕ → Option ℕ
number_from least most word = option_and_then (kept least most) (number_of word)
