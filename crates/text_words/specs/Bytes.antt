-- A byte as two lower-case hexadecimal digits.
use Rattle.std.specs.Prelude.{ℕ, ◌+◌, ◌-◌, ◌*◌, List, [], ◌∷◌, ◌&&◌, nat_le, if◌then◌else◌, Option, Some, None, option_and_then}
use Rattle.std.specs.Option.{option_map}

-- what a digit is worth
abbrev pub hex_digit : ℕ → Option ℕ
hex_digit c = if nat_le 48 c && nat_le c 57 then Some (c - 48) else (if nat_le 97 c && nat_le c 102 then Some (c - 87) else None)

-- the byte that a word spells
abbrev pub hex_byte : List ℕ → Option ℕ
hex_byte (high ∷ low ∷ []) = option_and_then (λ h. option_map (λ l. h * 16 + l) (hex_digit low)) (hex_digit high)
hex_byte _ = None
