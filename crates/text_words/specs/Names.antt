-- The names of files.
use Rattle.std.specs.Prelude.{ℕ, List, [], ◌∷◌, length, Bool, false, ◌&&◌, ◌||◌, nat_lt, nat_le, ◌==◌}
use Rattle.std.specs.List.{list_all}

-- a letter, a digit or one of . _ - ~ /
abbrev pub may_stand : ℕ → Bool
may_stand byte = (nat_le 48 byte && nat_le byte 57) || ((nat_le 65 byte && nat_le byte 90) || ((nat_le 97 byte && nat_le byte 122) || (byte == 46 || (byte == 95 || (byte == 45 || (byte == 126 || byte == 47))))))

-- / followed by one or more of these, in all at most so many bytes
abbrev pub is_name_to : ℕ → List ℕ → Bool
is_name_to most [] = false
is_name_to most (byte ∷ rest) = byte == 47 && (nat_lt 0 (length rest) && (nat_lt (length rest) most && list_all may_stand rest))

-- / followed by 1 to 127 of these
unfoldable pub is_name : List ℕ → Bool
is_name word = is_name_to 128 word
