-- Words on the bytes of an object.
use Rattle.std.specs.Prelude.{ℕ, ◌+◌, ◌-◌, ◌&&◌, nat_le, nat_lt, List, length, slice_index, if◌then◌else◌}

-- the byte at x, where new bytes lie over old ones from an offset on
abbrev pub overlaid : (ℕ → ℕ) → ℕ → List ℕ → ℕ → ℕ
overlaid old offset new x =
    if nat_le offset x && nat_lt x (offset + length new) then slice_index new (x - offset) else old x
