-- Bytes of files and of objects.
use Rattle.std.specs.Prelude.{ℕ, ◌+◌, ◌-◌, List, ◌++◌, length, take, drop, replicate}

-- so many zeros
abbrev pub zeros : ℕ → List ℕ
zeros n = replicate n 0

-- the bytes, with zeros behind them up to this end
abbrev pub padded : List ℕ → ℕ → List ℕ
padded bytes end = bytes ++ zeros (end - length bytes)

-- the bytes with the new ones in the place of those from the offset on, and zeros between the old end and the offset
abbrev pub overlay : List ℕ → ℕ → List ℕ → List ℕ
overlay bytes offset new = take offset (padded bytes (offset + length new)) ++ new ++ drop (offset + length new) (padded bytes (offset + length new))

-- so many bytes from the offset on, with zeros past the end
abbrev pub piece : List ℕ → ℕ → ℕ → List ℕ
piece bytes offset len = take len (drop offset (padded bytes (offset + len)))
