-- Limits that hold everywhere.
use Rattle.std.specs.Prelude.{ℕ}

-- the greatest size of a file, in bytes: 256 MiB
abbrev pub most_bytes : ℕ
most_bytes = 268435456
