-- A word cut in two.
use Rattle.std.specs.Prelude.{ℕ, List, [], ◌∷◌, ◌==◌, if◌then◌else◌, Option, Some, None}
use Rattle.std.specs.Option.{option_map}

-- what stands before the first byte sep, and what stands behind it
abbrev pub cut_of : ℕ → List ℕ → Option (List ℕ × List ℕ)
cut_of sep [] = None
cut_of sep (byte ∷ rest) = if byte == sep then Some ([], rest) else option_map (λ found. (byte ∷ found.0, found.1)) (cut_of sep rest)
