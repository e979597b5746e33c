-- What is told of a replay input.
use Rattle.std.specs.Prelude.{ℕ, List, [], ◌∷◌, ◌++◌, codes}
use Rattle.std.specs.Fmt.{decimal}

-- how many clients the script has, and how many stretches its schedule
abbrev pub counts_line : ℕ → ℕ → List ℕ
counts_line clients stretches = codes "clients " ++ decimal clients ++ codes " stretches " ++ decimal stretches ++ 10 ∷ []
