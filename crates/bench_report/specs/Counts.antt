-- What is told of a report.
use Rattle.std.specs.Prelude.{ℕ, List, [], ◌∷◌, ◌++◌, codes}
use Rattle.std.specs.Fmt.{decimal}

-- how many calls and files the report has, and how many places its schedule
abbrev pub counts_line : ℕ → ℕ → ℕ → List ℕ
counts_line calls files places = codes "calls " ++ decimal calls ++ codes " files " ++ decimal files ++ codes " places " ++ decimal places ++ 10 ∷ []
