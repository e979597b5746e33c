-- The name of a file that a split makes where it is told none.
use Rattle.std.specs.Prelude.{ℕ, ◌++◌, List, codes}
use Rattle.std.specs.Fmt.{decimal}

-- how it ends
abbrev pub default_end : ℕ → List ℕ
default_end mirror = codes ".mirror~" ++ decimal mirror

-- the whole of it
abbrev pub default_name : List ℕ → ℕ → List ℕ
default_name name mirror = name ++ default_end mirror
