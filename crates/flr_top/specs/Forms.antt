-- What the words of the program ask for.
use Rattle.std.specs.Prelude.{List, ℕ, [], ◌∷◌, ◌++◌, codes, map, String, string_bytes}
use Rattle.std.specs.declared.alloc.Global.{Global}
use Rattle.flr_words.specs.Words.{IsMigrate, IsOther, IsRandom, IsReplay, IsRun, IsSoak}

abbrev pub AsksRun : List (String Global) → Type 0
AsksRun words = IsRun (map string_bytes words)

abbrev pub AsksReplay : List (String Global) → Type 0
AsksReplay words = IsReplay (map string_bytes words)

abbrev pub AsksSoak : ℕ → ℕ → ℕ → List (String Global) → Type 0
AsksSoak seed clients calls words = IsSoak seed clients calls (map string_bytes words)

abbrev pub AsksMigrate : List (String Global) → Type 0
AsksMigrate words = IsMigrate (map string_bytes words)

abbrev pub AsksRandom : ℕ → List (String Global) → Type 0
AsksRandom seed words = IsRandom seed (map string_bytes words)

-- they ask for nothing that is known
abbrev pub AsksNothing : List (String Global) → Type 0
AsksNothing words = IsOther (map string_bytes words)

-- the line that says which words are known
abbrev pub words_line : List ℕ
words_line = codes "flr: words: run | replay | soak SEED CLIENTS CALLS | migrate | random SEED" ++ 10 ∷ []
