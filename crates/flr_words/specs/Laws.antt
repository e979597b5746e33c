-- What it means that words ask for something.
use Rattle.std.specs.Prelude.{◌≡◌, List, String}
use Rattle.std.specs.declared.alloc.Global.{Global}
use Rattle.flr_words.specs.declared.words.Words.{Words}
use Rattle.flr_words.specs.Words.{AsksFor}

-- what words ask for is one
abbrev pub WordsAskForOne : Type 0
WordsAskForOne = (words : List (String Global)) (one other : Words) → AsksFor words one → AsksFor words other → one ≡ other
