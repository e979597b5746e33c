-- The grammar: what each line of a script says, and how lines make a script.
use Rattle.std.specs.Prelude.{◌≡◌, ℕ, ◌+◌, ◌-◌, ◌^◌, ◌<◌, ◌≤◌, if◌then◌else◌, List, [], ◌∷◌, ◌++◌, length, map, Ok, codes, ◌⊎◌}
use Rattle.std.specs.Fmt.{decimal}
use Rattle.std.specs.List.{flat_map, AllByRecursion}
use Rattle.text_words.specs.Pieces.{words_of}
use Rattle.lfs_words.specs.Grammar as lfs
use Rattle.object_target.specs.declared.fail.Fail.{Fail}
use Rattle.object_target.specs.declared.fail.FailKind.{FailKind}
use Rattle.script_values.specs.declared.command.Command.{Command}
use Rattle.script_values.specs.declared.command.Command.TheVariants as commands
use Rattle.script_values.specs.declared.runs.ClientRun.{ClientRun}
use Rattle.script_values.specs.Scripts.{ScriptView, IsScript}
use Rattle.script_values.specs.Texts as texts
use Rattle.script_text.specs.HeadLines.{fails_from}
use Rattle.script_text.specs.Leads.{is_comment}
use Rattle.script_text.specs.Schedules.{before_schedule, from_schedule, behind_first}
use Rattle.script_text.specs.Step.{as_text}
use Rattle.script_text.specs.TextLines.{Line, lines_in, size_of_lines}

-- the words of a line spell a command: those of `lfs` have many spellings, each other command has its printed words alone
abbrev pub IsCommandLine : ℕ → List (List ℕ) → Command → Type 0
IsCommandLine most words (commands.Lfs command) = lfs.Spells most words command
IsCommandLine most words command = words ≡ texts.words_of command

-- a line for each command, which is as this relation has it
abbrev pub AreLinesOf : (List (List ℕ) → Command → Type 0) → List (List (List ℕ)) → List Command → Type 0
AreLinesOf R lines [] = lines ≡ []
AreLinesOf R lines (command ∷ commands) = (line : List (List ℕ)) × (rest : List (List (List ℕ))) × (lines ≡ line ∷ rest) × R line command × AreLinesOf R rest commands

-- a word and a number
abbrev pub number_words : List ℕ → ℕ → List (List ℕ)
number_words word number = word ∷ decimal number ∷ []

-- for each client, of which the first has this number, its line `client` and those of its commands
abbrev pub AreClientLines : (List (List ℕ) → Command → Type 0) → ℕ → List (List (List ℕ)) → List (List Command) → Type 0
AreClientLines R number lines [] = lines ≡ []
AreClientLines R number lines (own ∷ clients) =
    (front : List (List (List ℕ))) × (rest : List (List (List ℕ))) × (lines ≡ number_words (codes "client") number ∷ (front ++ rest)) × AreLinesOf R front own × AreClientLines R (number + 1) rest clients

-- the calls of a target from the first to the last
pub record FailRange : Type 0 where
  pub target : ℕ
  pub first : ℕ
  pub last : ℕ
  pub kind : FailKind

-- one call or more
abbrev pub IsFailRange : FailRange → Type 0
IsFailRange r = r.first ≤ r.last

abbrev pub calls_of : FailRange → List Fail
calls_of r = fails_from r.target r.first r.kind (r.last + 1 - r.first)

abbrev pub range_words : FailRange → List (List ℕ)
range_words r = codes "fail" ∷ decimal r.target ∷ decimal r.first ∷ decimal r.last ∷ texts.kind_word r.kind ∷ []

abbrev pub fail_words : Fail → List (List ℕ)
fail_words fail = codes "fail" ∷ decimal fail.target ∷ decimal fail.call ∷ texts.kind_word fail.kind ∷ []

-- the lines before the clients in version 1: a file may have 16 mirrors, and each line `fail` lists one call
pub record IsHeadOfOne (script : ScriptView) (lines : List (List (List ℕ))) : Type 0 where
  pub most : script.most ≡ 16
  pub lines_are : lines ≡ number_words (codes "flr-script") 1 ∷ number_words (codes "targets") script.targets ∷ map fail_words script.fails

-- the same in version 2: each line `fail` lists one call or more of one target
pub record IsHeadOfTwo (script : ScriptView) (lines : List (List (List ℕ))) : Type 0 where
  pub ranges : List FailRange
  pub some : AllByRecursion IsFailRange ranges
  pub fails : script.fails ≡ flat_map calls_of ranges
  pub lines_are : lines ≡ number_words (codes "flr-script") 2 ∷ number_words (codes "targets") script.targets ∷ number_words (codes "mirrors") script.most ∷ map range_words ranges

-- the lines, by their words, say the script
pub record Says (script : ScriptView) (lines : List (List (List ℕ))) : Type 0 where
  pub front : List (List (List ℕ))
  pub back : List (List (List ℕ))
  pub whole : lines ≡ front ++ back
  pub head : IsHeadOfOne script front ⊎ IsHeadOfTwo script front
  pub clients : AreClientLines (IsCommandLine script.most) 1 back script.clients

-- the words of lines; those without words and comments say nothing
abbrev pub onto_said : List (List ℕ) → List (List (List ℕ)) → List (List (List ℕ))
onto_said [] lines = lines
onto_said (word ∷ words) lines = if is_comment word then lines else (word ∷ words) ∷ lines

abbrev pub said_in : List Line → List (List (List ℕ))
said_in [] = []
said_in (line ∷ lines) = onto_said (words_of line.text) (said_in lines)

-- each line has an end and is text
abbrev pub AreText : List Line → Type 0
AreText lines = AllByRecursion (λ line. as_text line ≡ Ok tt) lines

-- lines spell a script: one within every limit, which they say
pub record SpellsLines (lines : List Line) (script : ScriptView) : Type 0 where
  pub text : AreText lines
  pub says : Says script (said_in lines)
  pub limits : IsScript script

-- the text spells the script
pub record Spells (text : List ℕ) (script : ScriptView) : Type 0 where
  pub short : length text ≤ 1048576
  pub lines : SpellsLines (lines_in text) script

-- the word spells the run: C for C*1, or C*N
pub record IsRunWord (word : List ℕ) (run : ClientRun) : Type 0 where
  pub client : run.client < 2 ^ 32
  pub some : 1 ≤ run.times
  pub few : run.times < 2 ^ 32
  pub word_is : ((run.times ≡ 1) × (word ≡ decimal run.client)) ⊎ (word ≡ decimal run.client ++ 42 ∷ decimal run.times)

-- a word for each run
abbrev pub AreRunWords : List (List ℕ) → List ClientRun → Type 0
AreRunWords words [] = words ≡ []
AreRunWords words (run ∷ runs) = (word : List ℕ) × (rest : List (List ℕ)) × (words ≡ word ∷ rest) × IsRunWord word run × AreRunWords rest runs

-- the text spells the script and the schedule: the script by the lines before the first whose first word is `schedule`, the schedule by that line, and nothing behind it
pub record SpellsReplay (text : List ℕ) (script : ScriptView) (runs : List ClientRun) : Type 0 where
  pub short : length text ≤ 67108864
  pub few : size_of_lines (before_schedule (lines_in text)) ≤ 1048576
  pub script_is : SpellsLines (before_schedule (lines_in text)) script
  pub line : Line
  pub after : List Line
  pub behind : from_schedule (lines_in text) ≡ line ∷ after
  pub text_line : as_text line ≡ Ok tt
  pub runs_are : AreRunWords (behind_first (words_of line.text)) runs
  pub text_after : AreText after
  pub nothing_after : said_in after ≡ []
