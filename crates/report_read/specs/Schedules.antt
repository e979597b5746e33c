-- The line of who stepped: its text, and what the words of a line say.
use Rattle.std.specs.Prelude.{ℕ, nat_eq, if◌then◌else◌, List, [], ◌∷◌, ◌++◌, Option, Some, None, option_and_then, codes}
use Rattle.std.specs.Option.{option_map}
use Rattle.std.specs.List.{AllByRecursion}
use Rattle.flr_base.specs.Runs.{bytes_of, runs_of}
use Rattle.flr_base.specs.declared.runs.run.Run.{Run}
use Rattle.text_words.specs.Cuts.{cut_of}
use Rattle.text_words.specs.Numbers.{number_from}
use Rattle.text_words.specs.Pieces.{parts_of}
use Rattle.layout_text.specs.LineWords.{behind}
use Rattle.report_text.specs.Texts.{runs_words}
use Rattle.reply_read.specs.Limits.{IsClient, Has32}

-- the line, without its end
abbrev pub schedule_line : List ℕ → List ℕ
schedule_line schedule = codes "schedule" ++ runs_words schedule

-- one of 16 clients steps, fewer than 2^32 times in a row
abbrev pub IsClientRun : Run → Type 0
IsClientRun r = IsClient r.byte × Has32 r.count

-- a schedule that a report may have
abbrev pub IsSchedule : List ℕ → Type 0
IsSchedule schedule = AllByRecursion IsClientRun (runs_of schedule)

-- ---- what words say

abbrev pub run_made : ℕ → ℕ → Run
run_made client times = record { byte = client; count = times }

-- CLIENT*TIMES
unfoldable pub run_in : List ℕ → Option Run
run_in word = option_and_then (λ two. option_and_then (λ client. option_map (run_made client) (number_from 1 4294967295 two.1)) (number_from 1 16 two.0)) (cut_of 42 word)

-- the run before others, unless it is of the last client
abbrev pub onto_last : ℕ → Run → Option (List Run) → Option (List Run)
onto_last last r o = if nat_eq r.byte last then None else option_map (λ rs. r ∷ rs) o

-- the runs, neighbours of different clients
abbrev pub runs_in : ℕ → List (List ℕ) → Option (List Run)
runs_in last [] = Some []
runs_in last (word ∷ words) = option_and_then (λ r. onto_last last r (runs_in r.byte words)) (run_in word)

abbrev pub schedule_words : List (List ℕ) → Option (List ℕ)
schedule_words words = option_and_then (λ rest. option_map bytes_of (runs_in 0 rest)) (behind (codes "schedule") words)

-- what a line says
unfoldable pub schedule_of : List ℕ → Option (List ℕ)
schedule_of line = schedule_words (parts_of 32 line)
