-- The schedule line, and the lines behind it.
use Rattle.std.specs.Prelude.{◌≡◌, ℕ, ◌+◌, ◌-◌, ◌^◌, if◌then◌else◌, List, [], ◌∷◌, ◌++◌, Bool, false, Option, Some, None, option_and_then, Result, Ok, Err, codes}
use Rattle.std.specs.Option.{option_map}
use Rattle.std.specs.Str.{bytes_eq}
use Rattle.text_words.specs.Cuts.{cut_of}
use Rattle.text_words.specs.Numbers.{number_from}
use Rattle.text_words.specs.Pieces.{words_of}
use Rattle.lfs_values.specs.declared.cause.Cause.TheVariants as causes
use Rattle.lfs_words.specs.Parts.{◌>>=◌}
use Rattle.script_values.specs.declared.runs.ClientRun.{ClientRun}
use Rattle.script_text.specs.declared.error.LineError.{LineError}
use Rattle.script_text.specs.Answers.{bad}
use Rattle.script_text.specs.Leads.{lead_of, is_comment, unplaced}
use Rattle.script_text.specs.Step.{as_text}
use Rattle.script_text.specs.TextLines.{Line, lines_in}

-- the first word is `schedule`
abbrev pub is_schedule_by : List (List ℕ) → Bool
is_schedule_by [] = false
is_schedule_by (word ∷ words) = bytes_eq word (codes "schedule")

abbrev pub is_schedule : Line → Bool
is_schedule line = is_schedule_by (words_of line.text)

-- the lines before the first that begins a schedule
abbrev pub before_schedule : List Line → List Line
before_schedule [] = []
before_schedule (line ∷ lines) = if is_schedule line then [] else line ∷ before_schedule lines

-- that line and those behind it
abbrev pub from_schedule : List Line → List Line
from_schedule [] = []
from_schedule (line ∷ lines) = if is_schedule line then line ∷ lines else from_schedule lines

-- the text is cut where the schedule begins
pub record IsCutThere (text before rest : List ℕ) : Type 0 where
  pub whole : text ≡ before ++ rest
  pub before_is : lines_in before ≡ before_schedule (lines_in text)
  pub rest_is : lines_in rest ≡ from_schedule (lines_in text)

-- C, which is C*1, or C*N
abbrev pub client_run : ℕ → List ℕ → Option ClientRun
client_run times word = option_map (λ client. record { client = client; times = times }) (number_from 0 (2 ^ 32 - 1) word)

abbrev pub run_by : List ℕ → Option (List ℕ × List ℕ) → Option ClientRun
run_by word None = client_run 1 word
run_by word (Some parts) = option_and_then (λ times. client_run times parts.0) (number_from 1 (2 ^ 32 - 1) parts.1)

unfoldable pub run_of : List ℕ → Option ClientRun
run_of word = run_by word (cut_of 42 word)

abbrev pub run_or : ℕ → Option ClientRun → Result ClientRun LineError
run_or place None = bad (causes.BadNumber place)
run_or place (Some run) = Ok run

-- the runs that the words are, of which the first has this place in its line
abbrev pub runs_in : ℕ → List (List ℕ) → Result (List ClientRun) LineError
runs_in place [] = Ok []
runs_in place (word ∷ words) = run_or place (run_of word) >>= λ run. runs_in (place + 1) words >>= λ runs. Ok (run ∷ runs)

abbrev pub behind_first : List (List ℕ) → List (List ℕ)
behind_first [] = []
behind_first (word ∷ words) = words

-- the runs of the schedule line
abbrev pub schedule_line : Line → Result (List ClientRun) LineError
schedule_line line = as_text line >>= λ _. runs_in 2 (behind_first (words_of line.text))

-- behind the schedule line only lines that are skipped may stand
abbrev pub skipped_words : Bool → List (List ℕ) → Result (Unit {0}) LineError
skipped_words knows [] = Ok tt
skipped_words knows (word ∷ words) = if is_comment word then Ok tt else Err (unplaced knows (lead_of word))

abbrev pub skipped_line : Bool → Unit {0} → Line → Result (Unit {0}) LineError
skipped_line knows before line = as_text line >>= λ _. skipped_words knows (words_of line.text)
