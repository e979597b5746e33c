-- A script and its schedule.
use Rattle.std.specs.Prelude.{ℕ, ◌+◌, nat_lt, if◌then◌else◌, List, [], ◌∷◌, length, Bool, Result, Ok, Err}
use Rattle.flr_base.specs.Reading.{reads}
use Rattle.lfs_words.specs.Parts.{◌>>=◌}
use Rattle.script_values.specs.Scripts.{ScriptView}
use Rattle.script_values.specs.declared.runs.ClientRun.{ClientRun}
use Rattle.script_text.specs.declared.error.LineError.{LineError}
use Rattle.script_text.specs.declared.error.ScriptError.{ScriptError}
use Rattle.script_text.specs.declared.error.ScriptError.TheVariants as errors
use Rattle.script_text.specs.Answers.{error_at}
use Rattle.script_text.specs.Step.{knows_mirrors}
use Rattle.script_text.specs.Schedules.{before_schedule, from_schedule, schedule_line, skipped_line}
use Rattle.script_text.specs.TextLines.{Line, lines_in, size_of_lines}
use Rattle.script_text.specs.Wholes.{part_of, whole_of}

-- the value of a line at this place, counted from 0
abbrev pub line_at : {A : Type 0} → ℕ → Result A LineError → Result A ScriptError
line_at at (Ok x) = Ok x
line_at at (Err fault) = Err (error_at at fault)

abbrev pub all_skipped_by : Result (Unit {0}) (ℕ × LineError) → Result (Unit {0}) ScriptError
all_skipped_by (Ok skipped) = Ok skipped
all_skipped_by (Err fault) = Err (error_at fault.0 fault.1)

-- all these lines, of which the first has this place, are skipped
abbrev pub all_skipped : Bool → ℕ → List Line → Result (Unit {0}) ScriptError
all_skipped knows at lines = all_skipped_by (reads (skipped_line knows) at tt lines)

-- a script's lines with a schedule line behind them and further lines behind that
abbrev pub scheduled : List Line → List Line → Result (ScriptView × List ClientRun) ScriptError
scheduled before [] = Err errors.NoSchedule
scheduled before (line ∷ after) =
    part_of before >>= λ part. line_at (length before) (schedule_line line) >>= λ runs.
    all_skipped (knows_mirrors part.head.version) (length before + 1) after >>= λ _.
    whole_of before part >>= λ script. Ok (script, runs)

abbrev pub replay_by : List Line → List Line → Result (ScriptView × List ClientRun) ScriptError
replay_by before rest = if nat_lt 1048576 (size_of_lines before) then Err errors.TooLong else scheduled before rest

-- the script and the schedule of an input, or why it is none
unfoldable pub replay_of : List ℕ → Result (ScriptView × List ClientRun) ScriptError
replay_of text = if nat_lt 67108864 (length text) then Err errors.TooLong else replay_by (before_schedule (lines_in text)) (from_schedule (lines_in text))
