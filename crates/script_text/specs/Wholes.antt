-- Whole scripts: the lines one after the other, and then what all of them have to be together.
use Rattle.std.specs.Prelude.{ℕ, ◌+◌, ◌==◌, nat_lt, ◌&&◌, ◌||◌, if◌then◌else◌, List, [], ◌∷◌, ◌++◌, length, Bool, false, Option, Some, None, Result, Ok, Err, codes}
use Rattle.std.specs.Str.{bytes_eq}
use Rattle.flr_base.specs.Reading.{reads}
use Rattle.text_words.specs.Numbers.{number_of}
use Rattle.text_words.specs.Pieces.{words_of}
use Rattle.lfs_values.specs.declared.cause.Cause.TheVariants as causes
use Rattle.lfs_words.specs.Parts.{◌>>=◌}
use Rattle.script_values.specs.declared.what.What.{What}
use Rattle.script_values.specs.Scripts.{ScriptView, limited}
use Rattle.script_text.specs.declared.error.LineError.{LineError}
use Rattle.script_text.specs.declared.error.ScriptError.{ScriptError}
use Rattle.script_text.specs.declared.error.ScriptError.TheVariants as errors
use Rattle.script_text.specs.declared.state.Body.{Body}
use Rattle.script_text.specs.declared.state.Part.{Part}
use Rattle.script_text.specs.declared.state.State.{State}
use Rattle.script_text.specs.declared.state.State.TheVariants as state
use Rattle.script_text.specs.Answers.{error_at}
use Rattle.script_text.specs.Step.{line_of}
use Rattle.script_text.specs.TextLines.{Line, lines_in}

-- all clients with their commands
abbrev pub all_of : Body → Part
all_of body = record { head = body.head; clients = body.done ++ body.own ∷ [] }

-- what so many lines came to; without a line `client` a word is missing on the line behind them
abbrev pub ended : ℕ → State → Result Part ScriptError
ended count (state.Commands body) = Ok (all_of body)
ended count _ = Err (errors.Bad (count + 1) causes.Missing)

abbrev pub part_by : ℕ → Result State (ℕ × LineError) → Result Part ScriptError
part_by count (Ok s) = ended count s
part_by count (Err fault) = Err (error_at fault.0 fault.1)

-- what the lines come to, or the cause of the first that has one
abbrev pub part_of : List Line → Result Part ScriptError
part_of lines = part_by (length lines) (reads line_of 0 state.Start lines)

-- no client of so many has this number
abbrev pub is_nobody : ℕ → Option ℕ → Bool
is_nobody clients None = false
is_nobody clients (Some client) = client == 0 || nat_lt clients client

-- a line that evicts a client that isn't there
abbrev pub evicts_nobody_by : ℕ → List (List ℕ) → Bool
evicts_nobody_by clients (word ∷ client ∷ words) = bytes_eq word (codes "evict") && is_nobody clients (number_of client)
evicts_nobody_by clients _ = false

abbrev pub evicts_nobody : ℕ → Line → Bool
evicts_nobody clients line = evicts_nobody_by clients (words_of line.text)

-- every eviction is of a client that is there, or else the first that isn't is told; the first line has this place, counted from 0
abbrev pub evictions_in : ℕ → ℕ → List Line → Result (Unit {0}) ScriptError
evictions_in clients at [] = Ok tt
evictions_in clients at (line ∷ lines) = if evicts_nobody clients line then Err (errors.Bad (at + 1) (causes.BadNumber 2)) else evictions_in clients (at + 1) lines

-- the script that lines came to
abbrev pub view_of : Part → ScriptView
view_of part = record { most = part.head.most; targets = part.head.targets; fails = part.head.fails; clients = part.clients }

abbrev pub limited_by : Result ScriptView What → Result ScriptView ScriptError
limited_by (Ok script) = Ok script
limited_by (Err what) = Err (errors.TooMany what)

-- what all lines have to be together: no eviction of nobody, then not too many bytes, then not too much work
abbrev pub whole_of : List Line → Part → Result ScriptView ScriptError
whole_of lines part = evictions_in (length part.clients) 0 lines >>= λ _. limited_by (limited (view_of part))

-- the script of an input, or why it is none
unfoldable pub script_of : List ℕ → Result ScriptView ScriptError
script_of text = if nat_lt 1048576 (length text) then Err errors.TooLong else part_of (lines_in text) >>= λ part. whole_of (lines_in text) part
