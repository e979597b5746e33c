-- The cause of an input: the first line with which its lines begin no script, and in that line the first word
-- that fits no form which the words before it allow.
use Rattle.std.specs.Prelude.{◌≡◌, ℕ, ◌+◌, ◌-◌, ◌^◌, ◌<◌, ◌≤◌, List, [], ◌∷◌, ◌++◌, length, codes, true, false, Ok, ◌⊎◌}
use Rattle.std.specs.Fmt.{decimal}
use Rattle.std.specs.List.{AllByRecursion}
use Rattle.flr_base.specs.Faults.{IsFirstFault}
use Rattle.text_words.specs.Pieces.{words_of}
use Rattle.lfs_values.specs.declared.cause.Cause.{Cause}
use Rattle.lfs_values.specs.declared.cause.Cause.TheVariants as causes
use Rattle.lfs_words.specs.Grammar.{IsRefused}
use Rattle.lfs_words.specs.Reading.{place_at}
use Rattle.script_values.specs.declared.runs.ClientRun.{ClientRun}
use Rattle.script_values.specs.declared.what.What.{What}
use Rattle.script_values.specs.declared.what.What.TheVariants as what
use Rattle.script_values.specs.Scripts.{ScriptView, IsWellFormed, bytes_of_script, work_of}
use Rattle.script_text.specs.declared.error.LineError.{LineError}
use Rattle.script_text.specs.declared.error.LineError.TheVariants as faults
use Rattle.script_text.specs.declared.error.ScriptError.{ScriptError}
use Rattle.script_text.specs.declared.error.ScriptError.TheVariants as errors
use Rattle.script_text.specs.declared.state.Version.TheVariants as versions
use Rattle.script_text.specs.declared.state.Head.{Head}
use Rattle.script_text.specs.declared.state.Body.{Body}
use Rattle.script_text.specs.declared.state.Part.{Part}
use Rattle.script_text.specs.declared.state.State.{State}
use Rattle.script_text.specs.declared.state.State.TheVariants as state
use Rattle.script_text.specs.Answers.{error_at}
use Rattle.script_text.specs.Grammar.{Says, said_in, AreText, AreClientLines, AreRunWords}
use Rattle.script_text.specs.HeadLines.{is_listed}
use Rattle.script_text.specs.Keeping.{IsGoodPart}
use Rattle.script_text.specs.SoFar.{Heard, HeadSaid, Stands}
use Rattle.script_text.specs.Step.{as_text}
use Rattle.script_text.specs.Schedules.{before_schedule, from_schedule, behind_first}
use Rattle.script_text.specs.TextLines.{Line, is_text, lines_in, size_of_lines}
use Rattle.script_text.specs.Wholes.{evicts_nobody}
use Rattle.script_text.specs.Forms.{Fits}

-- ---- words

-- the word with this place, counted from 1 with the words before, is the first with which the words begin nothing of the language
abbrev pub IsAt : (List (List ℕ) → Type 0) → ℕ → List (List ℕ) → ℕ → Type 0
IsAt L from words place = (at : ℕ) × (place ≡ place_at (from + at)) × IsFirstFault L words at

-- this is told of the words, before which so many stand: it names the first with which they begin nothing of the language
abbrev pub IsTold : (List (List ℕ) → Type 0) → ℕ → List (List ℕ) → LineError → Type 0
IsTold L from words (faults.Bad (causes.UnknownWord place)) = IsAt L from words place
IsTold L from words (faults.Bad (causes.Extra place)) = IsAt L from words place
IsTold L from words (faults.Bad (causes.BadNumber place)) = IsAt L from words place
IsTold L from words (faults.Bad (causes.BadName place)) = IsAt L from words place
IsTold L from words (faults.Bad (causes.BadBytes place)) = IsAt L from words place
IsTold L from words (faults.Bad (causes.Conflict place)) = IsAt L from words place
IsTold L from words (faults.Bad (causes.Repeated place)) = IsAt L from words place
IsTold L from words (faults.Bad causes.Missing) = IsFirstFault L words (length words)
IsTold L from words (faults.Bad causes.Misplaced) = IsAt L from words 1 ⊎ IsAt L from words 2
IsTold L from words (faults.TooMany what.Targets) = IsAt L from words 2
IsTold L from words (faults.TooMany what.Clients) = IsAt L from words 1
IsTold L from words (faults.TooMany what.Commands) = IsAt L from words 1
IsTold L from words (faults.TooMany what.Fails) = IsAt L from words 1
IsTold L from words _ = ⊥

-- the line lists a range of calls, and LAST is the word with which it begins no such line, since a call behind FIRST is listed already; that is told at FIRST
abbrev pub IsLateRepeat : State → List (List ℕ) → LineError → Type 0
IsLateRepeat s words error =
    (error ≡ faults.Bad (causes.Repeated 3)) × (head : Head) × (s ≡ state.Fails head) × (head.version ≡ versions.Two) × (behind : List (List ℕ)) × (words ≡ codes "fail" ∷ behind) × IsAt (Fits s) 0 words 4

-- words TARGET FIRST LAST of which LAST makes the calls that are listed too many
pub record PassesFails (head : Head) (words : List (List ℕ)) : Type 0 where
  pub target : ℕ
  pub first : ℕ
  pub last : ℕ
  pub rest : List (List ℕ)
  pub words_are : words ≡ decimal target ∷ decimal first ∷ decimal last ∷ rest
  pub target_is : target < head.targets
  pub some : 1 ≤ first
  pub order : first ≤ last
  pub call_is : last < 2 ^ 32
  pub free : is_listed head.fails target first first ≡ false
  pub many : 4096 < length head.fails + (last + 1 - first)

-- the line lists a range of calls with which there are too many
abbrev pub IsLongRange : State → List (List ℕ) → LineError → Type 0
IsLongRange s words error =
    (error ≡ faults.TooMany what.Fails) × (head : Head) × (s ≡ state.Fails head) × (head.version ≡ versions.Two) × (behind : List (List ℕ)) × (words ≡ codes "fail" ∷ behind) × PassesFails head behind

-- the words are those of an `lfs` command, which isn't right as a whole
abbrev pub IsWrongCommand : State → List (List ℕ) → LineError → Type 0
IsWrongCommand s words error = (body : Body) × (s ≡ state.Commands body) × (cause : Cause) × (error ≡ faults.Bad cause) × IsRefused body.head.most words cause

-- the cause of a line of these words, where this has been said before
abbrev pub IsWordsCause : State → List (List ℕ) → LineError → Type 0
IsWordsCause s words error = IsTold (Fits s) 0 words error ⊎ (IsLateRepeat s words error ⊎ (IsLongRange s words error ⊎ IsWrongCommand s words error))

-- ---- lines

-- the cause of a line, where this has been said before: first that it has no end, then that it isn't text, then its words
abbrev pub IsCauseOfLine : State → Line → LineError → Type 0
IsCauseOfLine s line error =
    ((error ≡ faults.Bad causes.NoNewline) × (line.ended ≡ false)) ⊎ (((error ≡ faults.Bad causes.NotText) × (line.ended ≡ true) × (is_text line.text ≡ false)) ⊎ ((as_text line ≡ Ok tt) × IsWordsCause s (words_of line.text) error))

-- the lines, by their words, say a script that is within every limit but those of all lines together: which clients are evicted, how many bytes there are, and how much work
pub record IsInForm (lines : List (List (List ℕ))) : Type 0 where
  pub part : Part
  pub front : List (List (List ℕ))
  pub back : List (List (List ℕ))
  pub whole : lines ≡ front ++ back
  pub head : HeadSaid part.head.version part.head front
  pub clients : AreClientLines (Heard part.head.targets part.head.most) 1 back part.clients
  pub limits : IsGoodPart part

-- the lines are text and say such a script
abbrev pub AreInForm : List Line → Type 0
AreInForm lines = AreText lines × IsInForm (said_in lines)

-- the line at this place, counted from 0, is the first with which the lines begin no script, for this cause
pub record IsFaultyLine (lines : List Line) (at : ℕ) (error : LineError) : Type 0 where
  pub first : IsFirstFault AreInForm lines at
  pub before : List Line
  pub line : Line
  pub behind : List Line
  pub parts : lines ≡ before ++ line ∷ behind
  pub place : at ≡ length before
  pub so_far : State
  pub said : Stands so_far (said_in before)
  pub cause : IsCauseOfLine so_far line error

-- the lines end before they are a script
abbrev pub IsUnended : List Line → ℕ → Cause → Type 0
IsUnended lines at cause = (cause ≡ causes.Missing) × (at ≡ length lines) × IsFirstFault AreInForm lines at

-- the line at this place is the first that evicts a client that isn't there, in lines that are in form
pub record IsEvictedNobody (lines : List Line) (at : ℕ) (cause : Cause) : Type 0 where
  pub form : AreInForm lines
  pub before : List Line
  pub line : Line
  pub behind : List Line
  pub parts : lines ≡ before ++ line ∷ behind
  pub place : at ≡ length before
  pub others : AllByRecursion (λ other. evicts_nobody (length form.1.part.clients) other ≡ false) before
  pub nobody : evicts_nobody (length form.1.part.clients) line ≡ true
  pub cause_is : cause ≡ causes.BadNumber 2

-- the lines say a script within every limit, but that it has too many bytes, or else too much work
abbrev pub PassesLimit : List Line → What → Type 0
PassesLimit lines w =
    (script : ScriptView) × AreText lines × Says script (said_in lines) × IsWellFormed script
    × (((w ≡ what.Bytes) × (67108864 < bytes_of_script script)) ⊎ ((w ≡ what.Work) × (bytes_of_script script ≤ 67108864) × (8388608 < work_of script)))

-- the cause of lines that one of them has
abbrev pub IsCauseInLine : List Line → ScriptError → Type 0
IsCauseInLine lines (errors.Bad line cause) = (at : ℕ) × (line ≡ at + 1) × (IsFaultyLine lines at (faults.Bad cause) ⊎ IsUnended lines at cause)
IsCauseInLine lines (errors.TooMany what) = (at : ℕ) × IsFaultyLine lines at (faults.TooMany what)
IsCauseInLine lines error = ⊥

-- the cause of lines in form that all of them have together
abbrev pub IsCauseOfAll : List Line → ScriptError → Type 0
IsCauseOfAll lines (errors.Bad line cause) = (at : ℕ) × (line ≡ at + 1) × IsEvictedNobody lines at cause
IsCauseOfAll lines (errors.TooMany what) = PassesLimit lines what
IsCauseOfAll lines error = ⊥

-- the cause of lines: that of the first line that has one, and else that of all of them together
abbrev pub IsCauseOfLines : List Line → ScriptError → Type 0
IsCauseOfLines lines error = IsCauseInLine lines error ⊎ IsCauseOfAll lines error

-- the cause of a script
abbrev pub IsCauseOfScript : List ℕ → ScriptError → Type 0
IsCauseOfScript text errors.TooLong = 1048576 < length text
IsCauseOfScript text error = (length text ≤ 1048576) × IsCauseOfLines (lines_in text) error

-- ---- schedules

-- each of the words is a run
abbrev pub AreRuns : List (List ℕ) → Type 0
AreRuns words = (runs : List ClientRun) × AreRunWords words runs

-- the cause of a schedule line: first that it has no end, then that it isn't text, then the first word behind `schedule` that is no run
abbrev pub IsCauseOfSchedule : Line → LineError → Type 0
IsCauseOfSchedule line error =
    ((error ≡ faults.Bad causes.NoNewline) × (line.ended ≡ false)) ⊎ (((error ≡ faults.Bad causes.NotText) × (line.ended ≡ true) × (is_text line.text ≡ false))
    ⊎ ((as_text line ≡ Ok tt) × (at : ℕ) × (error ≡ faults.Bad (causes.BadNumber (at + 2))) × IsFirstFault AreRuns (behind_first (words_of line.text)) at))

-- the lines are text and say nothing
abbrev pub AreSkipped : List Line → Type 0
AreSkipped lines = AreText lines × (said_in lines ≡ [])

-- the cause of a line where only lines that say nothing may stand: first that it has no end, then that it isn't text, then its first word
abbrev pub IsCauseOfSaid : Line → LineError → Type 0
IsCauseOfSaid line error =
    ((error ≡ faults.Bad causes.NoNewline) × (line.ended ≡ false)) ⊎ (((error ≡ faults.Bad causes.NotText) × (line.ended ≡ true) × (is_text line.text ≡ false))
    ⊎ ((as_text line ≡ Ok tt) × ((error ≡ faults.Bad causes.Misplaced) ⊎ (error ≡ faults.Bad (causes.UnknownWord 1)))))

-- the line at this place is the first that says something
pub record IsSaidBehind (lines : List Line) (at : ℕ) (error : LineError) : Type 0 where
  pub first : IsFirstFault AreSkipped lines at
  pub before : List Line
  pub line : Line
  pub behind : List Line
  pub parts : lines ≡ before ++ line ∷ behind
  pub place : at ≡ length before
  pub cause : IsCauseOfSaid line error

-- the cause of lines with a schedule line behind them and further lines behind that, in the order of the lines, and else of all the first together
abbrev pub IsCauseOfScheduled : List Line → Line → List Line → ScriptError → Type 0
IsCauseOfScheduled lines line after error =
    IsCauseInLine lines error
    ⊎ (((fault : LineError) × (error ≡ error_at (length lines) fault) × AreInForm lines × IsCauseOfSchedule line fault)
    ⊎ (((at : ℕ) × (fault : LineError) × (error ≡ error_at (length lines + 1 + at) fault) × AreInForm lines × IsSaidBehind after at fault) ⊎ IsCauseOfAll lines error))

-- the script's part of the input, and the whole of it, aren't too long
abbrev pub IsShort : List ℕ → Type 0
IsShort text = (length text ≤ 67108864) × (size_of_lines (before_schedule (lines_in text)) ≤ 1048576)

-- the cause of a script with a schedule
abbrev pub IsCauseOfReplay : List ℕ → ScriptError → Type 0
IsCauseOfReplay text errors.TooLong = (67108864 < length text) ⊎ (1048576 < size_of_lines (before_schedule (lines_in text)))
IsCauseOfReplay text errors.NoSchedule = IsShort text × (from_schedule (lines_in text) ≡ [])
IsCauseOfReplay text error = IsShort text × (line : Line) × (after : List Line) × (from_schedule (lines_in text) ≡ line ∷ after) × IsCauseOfScheduled (before_schedule (lines_in text)) line after error
