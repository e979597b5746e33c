-- What is claimed of the answers of every run.
use Rattle.std.specs.Prelude.{◌≡◌, ℕ, false, List, [], length}
use Rattle.script_values.specs.Scripts.{ScriptView}
use Rattle.flr_steps.specs.States.{IsRun, State, start}
use Rattle.flr_steps.specs.Steps.{StepIs}
use Rattle.flr_steps.specs.Traces.{Trace, trace_after}
use Rattle.plain_files.specs.Histories.{Answered, IsLegal, IsLinear}
use Rattle.flr_claims.specs.Causes.{has_rot}
use Rattle.flr_claims.specs.Claims.{CallsAreEntries, CallsAreLinear}
use Rattle.flr_claims.specs.Runs.{calls_of, store_of}
use Rattle.flr_numbers.specs.Laws.{LeaveRoom}
use Rattle.flr_numbers.specs.Sentences.{HasRoom, Holds}
use Rattle.flr_bytes.specs.Runs.{Honest, IsStep}
use Rattle.flr_honest.specs.Legal.Seeing.{AnswersTheBytes}
use Rattle.flr_honest.specs.Legal.Sentences.{CopiesKnowFiles, IsAllowed}

-- ---- copies

-- before any step no copy is begun
abbrev pub StartKnowsFiles : Type 0
StartKnowsFiles = (script : ScriptView) → CopiesKnowFiles (start script)

-- each step for which there is room leaves each copy the key of its file
abbrev pub StepsKnowFiles : Type 0
StepsKnowFiles = (s t : State) (c : ℕ) → Holds s → HasRoom s.shared → CopiesKnowFiles s → StepIs s c t → CopiesKnowFiles t

-- so it is after a run, where no run that isn't longer wants room
abbrev pub RunsKnowFiles : Type 0
RunsKnowFiles = (s : State) → IsRun s → LeaveRoom (length s.schedule) → CopiesKnowFiles s

-- ---- answers

-- where the files are honest against the plain files, a step answers what they allow
abbrev pub StepsAnswerSo : Type 0
StepsAnswerSo = (s t : State) (old new : Trace) (c : ℕ) (is : IsStep s t old new c) → CopiesKnowFiles s → Honest s old → IsAllowed is.step.asked (store_of s old) is.step.came

-- ---- runs

-- the calls that are judged are the entries, of every script
abbrev pub RunsJudgeAll : Type 0
RunsJudgeAll = (s : State) → IsRun s → CallsAreEntries s (trace_after s.script s.schedule)

-- without rot they are legal on plain files, one after the other in the order of their points
abbrev pub RunsAreLegal : Type 0
RunsAreLegal = (s : State) → IsRun s → has_rot s.script ≡ false → IsLegal [] (calls_of s (trace_after s.script s.schedule))

-- so they could have been made one at a time, each at its point
abbrev pub RunsAreLinear : Type 0
RunsAreLinear = (s : State) → IsRun s → has_rot s.script ≡ false → CallsAreLinear s (trace_after s.script s.schedule)

-- ---- what a user sees

-- in every linear history a read that began after a write of the same bytes had ended, with no other write under way meanwhile, answers that write's bytes
abbrev pub LastWritesAreRead : Type 0
LastWritesAreRead = (script : ScriptView) (schedule : List ℕ) (calls : List Answered) → IsLinear script schedule calls → AnswersTheBytes calls

-- so it does in every run without rot
abbrev pub RunsReadLastWrites : Type 0
RunsReadLastWrites = (s : State) → IsRun s → has_rot s.script ≡ false → AnswersTheBytes (calls_of s (trace_after s.script s.schedule))
