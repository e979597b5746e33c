-- What `flr replay` writes for the bytes of its input.
use Rattle.std.specs.Prelude.{◌≡◌, ◌≢◌, ◌⊎◌, ℕ, List, Err}
use Rattle.script_values.specs.Scripts.{ScriptView}
use Rattle.script_values.specs.declared.runs.ClientRun.{ClientRun}
use Rattle.script_text.specs.declared.error.ScriptError.{ScriptError}
use Rattle.script_text.specs.declared.error.ScriptError.TheVariants as errors
use Rattle.script_text.specs.Grammar.{SpellsReplay}
use Rattle.script_text.specs.Refusals.{refusal_line}
use Rattle.script_text.specs.Replays.{replay_of}
use Rattle.flr_steps.specs.Reports.{text_of_run}
use Rattle.flr_steps.specs.Schedules.{IsBlocked, IsCutShort, IsStopped, IsTaken, Why, places_of}
use Rattle.flr_steps.specs.States.{State}
use Rattle.plain_files.specs.Histories.{IsWhole}
use Rattle.flr_claims.specs.Blocking.{IsWaiting}
use Rattle.flr_world.specs.Claims.{IsSoundRun}
use Rattle.flr_replay.specs.Lines.{cut_short_line, stopped_line}

-- status 0: the bytes spell a script and a schedule that it takes, and the text is the report of that run. Every command stands in it once and has ended, and the run is sound
pub record IsReport (bytes text : List ℕ) : Type 0 where
  pub script : ScriptView
  pub runs : List ClientRun
  pub last : State
  pub spelled : SpellsReplay bytes script runs
  pub taken : IsTaken script (places_of runs) last
  pub written : text ≡ text_of_run last
  pub whole : IsWhole last.script last.entries
  pub sound : IsSoundRun last

-- the bytes are no script with a schedule, for the one cause that the text tells
pub record IsNoReplay (bytes text : List ℕ) : Type 0 where
  pub cause : ScriptError
  pub known : cause ≢ errors.NoMemory
  pub exact : replay_of bytes ≡ Err cause
  pub written : text ≡ refusal_line cause

-- the text tells the first place of the schedule whose step isn't made, its client, and why. A client that is blocked waits for the one that is told
pub record TellsStop (script : ScriptView) (schedule text : List ℕ) : Type 0 where
  pub place : ℕ
  pub client : ℕ
  pub why : Why
  pub stopped : IsStopped script schedule place client why
  pub waits : (holder : ℕ) → why ≡ IsBlocked holder → IsWaiting stopped.state client holder
  pub written : text ≡ stopped_line place client why

-- the text tells the lowest client that has a command left at the end of the schedule
pub record TellsLeft (script : ScriptView) (schedule text : List ℕ) : Type 0 where
  pub client : ℕ
  pub left : IsCutShort script schedule client
  pub written : text ≡ cut_short_line client

-- the bytes spell a script and a schedule that it doesn't take, as the text tells
pub record IsNotTaken (bytes text : List ℕ) : Type 0 where
  pub script : ScriptView
  pub runs : List ClientRun
  pub spelled : SpellsReplay bytes script runs
  pub told : TellsStop script (places_of runs) text ⊎ TellsLeft script (places_of runs) text

-- status 3
abbrev pub IsRefusal : List ℕ → List ℕ → Type 0
IsRefusal bytes text = IsNoReplay bytes text ⊎ IsNotTaken bytes text

-- the bytes spell a script and a schedule that it takes
pub record IsGoodInput (bytes : List ℕ) : Type 0 where
  pub script : ScriptView
  pub runs : List ClientRun
  pub last : State
  pub spelled : SpellsReplay bytes script runs
  pub taken : IsTaken script (places_of runs) last

-- such an input is never refused, with whatever line
abbrev pub GoodInputsAreTaken : Type 0
GoodInputsAreTaken = (bytes text : List ℕ) → IsGoodInput bytes → IsRefusal bytes text → ⊥
