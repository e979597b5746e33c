-- The report of the run to which an input leads, and an input that is too long.
use Rattle.std.proofs.Common.{◌≡◌, ℕ, ◌<◌, List, length, refl, inl}
use Rattle.std.specs.Prelude.{Err}
use Rattle.std.proofs.lemmas.Bool.{lt-ltb}
use Rattle.script_text.specs.declared.error.ScriptError.TheVariants as errors
use Rattle.script_text.specs.Refusals.{refusal_line}
use Rattle.script_text.specs.Replays.{replay_of}
use Rattle.flr_steps.specs.Reports.{text_of_run}
use Rattle.flr_steps.specs.States.{State}
use Rattle.flr_past.proofs.Runs.{are_whole}
use Rattle.flr_world.proofs.Claims.{runs_are_sound}
use Rattle.flr_replay.specs.Outcomes.{LeadsTo}
use Rattle.flr_replay.specs.Replays.{IsRefusal, IsReport}

long_text : (bytes : List ℕ) → 67108864 < length bytes → replay_of bytes ≡ Err errors.TooLong
unfolding replay_of
long_text bytes long = rw (lt-ltb 67108864 (length bytes) long) refl

pub long_refused : (bytes : List ℕ) → 67108864 < length bytes → IsRefusal bytes (refusal_line errors.TooLong)
long_refused bytes long = inl (record { cause = errors.TooLong; known = λ e. cc; exact = long_text bytes long; written = refl })

pub report_of_run : (bytes : List ℕ) (last : State) → LeadsTo bytes last → IsReport bytes (text_of_run last)
report_of_run bytes last leads = record { script = leads.script; runs = leads.runs; last = last; spelled = leads.spelled; taken = leads.taken; written = refl; whole = are_whole last leads.run leads.taken.finished; sound = runs_are_sound last leads.run }
