-- An entry of a run with all that its answer is judged by: its command, the run of its call up to its point, and the state before that.
use Rattle.std.specs.Prelude.{◌≡◌, ℕ, ◌-◌, false, Some, slice_get}
use Rattle.flr_base.specs.declared.reply.Entry.{Entry}
use Rattle.script_values.specs.declared.command.Command.{Command}
use Rattle.flr_steps.specs.Reports.{command_of}
use Rattle.flr_steps.specs.States.{IsRun, State, state_at}
use Rattle.flr_steps.specs.Traces.{Past, trace_after}
use Rattle.flr_asked.specs.CallRuns.{IsCallTo}
use Rattle.flr_claims.specs.Calls.{Call}
use Rattle.flr_claims.specs.Causes.{IsCaused, has_rot}
use Rattle.flr_claims.specs.Runs.{call_before}

-- the entry is one of a run, and the trace has this for it
pub record IsEntryOf (s : State) (e : Entry) (p : Past) : Type 0 where
  pub run : IsRun s
  pub number : ℕ
  pub entry : slice_get s.entries number ≡ Some e
  pub past : slice_get (trace_after s.script s.schedule).answered number ≡ Some p
  pub asked : Command
  pub commanded : command_of s.script e ≡ Some asked
  pub call : IsCallTo s.script s.schedule asked e p
  pub before : State
  pub before_is : state_at s.script s.schedule (e.at - 1) ≡ Some before

-- its call, as claims speak of it
abbrev pub claimed : {s : State} {e : Entry} {p : Past} → IsEntryOf s e p → Call
claimed {s} {e} {p} is = call_before is.before e is.asked p

-- where no byte may rot, each entry whose command passes the test has its cause
abbrev pub HaveCauses : (Command → Type 0) → Type 0
HaveCauses of = (s : State) (e : Entry) (p : Past) (is : IsEntryOf s e p) → has_rot s.script ≡ false → of is.asked → IsCaused (claimed is) e.reply
