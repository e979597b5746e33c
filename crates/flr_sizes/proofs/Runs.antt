-- Every run for whose steps there is room.
use Rattle.std.proofs.Common.{ℕ, zero, suc, length, replicate}
use Rattle.std.specs.List.{AllByRecursion}
use Rattle.script_values.specs.Scripts.{ScriptView}
use Rattle.flr_steps.specs.declared.client.Client.{Client}
use Rattle.flr_steps.specs.States.{IsRun, State, new_client, start}
use Rattle.flr_steps.proofs.Inversion.{step_is}
use Rattle.flr_numbers.specs.Laws.{LeaveRoom}
use Rattle.flr_locks.proofs.Runs.{keep_always}
use Rattle.flr_sizes.specs.Laws.{RunsAreShort}
use Rattle.flr_sizes.proofs.Steps.{IsBelow, IsShort, cap_of, step_short}

all_idle : (cap n : ℕ) → AllByRecursion (λ (client : Client). IsBelow cap client.call) (replicate n new_client)
all_idle cap zero = tt
all_idle cap (suc n) = (tt, all_idle cap n)

pub start_short : (script : ScriptView) → IsShort (start script)
start_short script = record { files = tt; calls = all_idle (cap_of script) (length script.clients) }

run_short : (s : State) → IsRun s → LeaveRoom (length s.schedule) → IsShort s
run_short s run leave = keep_always IsShort (λ s t c h room p is. step_short s t c h p (step_is s t c is)) s run leave (start_short s.script)

-- after each such run files are short
pub runs_short : RunsAreShort
runs_short s run leave = (run_short s run leave).files
