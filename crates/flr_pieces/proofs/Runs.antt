-- Every run for whose steps there is room.
use Rattle.std.proofs.Common.{ℕ, zero, suc, length, replicate}
use Rattle.std.specs.List.{AllByRecursion}
use Rattle.flr_steps.specs.declared.client.Client.{Client}
use Rattle.flr_steps.specs.States.{IsRun, State, new_client, start}
use Rattle.script_values.specs.Scripts.{ScriptView}
use Rattle.flr_steps.proofs.Inversion.{step_is}
use Rattle.flr_numbers.specs.Laws.{LeaveRoom}
use Rattle.flr_numbers.specs.Sentences.{Holds}
use Rattle.flr_numbers.proofs.Runs.{runs_hold}
use Rattle.flr_locks.proofs.Runs.{keep_always}
use Rattle.flr_pieces.specs.Laws.{RunsAreFew, RunsLose}
use Rattle.flr_pieces.proofs.Keeping.{AllKnow, Knows, all_know, got_at}
use Rattle.flr_pieces.proofs.Losing.{few, lost}

all_idle : (n : ℕ) → AllByRecursion (λ (client : Client). Knows client.call) (replicate n new_client)
all_idle zero = tt
all_idle (suc n) = (tt, all_idle n)

start_knows : (script : ScriptView) → AllKnow (start script)
start_knows script = all_idle (length script.clients)

run_knows : (s : State) → IsRun s → LeaveRoom (length s.schedule) → AllKnow s
run_knows s run leave = keep_always AllKnow (λ s t c h room p is. all_know s t c h p (step_is s t c is)) s run leave (start_knows s.script)

pub runs_few : RunsAreFew
runs_few s run leave = record { each = λ c client e. few c client.call ((runs_hold s run leave).clients c client e).call (got_at (λ (x : Client). Knows x.call) s.clients c client (run_knows s run leave) e) }

pub runs_lose : RunsLose
runs_lose s run leave =
    let h : Holds s = runs_hold s run leave in
    record { each = λ c client e. lost c s.shared h.servers client.call (h.clients c client e).has (h.clients c client e).call (got_at (λ (x : Client). Knows x.call) s.clients c client (run_knows s run leave) e) }
