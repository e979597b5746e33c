-- Every run for whose steps there is room.
use Rattle.std.proofs.Common.{ℕ, zero, suc, length, refl, subst, replicate}
use Rattle.std.specs.List.{AllByRecursion}
use Rattle.script_values.specs.Scripts.{ScriptView}
use Rattle.flr_steps.specs.declared.client.Client.{Client}
use Rattle.flr_steps.specs.States.{IsRun, State, new_client, start}
use Rattle.flr_steps.proofs.Inversion.{step_is}
use Rattle.flr_numbers.specs.Laws.{LeaveRoom}
use Rattle.flr_locks.proofs.Runs.{keep_always}
use Rattle.flr_sizes.proofs.Runs.{start_short}
use Rattle.flr_sizes.proofs.Steps.{IsShort, got_at, step_short}
use Rattle.flr_work.specs.Known.{take_room}
use Rattle.flr_mirrors.specs.Laws.{FewMirrors, SameMost, VerifiesAreShort}
use Rattle.flr_mirrors.proofs.Keeping.{Knows, Mirrored, step_mirrored}

all_idle : (room n : ℕ) → AllByRecursion (λ (client : Client). Knows room client.call) (replicate n new_client)
all_idle room zero = tt
all_idle room (suc n) = (tt, all_idle room n)

start_mirrored : (script : ScriptView) → Mirrored (start script)
start_mirrored script = record { meta = record { same = refl; files = tt }; calls = all_idle (take_room script) (length script.clients) }

run_mirrored : (s : State) → IsRun s → LeaveRoom (length s.schedule) → Mirrored s
run_mirrored s run leave =
    (keep_always (λ (s : State). IsShort s × Mirrored s)
    (λ s t c h room both is. (
    let step = step_is s t c is in
    (step_short s t c h both.0 step, step_mirrored s t c h both.0 both.1 step)
    )) s run leave (start_short s.script, start_mirrored s.script)).1

-- after each such run files have few mirrors
pub runs_few : FewMirrors
runs_few s run leave = (run_mirrored s run leave).meta.files

pub runs_same : SameMost
runs_same s run leave = (run_mirrored s run leave).meta.same

-- and verifies take few copies
pub runs_short : VerifiesAreShort
runs_short s run leave c client call here is =
    subst (Knows (take_room s.script)) is (got_at (λ (x : Client). Knows (take_room s.script) x.call) s.clients c client (run_mirrored s run leave).calls here)
