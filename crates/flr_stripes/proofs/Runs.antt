-- Every run for whose steps there is room.
use Rattle.std.proofs.Common.{◌≡◌, ℕ, ◌-◌, Some, length, refl, arith}
use Rattle.script_values.specs.Scripts.{ScriptView}
use Rattle.flr_steps.specs.declared.client.Client.{Client}
use Rattle.flr_steps.specs.States.{IsRun, State, client_at, new_client, start}
use Rattle.flr_steps.specs.Steps.{StepIs}
use Rattle.flr_steps.proofs.Inversion.{step_is}
use Rattle.flr_numbers.specs.Laws.{LeaveRoom}
use Rattle.flr_numbers.specs.Sentences.{HasRoom, Holds}
use Rattle.flr_numbers.proofs.Keeping.{step_holds}
use Rattle.flr_bound.proofs.Runs.{IsHeld, all_alike, all_got, at_place, run_held, step_held}
use Rattle.flr_locks.proofs.Runs.{keep_always}
use Rattle.flr_work.specs.Known.{stripes_of_script}
use Rattle.flr_stripes.specs.Laws.{RunsAreShort, RunsHoldFew}
use Rattle.flr_stripes.proofs.Files.{HasAtMost}
use Rattle.flr_stripes.proofs.Keeping.{AllKnow, Knows, all_know}

-- no more stripes are there than commands name, and each call has few objects in hand
abbrev IsKept : State → Type 0
IsKept s = IsHeld s × AllKnow s

start_kept : (script : ScriptView) → IsHeld (start script) → IsKept (start script)
start_kept script held = (held, all_alike (λ (client : Client). Knows (stripes_of_script script) client.call) (length script.clients) new_client (tt, tt))

most_in : (s : State) → Holds s → IsHeld s → HasAtMost (stripes_of_script s.script) s.shared
most_in s h held = record { sound = h.servers.sound; few = (let whole = held.named.whole in omega (arith, whole)) }

step_kept : (s t : State) (c : ℕ) → Holds s → HasRoom s.shared → IsKept s → StepIs s c t → IsKept t
step_kept s t c h room kept step =
    let held : IsHeld t = step_held s t c kept.0 step in
    (held, all_know s t c h room (most_in t (step_holds s t c h room step) held) kept.1 step)

run_knows : (s : State) → IsRun s → LeaveRoom (length s.schedule) → AllKnow s
run_knows s run leave = (keep_always IsKept (λ a b c h room kept is. step_kept a b c h room kept (step_is a b c is)) s run leave (start_kept s.script (run_held (start s.script) (record { limits = run.limits; run = refl })))).1

client_knows : (s : State) → IsRun s → LeaveRoom (length s.schedule) → (c : ℕ) (client : Client) → client_at s.clients c ≡ Some client → Knows (stripes_of_script s.script) client.call
client_knows s run leave c client e = all_got (λ (x : Client). Knows (stripes_of_script s.script) x.call) s.clients (c - 1) client (run_knows s run leave) (at_place s.clients c client e)

pub runs_short : RunsAreShort
runs_short s run leave = record { each = λ c client e. (client_knows s run leave c client e).0 }

pub runs_few : RunsHoldFew
runs_few s run leave = record { each = λ c client e. (client_knows s run leave c client e).1 }
