-- Every run for whose steps there is room.
use Rattle.std.proofs.Common.{◌≡◌, ℕ, zero, suc, Some, length, replicate, sym, ap, subst, arith}
use Rattle.std.specs.Prelude.{slice_get}
use Rattle.script_values.specs.Scripts.{ScriptView}
use Rattle.flr_steps.specs.declared.client.Client.{Client}
use Rattle.flr_steps.specs.States.{IsRun, State, client_at, new_client, start}
use Rattle.flr_steps.proofs.Inversion.{step_is}
use Rattle.flr_numbers.specs.Laws.{LeaveRoom}
use Rattle.flr_locks.proofs.Runs.{keep_always}
use Rattle.flr_places.specs.Sentences.{IsCookieOf, Placed}
use Rattle.flr_places.proofs.Keeping.{step_places}
use Rattle.flr_places.proofs.Opened.{OfOpen}

-- before any step no client has a call under way
all_new : (n i : ℕ) (client : Client) → slice_get (replicate n new_client) i ≡ Some client → client ≡ new_client
all_new zero i client e = absurd (cc)
all_new (suc n) zero client e = cc
all_new (suc n) (suc i) client e = all_new n i client e

pub new_at : (n c : ℕ) (client : Client) → client_at (replicate n new_client) c ≡ Some client → client ≡ new_client
new_at n zero client e = absurd (cc)
new_at n (suc c) client e = all_new n c client e

pub start_places : (script : ScriptView) → Placed (start script)
start_places script = record {
  keys = tt;
  began = λ c client e. (let none : client.first ≡ 0 = ap (λ (x : Client). x.first) (new_at (length script.clients) c client e) in omega (arith, none));
  cookies = λ c client e. subst (λ (x : Client). OfOpen (IsCookieOf c) x.call) (sym (new_at (length script.clients) c client e)) tt;
}

pub runs_place : (s : State) → IsRun s → LeaveRoom (length s.schedule) → Placed s
runs_place s run leave = keep_always Placed (λ s t c h room p is. step_places s t c h room p (step_is s t c is)) s run leave (start_places s.script)
