-- Every run for whose steps there is room.
use Rattle.std.proofs.Common.{◌≡◌, ℕ, zero, suc, false, Some, List, [], ◌∷◌, ◌++◌, length, take, refl, sym, ap, subst, ◌∙◌, arith, replicate, map}
use Rattle.std.specs.Prelude.{slice_get, unwrap_or}
use Rattle.std.specs.Option.{option_and_then}
use Rattle.std.specs.List.{range_with_len}
use Rattle.std.proofs.lemmas.List.{length-replicate}
use Rattle.std.proofs.lemmas.List.{append-nil, append_assoc, length-take}
use Rattle.std.proofs.lemmas.List.FromFn.{length-map-range_with_len}
use Rattle.object_target.specs.declared.fail.Fail.{Fail}
use Rattle.object_target.specs.TargetState.{TargetState, new_target, new_targets, version_at}
use Rattle.script_values.specs.Scripts.{IsScript, ScriptView}
use Rattle.meta_server.specs.Files.{File, file_of, new_meta}
use Rattle.meta_laws.proofs.Runs.{new_sound}
use Rattle.meta_laws.proofs.Single.{new_once}
use Rattle.flr_numbers.specs.Hands.{AreServers}
use Rattle.flr_numbers.proofs.Handing.{bare_has}
use Rattle.flr_steps.specs.declared.client.Client.{Client}
use Rattle.flr_steps.specs.Conditions.{NextFits}
use Rattle.flr_steps.specs.States.{Next, State, Stepped, Blocked, Finished, Unknown, IsRun, after, client_at, new_client, next, place_in, start, state_of}
use Rattle.flr_steps.specs.Steps.{LeavesState, StepIs}
use Rattle.call_steps.specs.Steps.{Outcome, Going, Fixed, Ended, Answered}
use Rattle.call_steps.specs.Steps as steps
use Rattle.flr_steps.specs.declared.client.Running.{Running}
use Rattle.flr_steps.specs.Clients.{first_now}
use Rattle.flr_steps.proofs.Inversion.{step_is}
use Rattle.flr_numbers.specs.Laws.{LeaveRoom}
use Rattle.flr_numbers.specs.Sentences.{HasRoom, Holds, IsClientOf}
use Rattle.flr_numbers.proofs.NextFits.{next_fits}
use Rattle.flr_numbers.proofs.Keeping.{step_holds}

-- ---- before any step

from_replicate : (n i : ℕ) (client : Client) → slice_get (replicate n new_client) i ≡ Some client → client ≡ new_client
from_replicate zero i client e = absurd (cc)
from_replicate (suc n) zero client e = cc
from_replicate (suc n) (suc i) client e = from_replicate n i client e

is_new : (n c : ℕ) (client : Client) → client_at (replicate n new_client) c ≡ Some client → client ≡ new_client
is_new n zero client e = absurd (cc)
is_new n (suc c) client e = from_replicate n c client e

empty : (fails : List Fail) (ids : List ℕ) (q n : ℕ) (d : TargetState) → version_at d n ≡ 0 → version_at (unwrap_or (slice_get (map (λ id. new_target id fails) ids) q) d) n ≡ 0
empty fails [] q n d none = none
empty fails (id ∷ ids) zero n d none = refl
empty fails (id ∷ ids) (suc q) n d none = empty fails ids q n d none

start_servers : (script : ScriptView) → IsScript script → AreServers (new_meta script.targets script.most) (new_targets script.targets script.fails)
start_servers script h = record {
  sound = new_sound script.targets script.most (record { some_targets = omega (arith, h.form.some_targets); few_targets = h.form.few_targets; some_mirrors = omega (arith, h.form.some_mirrors); few_mirrors = h.form.few_mirrors });
  once = new_once script.targets script.most;
  as_many = length-map-range_with_len (λ id. new_target id script.fails) 0 script.targets ∙ sym (length-replicate {A = ℕ} script.targets 1);
  versions = λ number f o e s. absurd (cc);
  unmade = λ o late. empty script.fails (range_with_len 0 script.targets) o.target o.number (new_target o.target []) refl;
}

start_client : (script : ScriptView) (c : ℕ) → IsClientOf (start script) c new_client
start_client script c = record {
  has = bare_has c (new_meta script.targets script.most) [] false (λ number cookie l own h. nowhere number h.file h.there) refl (λ no. refl);
  call = tt;
}
  where
    nowhere : (number : ℕ) (f : File) → file_of number [] ≡ Some f → ⊥
    nowhere number f e = absurd (cc)

-- before any step everybody holds what he is to
pub start_holds : (script : ScriptView) → IsScript script → Holds (start script)
start_holds script h = record {
  script = h;
  count = length-replicate {A = Client} (length script.clients) new_client;
  targets = length-replicate {A = ℕ} script.targets 1;
  servers = start_servers script h;
  clients = λ c client e. subst (λ (x : Client). IsClientOf (start script) c x) (sym (is_new (length script.clients) c client e)) (start_client script c);
}

-- ---- after each step

hold_from : (cs : List ℕ) (s t : State) → Holds s → ((place : ℕ) (u : State) → after s (take place cs) ≡ Some u → HasRoom u.shared) → after s cs ≡ Some t → Holds t
hold_from [] s t h room e = let same : s ≡ t = cc in subst Holds same h
hold_from (c ∷ cs) s t h room e = by (next s c) refl e (λ mid. hold_from cs mid t)
  where
    by : (n : Next) → next s c ≡ n → option_and_then (λ mid. after mid cs) (state_of n) ≡ Some t → ((mid : State) → Holds mid → ((place : ℕ) (u : State) → after mid (take place cs) ≡ Some u → HasRoom u.shared) → after mid cs ≡ Some t → Holds t) → Holds t
    by (Stepped mid) is e rest =
        rest mid (step_holds s mid c h (room 0 s refl) (step_is s mid c is))
        (λ place u k. room (suc place) u ((λ j. option_and_then (λ mid. after mid (take place cs)) (state_of (is j))) ∙ k)) e
    by (Blocked holder) is e rest = absurd (cc)
    by Finished is e rest = absurd (cc)
    by Unknown is e rest = absurd (cc)

-- what a step leaves has the same script, and one place more
step_adds : (s t : State) (c : ℕ) → StepIs s c t → (t.script ≡ s.script) × (t.schedule ≡ s.schedule ++ c ∷ [])
step_adds s t c step = by step.came step.left
  where
    by : (o : Outcome Running) → LeavesState s c step.client (first_now step.client.call (place_in s) step.client.first) o t → (t.script ≡ s.script) × (t.schedule ≡ s.schedule ++ c ∷ [])
    by (Going next after) left = (ap (λ (x : State). x.script) left, ap (λ (x : State). x.schedule) left)
    by (Fixed next reply takes after) left = (ap (λ (x : State). x.script) left, ap (λ (x : State). x.schedule) left)
    by (Ended after) left = (ap (λ (x : State). x.script) left, ap (λ (x : State). x.schedule) left)
    by (Answered reply takes after) left = (ap (λ (x : State). x.script) left, ap (λ (x : State). x.schedule) left)
    by (steps.Blocked holder) left = absurd left

-- after a schedule the state has the script, and that schedule behind its own
reached : (cs : List ℕ) (s t : State) → after s cs ≡ Some t → (t.script ≡ s.script) × (t.schedule ≡ s.schedule ++ cs)
reached [] s t e = let same : s ≡ t = cc in (ap (λ (x : State). x.script) (sym same), ap (λ (x : State). x.schedule) (sym same) ∙ sym (append-nil s.schedule))
reached (c ∷ cs) s t e = by (next s c) refl e (λ mid. reached cs mid t)
  where
    by : (n : Next) → next s c ≡ n → option_and_then (λ mid. after mid cs) (state_of n) ≡ Some t → ((mid : State) → after mid cs ≡ Some t → (t.script ≡ mid.script) × (t.schedule ≡ mid.schedule ++ cs)) → (t.script ≡ s.script) × (t.schedule ≡ s.schedule ++ c ∷ cs)
    by (Stepped mid) is e rest =
        let one = step_adds s mid c (step_is s mid c is) in
        let more = rest mid e in
        (more.0 ∙ one.0, more.1 ∙ ap (λ (ds : List ℕ). ds ++ cs) one.1 ∙ append_assoc s.schedule (c ∷ []) cs)
    by (Blocked holder) is e rest = absurd (cc)
    by Finished is e rest = absurd (cc)
    by Unknown is e rest = absurd (cc)

module _ (s : State) (run : IsRun s) (leave : LeaveRoom (length s.schedule)) where
  room : (place : ℕ) (u : State) → after (start s.script) (take place s.schedule) ≡ Some u → HasRoom u.shared
  room place u e =
      let r = reached (take place s.schedule) (start s.script) u e in
      let here : after (start u.script) u.schedule ≡ Some u = (λ j. after (start (r.0 j)) (r.1 j)) ∙ e in
      let long = length-take place s.schedule in
      let same = ap (λ (cs : List ℕ). length cs) r.1 in
      leave u (record { limits = subst IsScript (sym r.0) run.limits; run = here }) (omega (arith, long, same))

  pub runs_hold : Holds s
  runs_hold = hold_from s.schedule (start s.script) s (start_holds s.script run.limits) room run.run

  pub runs_fit : (c : ℕ) → NextFits s c
  runs_fit = next_fits s runs_hold (leave s run (omega arith))
