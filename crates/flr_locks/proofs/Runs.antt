-- Every run for whose steps there is room.
use Rattle.std.proofs.Common.{◌≡◌, ℕ, zero, suc, Some, List, [], ◌∷◌, length, take, refl, sym, ap, subst, ◌∙◌, arith, replicate}
use Rattle.std.specs.Prelude.{slice_get}
use Rattle.std.specs.Option.{option_and_then, option_map_or}
use Rattle.std.proofs.lemmas.List.{length-take}
use Rattle.extent_lock.proofs.Members.{Contains-nil}
use Rattle.script_values.specs.Scripts.{IsScript, ScriptView}
use Rattle.flr_steps.specs.declared.client.Client.{Client}
use Rattle.flr_steps.specs.declared.client.Running.{Running}
use Rattle.flr_steps.specs.declared.client.Running.TheVariants as running
use Rattle.flr_steps.specs.States.{Next, State, Stepped, Blocked, Finished, Unknown, IsRun, after, new_client, next, start, state_of}
use Rattle.flr_steps.proofs.Fronts.{each_run_keeps}
use Rattle.flr_steps.proofs.Inversion.{step_is}
use Rattle.flr_numbers.specs.Laws.{LeaveRoom}
use Rattle.flr_numbers.specs.Sentences.{HasRoom, Holds}
use Rattle.flr_numbers.proofs.Keeping.{step_holds}
use Rattle.flr_numbers.proofs.Runs.{start_holds}
use Rattle.flr_locks.specs.Phases.{AreLocksOf}
use Rattle.flr_locks.specs.Sentences.{Locked, call_at}
use Rattle.flr_locks.proofs.Keeping.{step_locks}

-- ---- before any step

all_idle : (n i : ℕ) → option_map_or (λ (client : Client). client.call) (slice_get (replicate n new_client) i) running.Idle ≡ running.Idle
all_idle zero i = refl
all_idle (suc n) zero = refl
all_idle (suc n) (suc i) = all_idle n i

new_idle : (n c : ℕ) → call_at (replicate n new_client) c ≡ running.Idle
new_idle n zero = refl
new_idle n (suc c) = all_idle n c

-- before any step the locks are those of the calls
pub start_locks : (script : ScriptView) → Locked (start script)
start_locks script = record {
  own = λ c. subst (λ (x : Running). AreLocksOf x []) (sym (new_idle (length script.clients) c)) refl;
  apart = λ a b ha hb conflict. absurd (Contains-nil a ha);
}

-- ---- after each step

-- what each step keeps in a state where everybody holds what he is to, and where there is room, holds after each run that had room
module _ (P : State → Type 0) (keeps : (s t : State) (c : ℕ) → Holds s → HasRoom s.shared → P s → (next s c ≡ Stepped t) → P t) where
  keep_from : (cs : List ℕ) (s t : State) → Holds s → P s → ((place : ℕ) (u : State) → after s (take place cs) ≡ Some u → HasRoom u.shared) → after s cs ≡ Some t → P t
  keep_from [] s t h p room e = let same : s ≡ t = cc in subst P same p
  keep_from (c ∷ cs) s t h p room e = by (next s c) refl e (λ mid. keep_from cs mid t)
    where
      by : (n : Next) → next s c ≡ n → option_and_then (λ mid. after mid cs) (state_of n) ≡ Some t → ((mid : State) → Holds mid → P mid → ((place : ℕ) (u : State) → after mid (take place cs) ≡ Some u → HasRoom u.shared) → after mid cs ≡ Some t → P t) → P t
      by (Stepped mid) is e rest =
          rest mid (step_holds s mid c h (room 0 s refl) (step_is s mid c is)) (keeps s mid c h (room 0 s refl) p is)
          (λ place u k. room (suc place) u ((λ j. option_and_then (λ mid. after mid (take place cs)) (state_of (is j))) ∙ k)) e
      by (Blocked holder) is e rest = absurd (cc)
      by Finished is e rest = absurd (cc)
      by Unknown is e rest = absurd (cc)

  pub keep_always : (s : State) → IsRun s → LeaveRoom (length s.schedule) → P (start s.script) → P s
  keep_always s run leave p = keep_from s.schedule (start s.script) s (start_holds s.script run.limits) p room run.run
    where
      room : (place : ℕ) (u : State) → after (start s.script) (take place s.schedule) ≡ Some u → HasRoom u.shared
      room place u e =
          let r = each_run_keeps (start s.script) u (take place s.schedule) e in
          let here : after (start u.script) u.schedule ≡ Some u = (λ j. after (start (r.script j)) (r.places j)) ∙ e in
          let long = length-take place s.schedule in
          let same = ap (λ (cs : List ℕ). length cs) r.places in
          leave u (record { limits = subst IsScript (sym r.script) run.limits; run = here }) (omega (arith, long, same))

pub runs_lock : (s : State) → IsRun s → LeaveRoom (length s.schedule) → Locked s
runs_lock s run leave = keep_always Locked (λ s t c h room p is. step_locks s t c h room p (step_is s t c is)) s run leave (start_locks s.script)
