-- What stays of files from one place of a run to a later one.
use Rattle.std.proofs.Common.{◌≡◌, ℕ, zero, suc, ◌+◌, ◌-◌, ◌<◌, ◌≤◌, length, get_or, Option, None, Some, inl, inr, ◌⊎◌, refl, sym, ap, subst, ◌∙◌, arith}
use Rattle.std.specs.Prelude.{slice_get}
use Rattle.std.proofs.lemmas.Bool.{cases_eq}
use Rattle.std.proofs.lemmas.Option.{slice_get-get_or}
use Rattle.composite_layout.specs.Layouts.{Composite}
use Rattle.layout_lease.specs.Leases.{KeyView}
use Rattle.script_values.specs.Commands.{IsCommand}
use Rattle.meta_server.specs.Files.{File, MetaView, file_of}
use Rattle.call_steps.specs.Steps.{Outcome, Going, Fixed, Ended, Answered, Blocked}
use Rattle.flr_steps.specs.declared.client.Client.{Client}
use Rattle.flr_steps.specs.declared.client.Running.{Running}
use Rattle.flr_steps.specs.Clients.{call_now, first_now}
use Rattle.flr_steps.specs.Runs.{IsPlace}
use Rattle.flr_steps.specs.States.{IsRun, State, place_in, start, state_at}
use Rattle.flr_steps.specs.Steps.{LeavesState, StepIs}
use Rattle.flr_steps.proofs.Fronts.{each_place_is, fronts_are_runs}
use Rattle.flr_steps.proofs.Inversion.{step_is}
use Rattle.flr_numbers.specs.Frames.{Leases}
use Rattle.flr_numbers.specs.Sentences.{Holds, IsCallOf}
use Rattle.flr_numbers.proofs.Clients.{is_now}
use Rattle.flr_numbers.proofs.Commands.{is_command}
use Rattle.flr_behind.proofs.Calls.{both_up, call_follows}
use Rattle.flr_behind.proofs.Commands.{step_leaves}
use Rattle.flr_behind.proofs.Following.{Follows, same}
use Rattle.flr_behind.proofs.Steps.{OnMeta}
use Rattle.flr_honest.proofs.Grounds.{runs_ground}
use Rattle.flr_honest.proofs.Knowing.Steps as knowing

-- ---- one step

-- by what the step left
left_follows : (s : State) (c : ℕ) (client : Client) (first : ℕ) (came : Outcome Running) (t : State) → OnMeta (Follows s.shared.meta) came → LeavesState s c client first came t → Follows s.shared.meta t.shared.meta
left_follows s c client first (Going next after) t follows left = subst (λ (x : State). Follows s.shared.meta x.shared.meta) (sym left) follows
left_follows s c client first (Fixed next reply takes after) t follows left = subst (λ (x : State). Follows s.shared.meta x.shared.meta) (sym left) follows
left_follows s c client first (Ended after) t follows left = subst (λ (x : State). Follows s.shared.meta x.shared.meta) (sym left) follows
left_follows s c client first (Answered reply takes after) t follows left = subst (λ (x : State). Follows s.shared.meta x.shared.meta) (sym left) follows
left_follows s c client first (Blocked holder) t follows left = absurd left

-- each file that is there behind a step was there before it, if its number was given
pub step_follows : (s t : State) (c : ℕ) → Holds s → StepIs s c t → Follows s.shared.meta t.shared.meta
step_follows s t c h step =
    let client : Client = step.client in
    let good : IsCommand s.script.most s.script.targets (length s.script.clients) step.asked = is_command s.script c client.done step.asked h.script step.commanded in
    let call : Running = call_now c client.call step.asked in
    let is : IsCallOf c call = is_now c s.shared step.asked s.script.most s.script.targets (length s.script.clients) h.script.form.few_mirrors h.script.form.few_clients good client.call (h.clients c client step.here).call in
    let follows = step_leaves (Follows s.shared.meta) c (place_in s) s.shared (record { same = same s.shared.meta; calls = call_follows s.shared.meta h.servers.sound }) (both_up s.shared.meta) call step.asked is in
    left_follows s c client (first_now client.call (place_in s) client.first) step.came t (subst (λ (o : Outcome Running). OnMeta (Follows s.shared.meta) o) step.made follows) step.left

-- there is one state at a place
pub one_state : (a b : State) (o : Option State) → o ≡ Some a → o ≡ Some b → a ≡ b
one_state a b o e k = let both : Some a ≡ Some b = sym e ∙ k in cc

-- ---- from one place to a later one

-- the step behind this place, between two states of the run
pub record IsStepBehind (s : State) (place : ℕ) (u v : State) : Type 0 where
  pub client : ℕ
  pub own : slice_get s.schedule place ≡ Some client
  pub before : state_at s.script s.schedule place ≡ Some u
  pub behind : state_at s.script s.schedule (place + 1) ≡ Some v
  pub run : IsRun u
  pub step : StepIs u client v

module _ (s : State) (run : IsRun s) (P : MetaView → Type 0) (low high : ℕ) (each : (place : ℕ) (u v : State) → low ≤ place → place < high → IsStepBehind s place u v → P u.shared.meta → P v.shared.meta) where
  -- so many steps behind
  keeps_by : (k : ℕ) (u v : State) → state_at s.script s.schedule low ≡ Some u → state_at s.script s.schedule (low + k) ≡ Some v → low + k ≤ high → high ≤ length s.schedule → P u.shared.meta → P v.shared.meta
  keeps_by zero u v e k there within h =
      let same : low + 0 ≡ low = omega arith in
      subst (λ (x : State). P x.shared.meta) (one_state u v (state_at s.script s.schedule low) e (ap (λ (n : ℕ). state_at s.script s.schedule n) (sym same) ∙ k)) h
  keeps_by (suc k) u v e there below within h =
      let place : ℕ = low + k in
      let inside : place < length s.schedule = omega (arith, below, within) in
      let c : ℕ = get_or s.schedule place 0 in
      let own : slice_get s.schedule place ≡ Some c = slice_get-get_or s.schedule place 0 inside in
      let at : IsPlace (start s.script) s.schedule place c = each_place_is (start s.script) s s.schedule place c run.run own in
      let next : low + suc k ≡ place + 1 = omega arith in
      let mid : P at.old.shared.meta = keeps_by k u at.old e at.old_is (omega (arith, below)) within h in
      let one : at.new ≡ v = one_state at.new v (state_at s.script s.schedule (place + 1)) at.new_is (ap (λ (n : ℕ). state_at s.script s.schedule n) (sym next) ∙ there) in
      subst (λ (x : State). P x.shared.meta) one
      (each place at.old at.new (omega arith) (omega (arith, below)) (record { client = c; own = own; before = at.old_is; behind = at.new_is; run = fronts_are_runs s at.old place run at.old_is; step = step_is at.old at.new c at.made }) mid)

  -- what each step between two places keeps stays
  pub keeps : (u v : State) → state_at s.script s.schedule low ≡ Some u → state_at s.script s.schedule high ≡ Some v → low ≤ high → high ≤ length s.schedule → P u.shared.meta → P v.shared.meta
  keeps u v e there order within h =
      let reach : low + (high - low) ≡ high = omega (arith, order) in
      keeps_by (high - low) u v e (ap (λ (n : ℕ). state_at s.script s.schedule n) reach ∙ there) (omega (arith, order)) within h

-- a file that is gone stays so
pub gone_stays : (s : State) → IsRun s → (number low high : ℕ) (u v : State) → state_at s.script s.schedule low ≡ Some u → state_at s.script s.schedule high ≡ Some v → low ≤ high → high ≤ length s.schedule
    → number < u.shared.meta.next_file → file_of number u.shared.meta.files ≡ None → file_of number v.shared.meta.files ≡ None
gone_stays s run number low high u v e there order within given none = (keeps s run Gone low high each u v e there order within (given, none)).1
  where
    Gone : MetaView → Type 0
    Gone m = (number < m.next_file) × (file_of number m.files ≡ None)

    each : (place : ℕ) (a b : State) → low ≤ place → place < high → IsStepBehind s place a b → (number < a.shared.meta.next_file) × (file_of number a.shared.meta.files ≡ None) → (number < b.shared.meta.next_file) × (file_of number b.shared.meta.files ≡ None)
    each place a b from to st g = (omega (arith, g.0, f.next), by (file_of number b.shared.meta.files) refl)
      where
        f : Follows a.shared.meta b.shared.meta
        f = step_follows a b st.client (runs_ground a st.run).holds st.step

        by : (o : Option File) → file_of number b.shared.meta.files ≡ o → file_of number b.shared.meta.files ≡ None
        by None k = k
        by (Some x) k = let was = f.files number x g.0 k in let both : None ≡ Some was.before = sym g.1 ∙ was.there in absurd (cc)

-- while its lease stands a file keeps its layout, where the steps of the lease's own client leave the metadata server as it is
pub layout_stays : (s : State) → IsRun s → (key : KeyView) (l : Composite) (low high : ℕ) (u v : State) → state_at s.script s.schedule low ≡ Some u → state_at s.script s.schedule high ≡ Some v → low ≤ high → high ≤ length s.schedule
    → ((place : ℕ) (a b : State) → low ≤ place → place < high → (is : IsStepBehind s place a b) → is.client ≡ key.client → b.shared.meta ≡ a.shared.meta) → Leases u.shared.meta key l → Leases v.shared.meta key l
layout_stays s run key l low high u v e there order within own h = keeps s run (λ m. Leases m key l) low high each u v e there order within h
  where
    each : (place : ℕ) (a b : State) → low ≤ place → place < high → IsStepBehind s place a b → Leases a.shared.meta key l → Leases b.shared.meta key l
    each place a b from to st g = by (cases_eq st.client key.client)
      where
        by : (st.client ≡ key.client) ⊎ (st.client ≡ key.client → ⊥) → Leases b.shared.meta key l
        by (inl mine) = subst (λ m. Leases m key l) (sym (own place a b from to st mine)) g
        by (inr other) = let ground = runs_ground a st.run in (knowing.step_leaves a b st.client ground.holds ground.room st.step).leases key l (λ same. other (sym same)) g
