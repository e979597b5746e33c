-- How a key came to be broken between two places of a run: by a step of another client at the place that it tells.
use Rattle.std.proofs.Common.{◌≡◌, ◌⊎◌, inl, inr, ℕ, zero, suc, ◌+◌, ◌-◌, ◌<◌, ◌≤◌, List, [], ◌∷◌, length, slice_get, take, length-take-le, Some, refl, sym, ap, ◌∙◌, subst, arith}
use Rattle.std.proofs.lemmas.Bool.{cases_eq, true≢false}
use Rattle.layout_lease.specs.declared.lease.Lease.{Lease}
use Rattle.layout_lease.specs.Leases.{IsSoundTable, TableView, holder_of, is_unbroken}
use Rattle.mirror_select.proofs.Least.{In}
use Rattle.meta_server.specs.Files.{MetaView}
use Rattle.script_values.specs.Commands.{IsCommand}
use Rattle.call_steps.specs.Steps.{Outcome, Going, Fixed, Ended, Answered, Blocked}
use Rattle.flr_steps.specs.declared.client.Client.{Client}
use Rattle.flr_steps.specs.declared.client.Running.{Running}
use Rattle.flr_steps.specs.Clients.{call_now, first_now}
use Rattle.flr_steps.specs.Runs.{IsPlace}
use Rattle.flr_steps.specs.States.{IsRun, State, after, place_in, start, state_at}
use Rattle.flr_steps.specs.Steps.{LeavesState, StepIs}
use Rattle.flr_steps.proofs.Fronts.{each_place_is, each_run_keeps, fronts_are_runs}
use Rattle.flr_steps.proofs.Inversion.{step_is}
use Rattle.flr_numbers.specs.Sentences.{Holds, IsCallOf}
use Rattle.flr_numbers.proofs.Clients.{has_now, is_now}
use Rattle.flr_numbers.proofs.Commands.{is_command}
use Rattle.flr_places.specs.Sentences.{IsCookieOf, Placed}
use Rattle.flr_places.proofs.Commands.{step_leaves}
use Rattle.flr_places.proofs.Opened.{now_open}
use Rattle.flr_places.proofs.Runs.{runs_place}
use Rattle.flr_places.proofs.Steps.{OnMeta}
use Rattle.flr_runs.proofs.Runs as runs
use Rattle.flr_claims.specs.Calls.{HasLease, IsStepAt}
use Rattle.flr_honest.proofs.BrokenLeases.Origins.{AllCome, ComesFrom, IsTurned, all_come, all_stay, both_up, of_all}
use Rattle.flr_honest.proofs.BrokenLeases.Tables.{HasStanding, holder_stands, standing_holder}

-- ---- one step

left_so : (P : MetaView → Type 0) (s t : State) (c : ℕ) (client : Client) (first : ℕ) (came : Outcome Running) → OnMeta P came → LeavesState s c client first came t → P t.shared.meta
left_so P s t c client first (Going next after) so left = subst (λ (x : State). P x.shared.meta) (sym left) so
left_so P s t c client first (Fixed next reply takes after) so left = subst (λ (x : State). P x.shared.meta) (sym left) so
left_so P s t c client first (Ended after) so left = subst (λ (x : State). P x.shared.meta) (sym left) so
left_so P s t c client first (Answered reply takes after) so left = subst (λ (x : State). P x.shared.meta) (sym left) so
left_so P s t c client first (Blocked holder) so left = absurd left

-- where the keys behind a step of a run come from
pub keys_come : (s t : State) (c : ℕ) → IsRun s → (step : StepIs s c t) → AllCome s.shared.meta.leases.keys c (place_in s) t.shared.meta.leases.keys
keys_come s t c run step =
    let h : Holds s = runs.all_hold s run in
    let client : Client = step.client in
    let le = h.script.form.few_mirrors in
    let few = h.script.form.few_clients in
    let good : IsCommand s.script.most s.script.targets (length s.script.clients) step.asked = is_command s.script c client.done step.asked h.script step.commanded in
    let of = h.clients c client step.here in
    let is : IsCallOf c (call_now c client.call step.asked) = is_now c s.shared step.asked s.script.most s.script.targets (length s.script.clients) le few good client.call of.call in
    let has = has_now c s.shared step.asked s.script.most s.script.targets (length s.script.clients) le few good client.call of.has in
    let placed : Placed s = runs_place s run (runs.runs_leave (length s.schedule)) in
    let m : MetaView = s.shared.meta in
    let so = step_leaves (λ (x : MetaView). AllCome m.leases.keys c (place_in s) x.leases.keys) step.asked c (place_in s) s.shared
    (record { same = all_stay m c (place_in s); calls = all_come m c (place_in s) step.asked }) (λ ours theirs. both_up m c (place_in s) ours theirs)
    (call_now c client.call step.asked) is (now_open (IsCookieOf c) c step.asked client.call (placed.cookies c client step.here)) has.own in
    left_so (λ (x : MetaView). AllCome m.leases.keys c (place_in s) x.leases.keys) s t c client (first_now client.call (place_in s) client.first) step.came
    (subst (λ (o : Outcome Running). OnMeta (λ (x : MetaView). AllCome m.leases.keys c (place_in s) x.leases.keys) o) step.made so) step.left

-- ---- between two places

-- there is something at each place of a list
got_at : {A : Type 0} (xs : List A) (i : ℕ) → i < length xs → (x : A) × (slice_get xs i ≡ Some x)
got_at [] i low = absurd (omega (arith, low))
got_at (x ∷ xs) zero low = (x, refl)
got_at (x ∷ xs) (suc i) low = got_at xs i (omega (arith, low))

-- the key was broken by another client's step at this place of the run, before which it stood
pub record IsTurnedAt (last : State) (c place : ℕ) (lease : Lease) : Type 0 where
  pub at : IsStepAt last place
  pub other : at.client ≡ c → ⊥
  pub turned : IsTurned at.old.shared.meta.leases.keys place lease
  pub there : In lease at.new.shared.meta.leases.keys

-- it was so behind some place from the first on, up to this one
pub record IsTurnedSince (last : State) (c first high : ℕ) (lease : Lease) : Type 0 where
  pub place : ℕ
  pub behind : first < place
  pub within : place ≤ high
  pub is : IsTurnedAt last c place lease

-- the key is there in the state behind this place
pub record IsThereAt (last : State) (place : ℕ) (lease : Lease) : Type 0 where
  pub state : State
  pub state_is : state_at last.script last.schedule place ≡ Some state
  pub there : In lease state.shared.meta.leases.keys

module _ (last : State) (run : IsRun last) where
  -- each place of a run is a step of it
  pub step_at : (place : ℕ) → 0 < place → place ≤ length last.schedule → IsStepAt last place
  step_at place some within =
      let there = got_at last.schedule (place - 1) (omega (arith, some, within)) in
      let is : IsPlace (start last.script) last.schedule (place - 1) there.0 = each_place_is (start last.script) last last.schedule (place - 1) there.0 run.run there.1 in
      record {
        old = is.old;
        old_is = is.old_is;
        new = is.new;
        new_is = ap (λ (n : ℕ). after (start last.script) (take n last.schedule)) (let n : place ≡ place - 1 + 1 = omega (arith, some) in n) ∙ is.new_is;
        client = there.0;
        step = step_is is.old is.new there.0 is.made;
      }

  pub old_runs : (place : ℕ) (at : IsStepAt last place) → IsRun at.old
  old_runs place at = fronts_are_runs last at.old (place - 1) run at.old_is

  pub new_runs : (place : ℕ) (at : IsStepAt last place) → IsRun at.new
  new_runs place at = fronts_are_runs last at.new place run at.new_is

  pub sound_in : (s : State) → IsRun s → IsSoundTable s.shared.meta.leases
  sound_in s here = (runs.all_hold s here).servers.sound.leases

  same_place : (place : ℕ) → 0 < place → place ≤ length last.schedule → (at : IsStepAt last place) → place_in at.old ≡ place
  same_place place some within at =
      let from = each_run_keeps (start last.script) at.old (take (place - 1) last.schedule) at.old_is in
      let long : length at.old.schedule ≡ place - 1 = ap (λ (cs : List ℕ). length cs) from.places ∙ length-take-le (place - 1) last.schedule (omega (arith, within)) in
      omega (arith, long, some)

  module _ (c first : ℕ) (own : (place : ℕ) → first < place → place ≤ length last.schedule → (at : IsStepAt last place) → at.client ≡ c → at.new.shared.meta.leases ≡ at.old.shared.meta.leases) where
    module _ (lease : Lease) (mine : lease.client ≡ c) where
      one_back : (place : ℕ) → first < place → place ≤ length last.schedule → (at : IsStepAt last place) → In lease at.new.shared.meta.leases.keys → In lease at.old.shared.meta.leases.keys ⊎ IsTurnedAt last c place lease
      one_back place behind within at there = elim (cases_eq at.client c) as (λ _. In lease at.old.shared.meta.leases.keys ⊎ IsTurnedAt last c place lease) [
        | inl same ↦ inl (subst (λ (t : TableView). In lease t.keys) (own place behind within at same) there)
        | inr other ↦ from other (of_all (ComesFrom at.old.shared.meta.leases.keys at.client (place_in at.old)) at.new.shared.meta.leases.keys lease (keys_come at.old at.new at.client (old_runs place at) at.step) there)
      ]
        where
          from : (at.client ≡ c → ⊥) → ComesFrom at.old.shared.meta.leases.keys at.client (place_in at.old) lease → In lease at.old.shared.meta.leases.keys ⊎ IsTurnedAt last c place lease
          from other (inl was) = inl was
          from other (inr (inl turned)) = inr (record { at = at; other = other; turned = subst (λ (n : ℕ). IsTurned at.old.shared.meta.leases.keys n lease) (same_place place (omega (arith, behind)) within at) turned; there = there })
          from other (inr (inr its)) = absurd (other (sym its ∙ mine))

      -- going back from a place at which it is there, it was there at the first one, or was broken since
      pub back : (k : ℕ) → first + k ≤ length last.schedule → IsThereAt last (first + k) lease → IsThereAt last first lease ⊎ IsTurnedSince last c first (first + k) lease
      back zero within there = inl (subst (λ (n : ℕ). IsThereAt last n lease) (let z : first + 0 ≡ first = omega arith in z) there)
      back (suc k) within there =
          let place : ℕ = first + suc k in
          let at : IsStepAt last place = step_at place (omega arith) within in
          let same : there.state ≡ at.new = (let both = sym there.state_is ∙ at.new_is in cc) in
          let less : place - 1 ≡ first + k = omega arith in
          to at less (one_back place (omega arith) within at (subst (λ (x : State). In lease x.shared.meta.leases.keys) same there.there)) (back k (let w = within in omega (arith, w)))
        where
          to : (at : IsStepAt last (first + suc k)) → first + suc k - 1 ≡ first + k → In lease at.old.shared.meta.leases.keys ⊎ IsTurnedAt last c (first + suc k) lease
              → (IsThereAt last (first + k) lease → IsThereAt last first lease ⊎ IsTurnedSince last c first (first + k) lease) → IsThereAt last first lease ⊎ IsTurnedSince last c first (first + suc k) lease
          to at less (inl was) rest =
              later (rest (record { state = at.old; state_is = ap (λ (n : ℕ). state_at last.script last.schedule n) (sym less) ∙ at.old_is; there = was }))
            where
              later : IsThereAt last first lease ⊎ IsTurnedSince last c first (first + k) lease → IsThereAt last first lease ⊎ IsTurnedSince last c first (first + suc k) lease
              later (inl first_there) = inl first_there
              later (inr since) = inr (record { place = since.place; behind = since.behind; within = (let w = since.within in omega (arith, w)); is = since.is })
          to at less (inr turned) rest = inr (record { place = first + suc k; behind = omega arith; within = omega arith; is = turned })

    -- what no step of another client makes so: the client comes to have the lease of a file
    module _ (file : ℕ) where
      stands_before : (place : ℕ) → first < place → place ≤ length last.schedule → (at : IsStepAt last place) → HasLease at.new c file → HasLease at.old c file
      stands_before place behind within at has = elim (cases_eq at.client c) as (λ _. HasLease at.old c file) [
        | inl same ↦ ap (λ (t : TableView). holder_of t file) (sym (own place behind within at same)) ∙ has
        | inr other ↦ (
            let w : HasStanding at.new.shared.meta.leases.keys c file = holder_stands at.new.shared.meta.leases file c has in
            from other w (of_all (ComesFrom at.old.shared.meta.leases.keys at.client (place_in at.old)) at.new.shared.meta.leases.keys w.lease (keys_come at.old at.new at.client (old_runs place at) at.step) w.there)
            )
      ]
        where
          from : (at.client ≡ c → ⊥) → (w : HasStanding at.new.shared.meta.leases.keys c file) → ComesFrom at.old.shared.meta.leases.keys at.client (place_in at.old) w.lease → HasLease at.old c file
          from other w (inl was) =
              ap (holder_of at.old.shared.meta.leases) (sym w.of) ∙ standing_holder at.old.shared.meta.leases (sound_in at.old (old_runs place at)) w.lease was w.unbroken ∙ ap (λ (n : ℕ). Some n) w.own
          from other w (inr (inl turned)) = absurd (true≢false (sym w.unbroken ∙ ap is_unbroken turned.now))
          from other w (inr (inr its)) = absurd (other (sym its ∙ w.own))

      -- who has the lease at a place had it at each place between
      pub stood_since : (k low : ℕ) → first ≤ low → low + k ≤ length last.schedule → (x y : State) → state_at last.script last.schedule low ≡ Some x → state_at last.script last.schedule (low + k) ≡ Some y → HasLease y c file → HasLease x c file
      stood_since zero low from within x y x_is y_is has =
          let both = sym x_is ∙ ap (λ (n : ℕ). state_at last.script last.schedule n) (let z : low ≡ low + 0 = omega arith in z) ∙ y_is in
          subst (λ (s : State). HasLease s c file) (let same : y ≡ x = cc both in same) has
      stood_since (suc k) low from within x y x_is y_is has =
          let place : ℕ = low + suc k in
          let at : IsStepAt last place = step_at place (omega arith) within in
          let same : y ≡ at.new = (let both = sym y_is ∙ at.new_is in cc) in
          let old : HasLease at.old c file = stands_before place (let f = from in omega (arith, f)) within at (subst (λ (s : State). HasLease s c file) same has) in
          stood_since k low from (let w = within in omega (arith, w)) x at.old x_is (ap (λ (n : ℕ). state_at last.script last.schedule n) (let less : low + k ≡ place - 1 = omega arith in less) ∙ at.old_is) old
