-- Each step leaves the locks those of the calls, and apart.
use Rattle.std.proofs.Common.{◌≡◌, ◌≢◌, ℕ, zero, suc, ◌-◌, Option, Some, List, [], ◌∷◌, length, ◌⊎◌, inl, inr, refl, sym, ap, subst, arith}
use Rattle.std.specs.Prelude.{slice_get}
use Rattle.std.specs.Option.{option_map_or}
use Rattle.std.proofs.Math.ListN.{set}
use Rattle.std.proofs.lemmas.Bool.{cases_eq}
use Rattle.extent_lock.specs.declared.lock.Lock.{Lock}
use Rattle.extent_lock.specs.Extents.{locks_of}
use Rattle.script_values.specs.Commands.{IsCommand}
use Rattle.call_steps.specs.Servers.{Servers}
use Rattle.call_steps.specs.Steps.{Outcome, Going, Fixed, Ended, Answered, Blocked}
use Rattle.flr_steps.specs.declared.client.Client.{Client}
use Rattle.flr_steps.specs.declared.client.Note.{Note}
use Rattle.flr_steps.specs.declared.client.Note.TheVariants.{Nothing, Adds, Closes}
use Rattle.flr_steps.specs.declared.client.Running.{Running}
use Rattle.flr_steps.specs.declared.client.Running.TheVariants as running
use Rattle.flr_steps.specs.Clients.{call_now, entry, first_now, going, over}
use Rattle.flr_steps.specs.States.{State, client_at, place_in, stepped}
use Rattle.flr_steps.specs.Steps.{LeavesState, StepIs}
use Rattle.flr_numbers.specs.Hands.{Changes, Fine}
use Rattle.flr_numbers.specs.Sentences.{HasRoom, Holds, IsCallOf, hand_of}
use Rattle.flr_numbers.proofs.Clients.{has_now, is_now, step_fine}
use Rattle.flr_numbers.proofs.Commands.{is_command}
use Rattle.flr_numbers.proofs.Keeping.{is_client}
use Rattle.flr_locks.specs.Phases.{AreLocksOf}
use Rattle.flr_locks.specs.Sentences.{Locked, call_at}
use Rattle.flr_locks.proofs.Calls.{locks_now, step_grants}
use Rattle.flr_locks.proofs.Granting.{Granted, Grants, free_none, stays_apart}

-- ---- a client of the list

set_same : {X : Type 0} (xs : List X) (i : ℕ) (x y : X) → slice_get xs i ≡ Some x → slice_get (set xs i y) i ≡ Some y
set_same [] i x y e = absurd (cc)
set_same (w ∷ ws) zero x y e = refl
set_same (w ∷ ws) (suc i) x y e = set_same ws i x y e

set_other : {X : Type 0} (xs : List X) (i j : ℕ) (y : X) → j ≢ i → slice_get (set xs i y) j ≡ slice_get xs j
set_other [] i j y apart = refl
set_other (w ∷ ws) zero zero y apart = absurd (apart refl)
set_other (w ∷ ws) zero (suc j) y apart = refl
set_other (w ∷ ws) (suc i) zero y apart = refl
set_other (w ∷ ws) (suc i) (suc j) y apart = set_other ws i j y (λ same. apart (ap suc same))

-- the client that steps has this call now
call_same : (clients : List Client) (c : ℕ) (client new : Client) → client_at clients c ≡ Some client → call_at (set clients (c - 1) new) c ≡ new.call
call_same clients zero client new e = absurd (cc)
call_same clients (suc c) client new e =
    let one : suc c - 1 ≡ c = omega arith in
    ap (λ (o : Option Client). option_map_or (λ (client : Client). client.call) o running.Idle) (subst (λ i. slice_get (set clients i new) c ≡ Some new) (sym one) (set_same clients c client new e))

-- and all others have what they had
call_other : (clients : List Client) (c k : ℕ) (client new : Client) → client_at clients c ≡ Some client → k ≢ c → call_at (set clients (c - 1) new) k ≡ call_at clients k
call_other clients zero k client new e apart = absurd (cc)
call_other clients (suc c) zero client new e apart = refl
call_other clients (suc c) (suc k) client new e apart =
    let one : suc c - 1 ≡ c = omega arith in
    ap (λ (o : Option Client). option_map_or (λ (client : Client). client.call) o running.Idle) (subst (λ i. slice_get (set clients i new) k ≡ slice_get clients k) (sym one) (set_other clients c k new (λ same. apart (ap suc same))))

call_here : (clients : List Client) (c : ℕ) (client : Client) → client_at clients c ≡ Some client → call_at clients c ≡ client.call
call_here clients c client e = ap (λ (o : Option Client). option_map_or (λ (client : Client). client.call) o running.Idle) e

-- ---- a step

module _ (s : State) (c : ℕ) (client : Client) (h : Locked s) (here : client_at s.clients c ≡ Some client) where
  stepped_locks : (new : Client) (after : Servers) (note : Note) → Changes c s.shared.meta s.shared.locks after.meta after.locks → Granted c s.shared.locks new.call after.locks → Locked (stepped s c new after note)
  stepped_locks new after note changes granted = record {
    own = λ k. by k (cases_eq k c);
    apart = stays_apart c s.shared.locks after.locks changes.locks granted.free h.apart;
  }
    where
      by : (k : ℕ) → (k ≡ c) ⊎ (k ≡ c → ⊥) → AreLocksOf (call_at (set s.clients (c - 1) new) k) (locks_of k after.locks)
      by k (inl same) =
          subst (λ n. AreLocksOf (call_at (set s.clients (c - 1) new) n) (locks_of n after.locks)) (sym same)
          (subst (λ (x : Running). AreLocksOf x (locks_of c after.locks)) (sym (call_same s.clients c client new here)) granted.own)
      by k (inr apart) =
          subst (λ (ls : List Lock). AreLocksOf (call_at (set s.clients (c - 1) new) k) ls) (sym (changes.locks k apart))
          (subst (λ (x : Running). AreLocksOf x (locks_of k s.shared.locks)) (sym (call_other s.clients c k client new here apart)) (h.own k))

  -- who has no call under way holds none
  over_locks : (after : Servers) → locks_of c after.locks ≡ [] → Granted c s.shared.locks running.Idle after.locks
  over_locks after none = record { own = none; free = free_none c s.shared.locks after.locks none }

  left_locks : (first : ℕ) (came : Outcome Running) (t : State) → Fine c hand_of (IsCallOf c) s.shared came → Grants (λ (x : Running). x) c s.shared.locks came → LeavesState s c client first came t → Locked t
  left_locks first (Going next after) t fine grants left = subst Locked (sym left) (stepped_locks (going client first next) after Nothing fine.0.changes grants)
  left_locks first (Fixed next reply takes after) t fine grants left = subst Locked (sym left) (stepped_locks (going client first next) after (Adds (entry c client first (place_in s) 0 reply takes)) fine.0.changes grants)
  left_locks first (Ended after) t fine grants left = subst Locked (sym left) (stepped_locks (over client first) after Closes fine.changes (over_locks after (fine.has.locks refl)))
  left_locks first (Answered reply takes after) t fine grants left = subst Locked (sym left) (stepped_locks (over client first) after (Adds (entry c client first (place_in s) (place_in s) reply takes)) fine.changes (over_locks after (fine.has.locks refl)))
  left_locks first (Blocked holder) t fine grants left = absurd left

pub step_locks : (s t : State) (c : ℕ) → Holds s → HasRoom s.shared → Locked s → StepIs s c t → Locked t
step_locks s t c h room locked step =
    let client : Client = step.client in
    let of = h.clients c client step.here in
    let le = h.script.form.few_mirrors in
    let few = h.script.form.few_clients in
    let good : IsCommand s.script.most s.script.targets (length s.script.clients) step.asked = is_command s.script c client.done step.asked h.script step.commanded in
    let call : Running = call_now c client.call step.asked in
    let is : IsCallOf c call = is_now c s.shared step.asked s.script.most s.script.targets (length s.script.clients) le few good client.call of.call in
    let fine = step_fine c s.shared step.asked s.script.most s.script.targets (length s.script.clients) le few good (is_client s c client h step.here) room.meta h.servers (place_in s) call
    (has_now c s.shared step.asked s.script.most s.script.targets (length s.script.clients) le few good client.call of.has) is in
    let own : AreLocksOf call (locks_of c s.shared.locks) =
    locks_now c step.asked client.call (locks_of c s.shared.locks) (subst (λ (x : Running). AreLocksOf x (locks_of c s.shared.locks)) (call_here s.clients c client step.here) (locked.own c)) in
    let grants = step_grants c s.shared call step.asked (place_in s) is own fine in
    left_locks s c client locked step.here (first_now client.call (place_in s) client.first) step.came t
    (subst (λ (o : Outcome Running). Fine c hand_of (IsCallOf c) s.shared o) step.made fine)
    (subst (λ (o : Outcome Running). Grants (λ (x : Running). x) c s.shared.locks o) step.made grants) step.left
