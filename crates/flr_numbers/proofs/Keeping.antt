-- Each step leaves everybody with what he is to hold.
use Rattle.std.proofs.Common.{◌≡◌, ◌≢◌, ℕ, zero, suc, ◌-◌, ◌≤◌, Some, List, [], ◌∷◌, length, ◌⊎◌, inl, inr, refl, sym, ap, subst, ◌∙◌, arith, length-set}
use Rattle.std.specs.Prelude.{slice_get}
use Rattle.std.proofs.Math.ListN.{set}
use Rattle.std.proofs.lemmas.Bool.{cases_eq}
use Rattle.std.proofs.lemmas.Option.{slice_get_within}
use Rattle.layout_lease.specs.Clients.{IsClient}
use Rattle.script_values.specs.Commands.{IsCommand}
use Rattle.call_steps.specs.Servers.{Servers}
use Rattle.call_steps.specs.Steps.{Outcome, Going, Fixed, Ended, Answered, Blocked}
use Rattle.flr_numbers.specs.Hands.{Fine, Good, Has}
use Rattle.flr_numbers.proofs.Handing.{others_keep}
use Rattle.flr_steps.specs.declared.client.Client.{Client}
use Rattle.flr_steps.specs.declared.client.Note.{Note}
use Rattle.flr_steps.specs.declared.client.Note.TheVariants.{Nothing, Adds, Closes}
use Rattle.flr_steps.specs.declared.client.Running.{Running}
use Rattle.flr_steps.specs.Clients.{call_now, entry, first_now, going, over}
use Rattle.flr_steps.specs.States.{State, client_at, place_in, stepped}
use Rattle.flr_steps.specs.Steps.{LeavesState, StepIs}
use Rattle.flr_numbers.specs.Sentences.{HasRoom, Holds, IsCallOf, IsClientOf, hand_of}
use Rattle.flr_numbers.proofs.Clients.{has_now, is_now, step_fine}
use Rattle.flr_numbers.proofs.Commands.{is_command}

-- ---- a client of the list

set_same : {X : Type 0} (xs : List X) (i : ℕ) (x y z : X) → slice_get xs i ≡ Some x → slice_get (set xs i y) i ≡ Some z → z ≡ y
set_same [] i x y z e k = absurd (cc)
set_same (w ∷ ws) zero x y z e k = cc
set_same (w ∷ ws) (suc i) x y z e k = set_same ws i x y z e k

set_other : {X : Type 0} (xs : List X) (i j : ℕ) (y : X) → j ≢ i → slice_get (set xs i y) j ≡ slice_get xs j
set_other [] i j y apart = refl
set_other (w ∷ ws) zero zero y apart = absurd (apart refl)
set_other (w ∷ ws) zero (suc j) y apart = refl
set_other (w ∷ ws) (suc i) zero y apart = refl
set_other (w ∷ ws) (suc i) (suc j) y apart = set_other ws i j y (λ same. apart (ap suc same))

below : (c j : ℕ) → (suc j ≡ c → ⊥) → 1 ≤ c → j ≢ c - 1
below c j apart some same = apart (omega (arith, same, some))

-- who is there has a number from 1 on
numbered : (clients : List Client) (c : ℕ) (client : Client) → client_at clients c ≡ Some client → (1 ≤ c) × (c ≤ length clients)
numbered clients zero client e = absurd (cc)
numbered clients (suc c) client e = let within = slice_get_within clients c client e in (omega arith, omega (arith, within))

pub is_client : (s : State) (c : ℕ) (client : Client) → Holds s → client_at s.clients c ≡ Some client → IsClient c
is_client s c client h e = let k = numbered s.clients c client e in let count = h.count in let few = h.script.form.few_clients in (k.0, omega (arith, k.1, count, few))

new_same : (clients : List Client) (c : ℕ) (client new other : Client) → client_at clients c ≡ Some client → client_at (set clients (c - 1) new) c ≡ Some other → other ≡ new
new_same clients zero client new other e k = absurd (cc)
new_same clients (suc c) client new other e k =
    let one : suc c - 1 ≡ c = omega arith in
    set_same clients c client new other e (subst (λ i. slice_get (set clients i new) c ≡ Some other) one k)

new_other : (clients : List Client) (c k : ℕ) (new other : Client) → k ≢ c → 1 ≤ c → client_at (set clients (c - 1) new) k ≡ Some other → client_at clients k ≡ Some other
new_other clients c zero new other apart some e = e
new_other clients c (suc k) new other apart some e = sym (set_other clients (c - 1) k new (below c k apart some)) ∙ e

-- ---- a step

module _ (s : State) (c : ℕ) (client : Client) (h : Holds s) (here : client_at s.clients c ≡ Some client) where
  -- the client has this call now, and the servers are these
  stepped_holds : (new : Client) (after : Servers) (note : Note) → Good c s.shared (hand_of new.call) after → IsCallOf c new.call → Holds (stepped s c new after note)
  stepped_holds new after note good is = record {
    script = h.script;
    count = length-set s.clients (c - 1) new ∙ h.count;
    targets = good.changes.many ∙ h.targets;
    servers = good.servers;
    clients = λ k other e. by k other e (cases_eq k c);
  }
    where
      by : (k : ℕ) (other : Client) → client_at (set s.clients (c - 1) new) k ≡ Some other → (k ≡ c) ⊎ (k ≡ c → ⊥) → IsClientOf (stepped s c new after note) k other
      by k other e (inl same) =
          let one : other ≡ new = new_same s.clients c client new other here (subst (λ n. client_at (set s.clients (c - 1) new) n ≡ Some other) same e) in
          record {
            has = subst (λ n. Has n after.meta after.locks (hand_of other.call)) (sym same) (subst (λ (x : Client). Has c after.meta after.locks (hand_of x.call)) (sym one) good.has);
            call = subst (λ n. IsCallOf n other.call) (sym same) (subst (λ (x : Client). IsCallOf c x.call) (sym one) is);
          }
      by k other e (inr apart) =
          let before = h.clients k other (new_other s.clients c k new other apart (numbered s.clients c client here).0 e) in
          record { has = others_keep c k s.shared.meta after.meta s.shared.locks after.locks (hand_of other.call) good.changes apart before.has; call = before.call }

  left_holds : (first : ℕ) (came : Outcome Running) (t : State) → Fine c hand_of (IsCallOf c) s.shared came → LeavesState s c client first came t → Holds t
  left_holds first (Going next after) t fine left = subst Holds (sym left) (stepped_holds (going client first next) after Nothing fine.0 fine.1)
  left_holds first (Fixed next reply takes after) t fine left = subst Holds (sym left) (stepped_holds (going client first next) after (Adds (entry c client first (place_in s) 0 reply takes)) fine.0 fine.1)
  left_holds first (Ended after) t fine left = subst Holds (sym left) (stepped_holds (over client first) after Closes fine tt)
  left_holds first (Answered reply takes after) t fine left = subst Holds (sym left) (stepped_holds (over client first) after (Adds (entry c client first (place_in s) (place_in s) reply takes)) fine tt)
  left_holds first (Blocked holder) t fine left = absurd left

-- what a step of a client came to is fine
pub came_fine : (s t : State) (c : ℕ) → Holds s → HasRoom s.shared → (step : StepIs s c t) → Fine c hand_of (IsCallOf c) s.shared step.came
came_fine s t c h room step =
    let client : Client = step.client in
    let of = h.clients c client step.here in
    let le = h.script.form.few_mirrors in
    let few = h.script.form.few_clients in
    let good : IsCommand s.script.most s.script.targets (length s.script.clients) step.asked = is_command s.script c client.done step.asked h.script step.commanded in
    let fine = step_fine c s.shared step.asked s.script.most s.script.targets (length s.script.clients) le few good (is_client s c client h step.here) room.meta h.servers (place_in s) (call_now c client.call step.asked)
    (has_now c s.shared step.asked s.script.most s.script.targets (length s.script.clients) le few good client.call of.has)
    (is_now c s.shared step.asked s.script.most s.script.targets (length s.script.clients) le few good client.call of.call) in
    subst (λ (o : Outcome Running). Fine c hand_of (IsCallOf c) s.shared o) step.made fine

pub step_holds : (s t : State) (c : ℕ) → Holds s → HasRoom s.shared → StepIs s c t → Holds t
step_holds s t c h room step = left_holds s c step.client h step.here (first_now step.client.call (place_in s) step.client.first) step.came t (came_fine s t c h room step) step.left
