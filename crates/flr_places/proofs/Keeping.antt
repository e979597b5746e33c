-- Each step leaves each broken key with its place.
use Rattle.std.proofs.Common.{◌≡◌, ◌≢◌, ℕ, zero, suc, ◌-◌, ◌≤◌, Bool, true, false, cond, ◌==◌, Some, List, [], ◌∷◌, ◌++◌, length, map, ◌⊎◌, inl, inr, refl, sym, ap, subst, ◌∙◌, arith}
use Rattle.std.specs.Prelude.{slice_get}
use Rattle.std.specs.List.{AllByRecursion}
use Rattle.std.proofs.Math.ListN.{set}
use Rattle.std.proofs.lemmas.Bool.{cases_eq, eq-eqb, true≢false}
use Rattle.std.proofs.lemmas.List.{length-append}
use Rattle.layout_lease.specs.declared.lease.Lease.{Lease}
use Rattle.layout_lease.specs.Leases.{key_of, keys_of}
use Rattle.script_values.specs.declared.command.Command.{Command}
use Rattle.script_values.specs.Commands.{IsCommand}
use Rattle.call_steps.specs.Servers.{Servers}
use Rattle.call_steps.specs.Steps.{Outcome, Going, Fixed, Ended, Answered, Blocked}
use Rattle.flr_steps.specs.declared.client.Client.{Client}
use Rattle.flr_steps.specs.declared.client.Note.{Note}
use Rattle.flr_steps.specs.declared.client.Note.TheVariants.{Nothing, Adds, Closes}
use Rattle.flr_steps.specs.declared.client.Running.{Running}
use Rattle.flr_steps.specs.declared.client.Running.TheVariants as running
use Rattle.flr_steps.specs.Clients.{call_now, entry, first_now, going, over}
use Rattle.flr_steps.specs.Commands.{step_of}
use Rattle.flr_steps.specs.Owners.{AreOwn}
use Rattle.flr_steps.specs.States.{State, client_at, place_in, stepped}
use Rattle.flr_steps.specs.Steps.{LeavesState, StepIs}
use Rattle.flr_numbers.specs.Sentences.{HasRoom, Holds, IsCallOf, hand_of}
use Rattle.flr_numbers.proofs.Clients.{has_now, is_now}
use Rattle.flr_numbers.proofs.Commands.{is_command}
use Rattle.flr_places.specs.Sentences.{IsCookieOf, IsPlaced, Placed}
use Rattle.flr_places.proofs.Calls.{Keys, MayBreak, both_up, call_places, stays}
use Rattle.flr_places.proofs.Commands.{step_leaves}
use Rattle.flr_places.proofs.Opened.{OfOpen, OnOpen, now_open, step_on}
use Rattle.flr_places.proofs.Steps.{OnMeta}

-- ---- lists

all_both : {X : Type 0} (P Q R : X → Type 0) (xs : List X) → ((x : X) → P x → Q x → R x) → AllByRecursion P xs → AllByRecursion Q xs → AllByRecursion R xs
all_both P Q R [] to h k = tt
all_both P Q R (x ∷ xs) to h k = (to x h.0 k.0, all_both P Q R xs to h.1 k.1)

set_same : {X : Type 0} (xs : List X) (i : ℕ) (x y : X) → slice_get xs i ≡ Some x → slice_get (set xs i y) i ≡ Some y
set_same [] i x y e = absurd (cc)
set_same (w ∷ ws) zero x y e = refl
set_same (w ∷ ws) (suc i) x y e = set_same ws i x y e

set_other : {X : Type 0} (xs : List X) (i j : ℕ) (y : X) → j ≢ i → slice_get (set xs i y) j ≡ slice_get xs j
set_other [] i j y apart = refl
set_other (w ∷ ws) zero zero y apart = absurd (apart refl)
set_other (w ∷ ws) zero (suc j) y apart = refl
set_other (w ∷ ws) (suc i) zero y apart = refl
set_other (w ∷ ws) (suc i) (suc j) y apart = set_other ws i j y (λ same. apart (ap suc same))

pub new_same : (clients : List Client) (c : ℕ) (client new : Client) → client_at clients c ≡ Some client → client_at (set clients (c - 1) new) c ≡ Some new
new_same clients zero client new e = absurd (cc)
new_same clients (suc c) client new e =
    let one : suc c - 1 ≡ c = omega arith in
    subst (λ i. slice_get (set clients i new) c ≡ Some new) (sym one) (set_same clients c client new e)

pub new_other : (clients : List Client) (c k : ℕ) (client new : Client) → client_at clients c ≡ Some client → k ≢ c → client_at (set clients (c - 1) new) k ≡ client_at clients k
new_other clients zero k client new here apart = absurd (cc)
new_other clients (suc c) zero client new here apart = refl
new_other clients (suc c) (suc k) client new here apart =
    let one : suc c - 1 ≡ c = omega arith in
    subst (λ i. slice_get (set clients i new) k ≡ slice_get clients k) (sym one) (set_other clients c k new (λ same. apart (ap suc same)))

pub some_same : (x y : Client) → Some x ≡ Some y → x ≡ y
some_same x y e = cc

-- ---- where a call began

pub first_kept : (call : Running) (place first : ℕ) → (call ≡ running.Idle → ⊥) → first_now call place first ≡ first
first_kept running.Idle place first busy = absurd (busy refl)
first_kept (running.Read call) place first busy = refl
first_kept (running.Write call) place first busy = refl
first_kept (running.Truncate call) place first busy = refl
first_kept (running.Copy call) place first busy = refl
first_kept (running.Verify call) place first busy = refl

pub first_low : (call : Running) (place first : ℕ) → first ≤ place → first_now call place first ≤ place
first_low running.Idle place first low = omega arith
first_low (running.Read call) place first low = low
first_low (running.Write call) place first low = low
first_low (running.Truncate call) place first low = low
first_low (running.Copy call) place first low = low
first_low (running.Verify call) place first low = low

-- a client that has no key is that of none
all_busy : (Idle : Type 0) (c : ℕ) (leases : List Lease) → (Idle → map key_of (keys_of c leases) ≡ []) → AllByRecursion (λ (lease : Lease). lease.client ≡ c → Idle → ⊥) leases
all_busy Idle c [] none = tt
all_busy Idle c (l ∷ ls) none = by (l.client == c) refl none (all_busy Idle c ls)
  where
    never : key_of l ∷ map key_of (keys_of c ls) ≡ [] → ⊥
    never e = absurd (cc)

    by : (b : Bool) → (l.client == c) ≡ b → (Idle → map key_of (cond b (l ∷ keys_of c ls) (keys_of c ls)) ≡ []) → ((Idle → map key_of (keys_of c ls) ≡ []) → AllByRecursion (λ (lease : Lease). lease.client ≡ c → Idle → ⊥) ls) → AllByRecursion (λ (lease : Lease). lease.client ≡ c → Idle → ⊥) (l ∷ ls)
    by true is none rest = ((λ same idle. never (none idle)), rest (λ idle. absurd (never (none idle))))
    by false is none rest = ((λ same idle. true≢false (sym (eq-eqb l.client c same) ∙ is)), rest none)

-- ---- a step

module _ (s : State) (c : ℕ) (client : Client) (k : Placed s) (here : client_at s.clients c ≡ Some client) where
  module _ (new : Client) (is : new.first ≡ first_now client.call (place_in s) client.first) where
    -- a key may be broken by this step: its client's call began before
    may_break : (lease : Lease) → IsPlaced s.clients (length s.schedule) lease → (lease.client ≡ c → client.call ≡ running.Idle → ⊥) → MayBreak (set s.clients (c - 1) new) (place_in s) lease
    may_break lease p busy = by (cases_eq lease.client c)
      where
        by : (lease.client ≡ c) ⊎ (lease.client ≡ c → ⊥) → MayBreak (set s.clients (c - 1) new) (place_in s) lease
        by (inl same) =
            let one : p.client ≡ client = some_same p.client client (sym p.here ∙ ap (client_at s.clients) same ∙ here) in
            let level : p.client.first ≡ client.first = ap (λ (x : Client). x.first) one in
            let kept : new.first ≡ client.first = is ∙ first_kept client.call (place_in s) client.first (busy same) in
            let low = k.began lease.client p.client p.here in
            record {
              placed = record {
                client = new;
                here = subst (λ n. client_at (set s.clients (c - 1) new) n ≡ Some new) (sym same) (new_same s.clients c client new here);
                broken = λ place e. (let b = p.broken place e in let after = b.0 in let up = b.1 in (omega (arith, after, level, kept), omega (arith, up)));
              };
              before = omega (arith, low, level, kept);
            }
        by (inr apart) =
            let low = k.began lease.client p.client p.here in
            record {
              placed = record {
                client = p.client;
                here = new_other s.clients c lease.client client new here apart ∙ p.here;
                broken = λ place e. (let b = p.broken place e in let up = b.1 in (b.0, omega (arith, up)));
              };
              before = omega (arith, low);
            }

    stepped_places : (after : Servers) (note : Note) → Keys (set s.clients (c - 1) new) (place_in s) after.meta → OfOpen (IsCookieOf c) new.call → Placed (stepped s c new after note)
    stepped_places after note keys own = record {
      keys = subst (λ n. AllByRecursion (IsPlaced (set s.clients (c - 1) new) n) after.meta.leases.keys) (sym long) keys;
      began = λ n other e. by n other e (cases_eq n c);
      cookies = λ n other e. cookie n other e (cases_eq n c);
    }
      where
        long : length (s.schedule ++ c ∷ []) ≡ place_in s
        long = length-append s.schedule (c ∷ [])

        -- the client that stepped is the new one
        one : (n : ℕ) (other : Client) → client_at (set s.clients (c - 1) new) n ≡ Some other → n ≡ c → other ≡ new
        one n other e same =
            let found : client_at (set s.clients (c - 1) new) n ≡ Some new = subst (λ i. client_at (set s.clients (c - 1) new) i ≡ Some new) (sym same) (new_same s.clients c client new here) in
            some_same other new (sym e ∙ found)

        by : (n : ℕ) (other : Client) → client_at (set s.clients (c - 1) new) n ≡ Some other → (n ≡ c) ⊎ (n ≡ c → ⊥) → other.first ≤ length (s.schedule ++ c ∷ [])
        by n other e (inl same) =
            let level : other.first ≡ new.first = ap (λ (x : Client). x.first) (one n other e same) in
            let old = k.began c client here in
            let low = first_low client.call (place_in s) client.first (omega (arith, old)) in
            omega (arith, level, is, low, long)
        by n other e (inr apart) =
            let low = k.began n other (sym (new_other s.clients c n client new here apart) ∙ e) in
            omega (arith, low, long)

        cookie : (n : ℕ) (other : Client) → client_at (set s.clients (c - 1) new) n ≡ Some other → (n ≡ c) ⊎ (n ≡ c → ⊥) → OfOpen (IsCookieOf n) other.call
        cookie n other e (inl same) = subst (λ i. OfOpen (IsCookieOf i) other.call) (sym same) (subst (λ (x : Client). OfOpen (IsCookieOf c) x.call) (sym (one n other e same)) own)
        cookie n other e (inr apart) = k.cookies n other (sym (new_other s.clients c n client new here apart) ∙ e)

  module _ (h : Holds s) (asked : Command) (of : IsCallOf c (call_now c client.call asked)) (keys : AreOwn c (hand_of (call_now c client.call asked)).keys) where
    -- the cookie of the call that steps is its client's
    mine : OfOpen (IsCookieOf c) (call_now c client.call asked)
    mine = now_open (IsCookieOf c) c asked client.call (k.cookies c client here)

    -- and stays so
    keeps : OnOpen (λ m. IsCookieOf c) (λ (x : Running). x) (step_of (call_now c client.call asked) c asked (place_in s) s.shared)
    keeps = step_on (λ m. IsCookieOf c) c s.shared h.servers.sound (λ other m f same there. same) (place_in s) (call_now c client.call asked) asked of mine

    -- what the step leaves of the keys
    leaves : (new : Client) → new.first ≡ first_now client.call (place_in s) client.first
        → OnMeta (Keys (set s.clients (c - 1) new) (place_in s)) (step_of (call_now c client.call asked) c asked (place_in s) s.shared)
    leaves new is =
        let clients : List Client = set s.clients (c - 1) new in
        let there : client_at clients c ≡ Some new = new_same s.clients c client new here in
        let has = (h.clients c client here).has in
        let busy = all_busy (client.call ≡ running.Idle) c s.shared.meta.leases.keys (λ idle. has.keys ∙ ap (λ (call : Running). (hand_of call).keys) idle) in
        let may = all_both (IsPlaced s.clients (length s.schedule)) (λ (lease : Lease). lease.client ≡ c → client.call ≡ running.Idle → ⊥) (MayBreak clients (place_in s)) s.shared.meta.leases.keys (may_break new is) k.keys busy in
        let now = stays clients (place_in s) c new there s.shared.meta may in
        step_leaves (Keys clients (place_in s)) asked c (place_in s) s.shared (record { same = now; calls = call_places clients (place_in s) c new there s.shared.meta may asked })
        (λ ours theirs. both_up clients (place_in s) c new there s.shared.meta ours theirs now) (call_now c client.call asked) of mine keys

    left_places : (came : Outcome Running) (t : State) → step_of (call_now c client.call asked) c asked (place_in s) s.shared ≡ came → LeavesState s c client (first_now client.call (place_in s) client.first) came t → Placed t
    left_places came t made left = by came made (subst (λ (o : Outcome Running). OnOpen (λ m. IsCookieOf c) (λ (x : Running). x) o) made keeps) left
      where
        first : ℕ
        first = first_now client.call (place_in s) client.first

        at : (new : Client) → new.first ≡ first → (came : Outcome Running) → step_of (call_now c client.call asked) c asked (place_in s) s.shared ≡ came → OnMeta (Keys (set s.clients (c - 1) new) (place_in s)) came
        at new is came made = subst (λ (o : Outcome Running). OnMeta (Keys (set s.clients (c - 1) new) (place_in s)) o) made (leaves new is)

        by : (came : Outcome Running) → step_of (call_now c client.call asked) c asked (place_in s) s.shared ≡ came → OnOpen (λ m. IsCookieOf c) (λ (x : Running). x) came → LeavesState s c client first came t → Placed t
        by (Going next after) made own left = subst Placed (sym left) (stepped_places (going client first next) refl after Nothing (at (going client first next) refl (Going next after) made) own)
        by (Fixed next reply takes after) made own left = subst Placed (sym left) (stepped_places (going client first next) refl after (Adds (entry c client first (place_in s) 0 reply takes)) (at (going client first next) refl (Fixed next reply takes after) made) own)
        by (Ended after) made own left = subst Placed (sym left) (stepped_places (over client first) refl after Closes (at (over client first) refl (Ended after) made) tt)
        by (Answered reply takes after) made own left = subst Placed (sym left) (stepped_places (over client first) refl after (Adds (entry c client first (place_in s) (place_in s) reply takes)) (at (over client first) refl (Answered reply takes after) made) tt)
        by (Blocked holder) made own left = absurd left

pub step_places : (s t : State) (c : ℕ) → Holds s → HasRoom s.shared → Placed s → StepIs s c t → Placed t
step_places s t c h room k step =
    let client : Client = step.client in
    let of = h.clients c client step.here in
    let le = h.script.form.few_mirrors in
    let few = h.script.form.few_clients in
    let good : IsCommand s.script.most s.script.targets (length s.script.clients) step.asked = is_command s.script c client.done step.asked h.script step.commanded in
    let is : IsCallOf c (call_now c client.call step.asked) = is_now c s.shared step.asked s.script.most s.script.targets (length s.script.clients) le few good client.call of.call in
    let has = has_now c s.shared step.asked s.script.most s.script.targets (length s.script.clients) le few good client.call of.has in
    left_places s c client k step.here h step.asked is has.own step.came t step.made step.left
