-- No run is longer than its script's work.
use Rattle.std.proofs.Common.{◌≡◌, ℕ, zero, suc, ◌+◌, ◌-◌, ◌≤◌, Some, List, [], ◌∷◌, ◌++◌, length, set, ◌⊎◌, inl, inr, refl, sym, ap, subst, ◌∙◌, arith, length-append}
use Rattle.std.specs.Prelude.{replicate, slice_get, slice_index_or}
use Rattle.std.specs.Option.{option_and_then}
use Rattle.std.proofs.lemmas.Bool.{cases_eq}
use Rattle.flr_base.specs.declared.reply.Reply.TheVariants as reply
use Rattle.meta_server.specs.declared.answers.Opened.{Opened}
use Rattle.meta_server.specs.Files.{MetaView}
use Rattle.meta_laws.specs.Calls.{Evict, after_call}
use Rattle.call_steps.specs.Servers.{Servers}
use Rattle.call_steps.specs.Steps.{Outcome, Going, Fixed, Ended, Answered, Blocked}
use Rattle.script_values.specs.declared.command.Command.{Command}
use Rattle.script_values.specs.declared.command.Command.TheVariants as command
use Rattle.script_values.specs.Scripts.{IsScript, ScriptView, work_of}
use Rattle.flr_steps.specs.declared.client.Client.{Client}
use Rattle.flr_steps.specs.declared.client.Note.{Note}
use Rattle.flr_steps.specs.declared.client.Note.TheVariants.{Nothing, Adds, Closes}
use Rattle.flr_steps.specs.declared.client.Running.{Running}
use Rattle.flr_steps.specs.declared.client.Running.TheVariants as running
use Rattle.flr_steps.specs.Clients.{call_now, entry, first_now, going, over}
use Rattle.flr_steps.specs.Commands.{at_once, step_of}
use Rattle.flr_steps.specs.States.{State, IsRun, Next, Stepped, Finished, Unknown, after, client_at, new_client, next, place_in, start, state_of, stepped}
use Rattle.flr_steps.specs.States as states
use Rattle.flr_steps.specs.Steps.{LeavesState, StepIs}
use Rattle.flr_steps.proofs.Inversion.{step_is}
use Rattle.flr_steps.proofs.Runs.{after_more}
use Rattle.flr_bound.specs.Numbers.{begun_count}
use Rattle.flr_bound.proofs.Commands.{IsUnderWay, step_next}
use Rattle.flr_bound.proofs.Outcomes.{OnNext}
use Rattle.flr_bound.proofs.Runs.{IsHeld, at_place, busy_count, run_held}
use Rattle.flr_work.specs.Known.{IsKnown, KnownCall}
use Rattle.flr_work.specs.Left.{again, has_cookie}
use Rattle.flr_work.specs.Paying.{Leaves, dues}
use Rattle.flr_work.proofs.Costs.{leaves_by}
use Rattle.flr_ends.specs.Laws.{RunsEnd}
use Rattle.flr_ends.proofs.Calls.{OwnsCall, base_at, call_left, client_left, most_base, prices_after}
use Rattle.flr_ends.proofs.Fares.{Pays, Spared, budget, step_pays}
use Rattle.flr_ends.proofs.Others.{again_costs, again_stays, call_stays}
use Rattle.flr_ends.proofs.Prices.{base_most, budget_in, next_price, start_within}
use Rattle.flr_ends.proofs.Totals.{no_tolls, one_toll, toll_for, toll_there, tolls, total, total_but, total_set}

-- the commands of the client at this place
abbrev owns_at : ScriptView → ℕ → List Command
owns_at script k = slice_index_or script.clients k []

-- the base of its next command
abbrev base_of_next : ScriptView → ℕ → Client → ℕ
base_of_next script k x = base_at script (slice_get (owns_at script k) x.done)

-- what is left of a state
abbrev left_in : State → ℕ
left_in s = total (client_left s.script s.shared.meta) s.script.clients s.clients + dues (most_base s.script) s.script.fails s.shared.targets

-- the steps so far, with what is left, are within the script's work; and each client's call is its own
record IsPaid (script : ScriptView) (s : State) : Type 0 where
  pub same : s.script ≡ script
  pub owned : (k : ℕ) (x : Client) → slice_get s.clients k ≡ Some x → OwnsCall s.script (suc k) (base_of_next s.script k x) x.call
  pub paid : length s.schedule + left_in s ≤ work_of s.script

-- ---- lists of clients

set_by : (P : ℕ → Client → Type 0) (clients : List Client) (i j : ℕ) (new found : Client) → ((k : ℕ) (x : Client) → slice_get clients k ≡ Some x → P k x) → P i new → slice_get (set clients i new) j ≡ Some found → P j found
set_by P [] i j new found each one there = absurd (cc there)
set_by P (x ∷ xs) zero zero new found each one there = let same : new ≡ found = cc there in subst (λ (k : Client). P 0 k) same one
set_by P (x ∷ xs) zero (suc j) new found each one there = each (suc j) found there
set_by P (x ∷ xs) (suc i) zero new found each one there = each 0 found there
set_by P (x ∷ xs) (suc i) (suc j) new found each one there = set_by (λ k y. P (suc k) y) xs i j new found (λ k y at. each (suc k) y at) one there

set_there : (clients : List Client) (i : ℕ) (old new : Client) → slice_get clients i ≡ Some old → slice_get (set clients i new) i ≡ Some new
set_there [] i old new e = absurd (cc e)
set_there (x ∷ xs) zero old new e = refl
set_there (x ∷ xs) (suc i) old new e = set_there xs i old new e

-- a client that is there has a number from 1 on
number_at : (clients : List Client) (c : ℕ) (client : Client) → client_at clients c ≡ Some client → suc (c - 1) ≡ c
number_at clients zero client e = absurd (cc e)
number_at clients (suc c) client e = omega arith

client_there : (clients : List Client) (c : ℕ) (old new : Client) → client_at clients c ≡ Some old → client_at (set clients (c - 1) new) c ≡ Some new
client_there clients zero old new e = absurd (cc e)
client_there clients (suc c) old new e = let same : suc c - 1 ≡ c = omega arith in ap (λ (i : ℕ). slice_get (set clients i new) c) same ∙ set_there clients c old new e

-- ---- which step it is

-- an eviction, or not
evicts_or : (call : Running) (asked : Command) → (call ≡ running.Idle → Spared asked) ⊎ ((other : ℕ) × (call ≡ running.Idle) × (asked ≡ command.Evict other))
evicts_or running.Idle (command.Read name offset len) = inl (λ e. tt)
evicts_or running.Idle (command.Write name offset bytes) = inl (λ e. tt)
evicts_or running.Idle (command.Truncate name size) = inl (λ e. tt)
evicts_or running.Idle (command.Lfs of) = inl (λ e. tt)
evicts_or running.Idle (command.Rot object offset byte) = inl (λ e. tt)
evicts_or running.Idle (command.Evict other) = inr (other, refl, refl)
evicts_or (running.Read call) asked = inl (λ e. absurd (cc e))
evicts_or (running.Write call) asked = inl (λ e. absurd (cc e))
evicts_or (running.Truncate call) asked = inl (λ e. absurd (cc e))
evicts_or (running.Copy call) asked = inl (λ e. absurd (cc e))
evicts_or (running.Verify call) asked = inl (λ e. absurd (cc e))

-- ---- one step

module _ (script : ScriptView) (s t : State) (c : ℕ) (run : IsRun s) (h : IsPaid script s) (known : IsKnown s) (then_known : IsKnown t) (st : StepIs s c t) where
  abbrev client : Client
  client = st.client

  abbrev own : List Command
  own = owns_at s.script (c - 1)

  abbrev base : ℕ
  base = base_of_next s.script (c - 1) client

  abbrev cost : ℕ
  cost = most_base s.script

  abbrev first : ℕ
  first = first_now client.call (place_in s) client.first

  there : slice_get s.clients (c - 1) ≡ Some client
  there = at_place s.clients c client st.here

  number : suc (c - 1) ≡ c
  number = number_at s.clients c client st.here

  own_call : OwnsCall s.script c base client.call
  own_call = subst (λ (n : ℕ). OwnsCall s.script n base client.call) number (h.owned (c - 1) client there)

  base_is : base ≡ base_at s.script (Some st.asked)
  base_is = ap (base_at s.script) st.commanded

  within : base ≤ cost
  within = base_most s.script (c - 1) client.done (slice_get own client.done) refl

  -- the servers and one client change
  steps : (new : Client) (after : Servers) (note : Note) (toll : ℕ → ℕ) (extra : ℕ)
      → ((k : ℕ) (x : Client) → slice_get s.clients k ≡ Some x → (k ≡ c - 1 → ⊥) → client_left s.script after.meta (owns_at s.script k) x ≤ client_left s.script s.shared.meta (owns_at s.script k) x + toll k)
      → tolls toll (length s.clients) ≤ extra
      → ((client_left s.script after.meta own new + 1) + dues cost s.script.fails after.targets) + extra ≤ client_left s.script s.shared.meta own client + dues cost s.script.fails s.shared.targets
      → OwnsCall s.script c (base_of_next s.script (c - 1) new) new.call → t ≡ stepped s c new after note → IsPaid script t
  steps new after note toll extra each few pays owns e = subst (IsPaid script) (sym e) (record {
    same = h.same;
    owned = λ k x at. set_by (λ k x. OwnsCall s.script (suc k) (base_of_next s.script k x) x.call) s.clients (c - 1) k new x h.owned (subst (λ (n : ℕ). OwnsCall s.script n (base_of_next s.script (c - 1) new) new.call) (sym number) owns) at;
    paid = (
        let changed = total_set (client_left s.script after.meta) s.script.clients s.clients (c - 1) client.done client new st.asked there st.commanded in
        let others = total_but (client_left s.script s.shared.meta) (client_left s.script after.meta) s.script.clients s.clients toll (c - 1) client.done client st.asked there st.commanded each in
        let more : length (s.schedule ++ c ∷ []) ≡ length s.schedule + 1 = length-append s.schedule (c ∷ []) in
        let before = h.paid in
        omega (arith, changed, others, few, pays, more, before));
  })

  -- whose cookies stay has no more left
  stays : (after : MetaView) (d : ℕ) (k : ℕ) (x : Client) → slice_get s.clients k ≡ Some x
      → ((o : Opened) → o.cookie.client ≡ suc k → again (base_of_next s.script k x) (has_cookie o after) ≤ again (base_of_next s.script k x) (has_cookie o s.shared.meta) + d)
      → client_left s.script after (owns_at s.script k) x ≤ client_left s.script s.shared.meta (owns_at s.script k) x + d
  stays after d k x at cookies = let call = call_stays s.script (suc k) (base_of_next s.script k x) d s.shared.meta after cookies x.call (h.owned k x at) in omega (arith, call)

  -- cookies of others than this client stay
  left_so : (e : ℕ) (after : MetaView) → Leaves e s.shared.meta after → (k : ℕ) (x : Client) → slice_get s.clients k ≡ Some x → (suc k ≡ e → ⊥) → client_left s.script after (owns_at s.script k) x ≤ client_left s.script s.shared.meta (owns_at s.script k) x + 0
  left_so e after leaves k x at other = stays after 0 k x at (λ o mine. (
      let k = again_stays (base_of_next s.script k x) (has_cookie o s.shared.meta) (has_cookie o after) (leaves o.file o.cookie (λ same. other (sym mine ∙ same))) in
      omega (arith, k)))

  -- the call that goes on is known
  next_known : (new : Client) (after : Servers) (note : Note) → t ≡ stepped s c new after note → KnownCall s.script after new.call
  next_known new after note e = (subst IsKnown e then_known).each c new (client_there s.clients c client new st.here)

  -- where nobody is evicted
  others_stay : (after : Servers) → Leaves c s.shared.meta after.meta → (k : ℕ) (x : Client) → slice_get s.clients k ≡ Some x → (k ≡ c - 1 → ⊥) → client_left s.script after.meta (owns_at s.script k) x ≤ client_left s.script s.shared.meta (owns_at s.script k) x + 0
  others_stay after leaves k x at other = left_so c after.meta leaves k x at (λ same. other (omega (arith, same)))

  has : budget s.script base client.call s.shared.meta + prices_after s.script own (client.done + 1) ≤ client_left s.script s.shared.meta own client
  has = budget_in s.script s.shared.meta own client.call client.done st.asked st.commanded

  -- it goes on
  goes : (next : Running) (after : Servers) (note : Note) → Leaves c s.shared.meta after.meta → OwnsCall s.script c base next
      → (KnownCall s.script after next → (call_left s.script base next after.meta + 1) + dues cost s.script.fails after.targets ≤ budget s.script base client.call s.shared.meta + dues cost s.script.fails s.shared.targets)
      → IsUnderWay next → t ≡ stepped s c (going client first next) after note → IsPaid script t
  goes next after note leaves owns pays way e =
      steps (going client first next) after note (λ k. 0) 0 (others_stay after leaves) (let none = no_tolls (length s.clients) in omega (arith, none))
      (let one = pays (next_known (going client first next) after note e) in
      let count : prices_after s.script own (begun_count next client.done) ≡ prices_after s.script own (client.done + 1) = ap (prices_after s.script own) (busy_count next client.done way.0) in
      let all = has in
      omega (arith, one, count, all))
      owns e

  -- it has ended
  ends : (after : Servers) (note : Note) → Leaves c s.shared.meta after.meta → 1 + dues cost s.script.fails after.targets ≤ budget s.script base client.call s.shared.meta + dues cost s.script.fails s.shared.targets
      → t ≡ stepped s c (over client first) after note → IsPaid script t
  ends after note leaves pays e =
      steps (over client first) after note (λ k. 0) 0 (others_stay after leaves) (let none = no_tolls (length s.clients) in omega (arith, none)) (let all = has in omega (arith, pays, all)) tt e

  by_outcome : (came : Outcome Running) → Pays s.script c (place_in s) base cost s.script.fails s.shared (budget s.script base client.call s.shared.meta) came → OnNext IsUnderWay came → LeavesState s c client first came t → IsPaid script t
  by_outcome (Going next after) pays way left = goes next after Nothing pays.leaves pays.own pays.pays way left
  by_outcome (Fixed next reply takes after) pays way left = goes next after (Adds (entry c client first (place_in s) 0 reply takes)) pays.leaves pays.own pays.pays way left
  by_outcome (Ended after) pays way left = ends after Closes pays.leaves pays.pays left
  by_outcome (Answered reply takes after) pays way left = ends after (Adds (entry c client first (place_in s) (place_in s) reply takes)) pays.leaves pays.pays left
  by_outcome (Blocked holder) pays way left = absurd left

  spares : (client.call ≡ running.Idle → Spared st.asked) → IsPaid script t
  spares spared =
      let held : IsHeld s = run_held s run in
      by_outcome st.came
      (subst (Pays s.script c (place_in s) base cost s.script.fails s.shared (budget s.script base client.call s.shared.meta)) st.made
      (step_pays s.script c (place_in s) cost s.script.fails s.shared held.numbered (λ id less. held.fails id (let many = held.many in omega (arith, less, many))) client.call st.asked base base_is spared within own_call (known.each c client st.here)))
      (subst (OnNext IsUnderWay) st.made (step_next c (place_in s) s.shared client.call st.asked))
      st.left

  -- somebody is evicted
  module _ (other : ℕ) (idle : client.call ≡ running.Idle) (evicts : st.asked ≡ command.Evict other) where
    abbrev evicted : Servers
    evicted = record s.shared { meta = after_call (Evict other (place_in s)) s.shared.meta }

    leaves_others : Leaves other s.shared.meta evicted.meta
    leaves_others = leaves_by other (Evict other (place_in s)) s.shared.meta evicted.meta refl (λ number cookie apart. apart)

    each_pays : (k : ℕ) (x : Client) → slice_get s.clients k ≡ Some x → (k ≡ c - 1 → ⊥) → client_left s.script evicted.meta (owns_at s.script k) x ≤ client_left s.script s.shared.meta (owns_at s.script k) x + toll_for cost (other - 1) k
    each_pays k x at apart = by (cases_eq k (other - 1))
      where
        by : (k ≡ other - 1) ⊎ (k ≡ other - 1 → ⊥) → client_left s.script evicted.meta (owns_at s.script k) x ≤ client_left s.script s.shared.meta (owns_at s.script k) x + toll_for cost (other - 1) k
        by (inl same) =
            let toll : toll_for cost (other - 1) k ≡ cost = ap (toll_for cost (other - 1)) same ∙ toll_there cost (other - 1) in
            let most = base_most s.script k x.done (slice_get (owns_at s.script k) x.done) refl in
            let less = stays evicted.meta (base_of_next s.script k x) k x at (λ o mine. again_costs (base_of_next s.script k x) (has_cookie o s.shared.meta) (has_cookie o evicted.meta)) in
            omega (arith, toll, most, less)
        by (inr differ) = let less = left_so other evicted.meta leaves_others k x at (λ same. differ (omega (arith, same))) in omega (arith, less)

    came_is : at_once c (command.Evict other) (place_in s) s.shared ≡ st.came
    came_is =
        sym (ap (λ (k : Running). step_of (call_now c k st.asked) c st.asked (place_in s) s.shared) idle ∙ ap (λ (a : Command). step_of (call_now c running.Idle a) c a (place_in s) s.shared) evicts) ∙ st.made

    evicted_paid : IsPaid script t
    evicted_paid =
        let left = subst (λ (o : Outcome Running). LeavesState s c client first o t) (sym came_is) st.left in
        steps (over client first) evicted (Adds (entry c client first (place_in s) (place_in s) (reply.EvictedClient other) [])) (toll_for cost (other - 1)) cost each_pays (one_toll cost (other - 1) (length s.clients))
        (let count : client_left s.script s.shared.meta own client ≡ prices_after s.script own client.done = (let one : call_left s.script base client.call s.shared.meta ≡ 0 = ap (λ (k : Running). call_left s.script base k s.shared.meta) idle in let two : prices_after s.script own (begun_count client.call client.done) ≡ prices_after s.script own client.done = ap (λ (k : Running). prices_after s.script own (begun_count k client.done)) idle in omega (arith, one, two)) in
        let next = next_price s.script own client.done (command.Evict other) (st.commanded ∙ ap (λ (a : Command). Some a) evicts) in
        omega (arith, count, next))
        tt left

  step_paid : IsPaid script t
  step_paid = by (evicts_or client.call st.asked)
    where
      by : (client.call ≡ running.Idle → Spared st.asked) ⊎ ((other : ℕ) × (client.call ≡ running.Idle) × (st.asked ≡ command.Evict other)) → IsPaid script t
      by (inl spared) = spares spared
      by (inr e) = evicted_paid e.0 e.1 e.2

-- ---- every state

-- the script stays, and the schedule has one place more
record Follows (s : State) (c : ℕ) (t : State) : Type 0 where
  pub script : t.script ≡ s.script
  pub schedule : t.schedule ≡ s.schedule ++ c ∷ []

follows : (s t : State) (c : ℕ) (was : Client) (since : ℕ) (came : Outcome Running) → LeavesState s c was since came t → Follows s c t
follows s t c was since (Going next after) e = record { script = ap (λ (x : State). x.script) e; schedule = ap (λ (x : State). x.schedule) e }
follows s t c was since (Fixed next reply takes after) e = record { script = ap (λ (x : State). x.script) e; schedule = ap (λ (x : State). x.schedule) e }
follows s t c was since (Ended after) e = record { script = ap (λ (x : State). x.script) e; schedule = ap (λ (x : State). x.schedule) e }
follows s t c was since (Answered reply takes after) e = record { script = ap (λ (x : State). x.script) e; schedule = ap (λ (x : State). x.schedule) e }
follows s t c was since (Blocked holder) e = absurd e

follows_run : (s t : State) (c : ℕ) → IsRun s → next s c ≡ Stepped t → Follows s c t → IsRun t
follows_run s t c run is f = record {
  limits = subst IsScript (sym f.script) run.limits;
  run = ap (λ (x : ScriptView). after (start x) t.schedule) f.script ∙ ap (λ (cs : List ℕ). after (start s.script) cs) f.schedule ∙ after_more (start s.script) s t s.schedule c run.run is;
}

module _ (script : ScriptView) (all : (s : State) → IsRun s → s.script ≡ script → length s.schedule ≤ work_of script + 1 → IsKnown s) where
  one : (s t : State) (c : ℕ) → IsRun s → IsPaid script s → next s c ≡ Stepped t → IsRun t × IsPaid script t
  one s t c run h is =
      let st : StepIs s c t = step_is s t c is in
      let f : Follows s c t = follows s t c st.client (first_now st.client.call (place_in s) st.client.first) st.came st.left in
      let then : IsRun t = follows_run s t c run is f in
      let paid = h.paid in
      let work : work_of s.script ≡ work_of script = ap work_of h.same in
      let more : length t.schedule ≡ length s.schedule + 1 = ap (λ (cs : List ℕ). length cs) f.schedule ∙ length-append s.schedule (c ∷ []) in
      (then, step_paid script s t c run h (all s run h.same (omega (arith, paid, work))) (all t then (f.script ∙ h.same) (omega (arith, paid, work, more))) st)

  by_next : (cs : List ℕ) (s t : State) (c : ℕ) → IsRun s → IsPaid script s → (n : Next) → next s c ≡ n → ((mid : State) → IsRun mid → IsPaid script mid → after mid cs ≡ Some t → IsPaid script t) → option_and_then (λ mid. after mid cs) (state_of n) ≡ Some t → IsPaid script t
  by_next cs s t c run h (Stepped mid) is rest e = let k = one s mid c run h is in rest mid k.0 k.1 e
  by_next cs s t c run h (states.Blocked holder) is rest e = absurd (cc e)
  by_next cs s t c run h Finished is rest e = absurd (cc e)
  by_next cs s t c run h Unknown is rest e = absurd (cc e)

  always_paid : (cs : List ℕ) (s t : State) → IsRun s → IsPaid script s → after s cs ≡ Some t → IsPaid script t
  always_paid [] s t run h e = let same : s ≡ t = cc e in subst (IsPaid script) same h
  always_paid (c ∷ cs) s t run h e = by_next cs s t c run h (next s c) refl (λ mid r q m. always_paid cs mid t r q m) e

new_at : (P : Client → Type 0) (n k : ℕ) (x : Client) → P new_client → slice_get (replicate n new_client) k ≡ Some x → P x
new_at P zero k x h e = absurd (cc e)
new_at P (suc n) zero x h e = let same : new_client ≡ x = cc e in subst P same h
new_at P (suc n) (suc k) x h e = new_at P n k x h e

start_paid : (script : ScriptView) → IsPaid script (start script)
start_paid script = record {
  same = refl;
  owned = λ k x e. new_at (λ (x : Client). OwnsCall script (suc k) (base_of_next script k x) x.call) (length script.clients) k x tt e;
  paid = (let all = start_within script (start script).shared.meta (start script).shared.targets in omega (arith, all));
}

pub runs_within : RunsEnd
runs_within script all s run same =
    let begun : IsRun (start s.script) = record { limits = run.limits; run = refl } in
    let first : IsPaid script (start s.script) = subst (λ (x : ScriptView). IsPaid x (start s.script)) same (start_paid s.script) in
    let h : IsPaid script s = always_paid script all s.schedule (start s.script) s begun first run.run in
    let paid = h.paid in
    let work : work_of s.script ≡ work_of script = ap work_of same in
    omega (arith, paid, work)
