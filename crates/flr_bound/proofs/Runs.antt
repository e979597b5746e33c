-- What holds of the numbers in every state of a run.
use Rattle.std.proofs.Common.{◌≡◌, ℕ, zero, suc, ◌+◌, ◌-◌, ◌*◌, ◌≤◌, ◌<◌, false, true≢false, Some, List, [], ◌∷◌, ◌++◌, length, map, set, get_or, refl, sym, ap, subst, ◌∙◌, arith, length-append}
use Rattle.std.specs.Prelude.{replicate, slice_get, unwrap_or}
use Rattle.std.specs.List.{AllByRecursion, range_with_len, sum}
use Rattle.std.proofs.lemmas.List.{length-replicate}
use Rattle.std.proofs.lemmas.List.Folds.{sum_by-replicate}
use Rattle.std.proofs.lemmas.List.FromFn.{get_or-map-range_with_len, length-map-range_with_len}
use Rattle.std.proofs.lemmas.List.Sums.{sum_by-cons}
use Rattle.std.proofs.lemmas.Option.{unwrap_or-slice_get}
use Rattle.object_target.specs.declared.fail.Fail.{Fail}
use Rattle.object_target.specs.Fails.{fails_on}
use Rattle.object_target.specs.TargetState.{TargetState, new_target, new_targets, next_call}
use Rattle.meta_growth.specs.Growth.{AreNumbered, Grows, IsUpTo, most_by_call}
use Rattle.meta_growth.proofs.Steps.{all_up_to}
use Rattle.call_steps.specs.Servers.{Servers, target_at}
use Rattle.call_steps.specs.Steps.{Outcome, Going, Fixed, Ended, Answered, Blocked}
use Rattle.script_values.specs.declared.command.Command.{Command}
use Rattle.script_values.specs.Scripts.{ScriptView, command_after, commands_of}
use Rattle.flr_steps.specs.declared.client.Client.{Client}
use Rattle.flr_steps.specs.declared.client.Note.{Note}
use Rattle.flr_steps.specs.declared.client.Note.TheVariants.{Nothing, Adds, Closes}
use Rattle.flr_steps.specs.declared.client.Running.{Running}
use Rattle.flr_steps.specs.declared.client.Running.TheVariants as running
use Rattle.flr_steps.specs.Clients.{entry, first_now, going, over}
use Rattle.flr_steps.specs.States.{State, IsRun, client_at, new_client, place_in, start, stepped}
use Rattle.flr_steps.specs.Steps.{LeavesState, StepIs}
use Rattle.flr_steps.specs.Traces.{is_idle}
use Rattle.flr_steps.proofs.Induction.{always}
use Rattle.flr_bound.specs.Numbers.{AreNamed, AreWithin, begun_count, stripes_after}
use Rattle.flr_bound.proofs.Coming.{come_all, come_next, come_set}
use Rattle.flr_bound.proofs.Commands.{IsBegun, IsUnderWay, step_does, step_next, stripes_now}
use Rattle.flr_bound.proofs.Outcomes.{Does, OnLeft, OnNext}

-- what is kept by each step: numbers by the places so far, and objects that were made or may be by the stripes that are named
pub record IsHeld (s : State) : Type 0 where
  pub numbered : AreNumbered s.shared.meta
  pub targets : length s.shared.meta.nexts ≡ s.script.targets
  pub files : s.shared.meta.next_file ≤ length s.schedule + 1
  pub keys : s.shared.meta.leases.next ≤ 2 * length s.schedule + 1
  pub each : AllByRecursion (IsUpTo (3 * length s.schedule + 1) (length s.schedule + 1)) s.shared.meta.files
  pub calls : (id : ℕ) → next_call (target_at s.shared.targets id) ≤ length s.schedule + 1
  pub many : length s.shared.targets ≡ s.script.targets
  pub fails : (id : ℕ) → id < s.script.targets → (target_at s.shared.targets id).fails ≡ fails_on id s.script.fails
  pub named : AreNamed s
  pub begun : AllByRecursion (λ (client : Client). IsBegun client.call) s.clients

-- ---- lists of clients

pub all_got : (P : Client → Type 0) (xs : List Client) (i : ℕ) (x : Client) → AllByRecursion P xs → slice_get xs i ≡ Some x → P x
all_got P [] i x h e = absurd (cc)
all_got P (y ∷ ys) zero x h e = let same : y ≡ x = cc in subst P same h.0
all_got P (y ∷ ys) (suc i) x h e = all_got P ys i x h.1 e

pub all_put : (P : Client → Type 0) (xs : List Client) (i : ℕ) (x : Client) → AllByRecursion P xs → P x → AllByRecursion P (set xs i x)
all_put P [] i x h k = tt
all_put P (y ∷ ys) zero x h k = (k, h.1)
all_put P (y ∷ ys) (suc i) x h k = (h.0, all_put P ys i x h.1 k)

pub all_alike : (P : Client → Type 0) (n : ℕ) (x : Client) → P x → AllByRecursion P (replicate n x)
all_alike P zero x k = tt
all_alike P (suc n) x k = (k, all_alike P n x k)

-- a client by its number is found at its place
pub at_place : (clients : List Client) (c : ℕ) (client : Client) → client_at clients c ≡ Some client → slice_get clients (c - 1) ≡ Some client
at_place clients zero client e = absurd (cc)
at_place clients (suc c) client e = let same : suc c - 1 ≡ c = omega arith in rw same e

-- ---- the start

no_calls : (fails : List Fail) (ids : List ℕ) (i : ℕ) (d : TargetState) → d.calls ≡ [] → (unwrap_or (slice_get (map (λ id. new_target id fails) ids) i) d).calls ≡ []
no_calls fails [] i d e = e
no_calls fails (id ∷ ids) zero d e = refl
no_calls fails (id ∷ ids) (suc i) d e = no_calls fails ids i d e

listed_at : (fails : List Fail) (n id : ℕ) (d : TargetState) → id < n → (unwrap_or (slice_get (map (λ id. new_target id fails) (range_with_len 0 n)) id) d).fails ≡ fails_on id fails
listed_at fails n id d less =
    ap (λ (x : TargetState). x.fails) (unwrap_or-slice_get (map (λ id. new_target id fails) (range_with_len 0 n)) id d ∙ get_or-map-range_with_len (λ id. new_target id fails) 0 n id id d less (omega arith))

start_held : (script : ScriptView) → IsHeld (start script)
start_held script = record {
  numbered = record { ascending = tt; below = tt };
  targets = length-replicate {A = ℕ} script.targets 1;
  files = omega arith;
  keys = omega arith;
  each = tt;
  calls = λ id. (let none : length (target_at (new_targets script.targets script.fails) id).calls ≡ 0 = ap length (no_calls script.fails (range_with_len 0 script.targets) id (new_target id []) refl) in omega (arith, none));
  many = length-map-range_with_len (λ id. new_target id script.fails) 0 script.targets;
  fails = λ id less. listed_at script.fails script.targets id (new_target id []) less;
  named = (
      let ones = sum_by-replicate (λ (n : ℕ). n) script.targets 1 in
      let all = come_all script.targets script.clients in
      record { made = omega (arith, ones, all); whole = omega (arith, all) });
  begun = all_alike (λ (client : Client). IsBegun client.call) (length script.clients) new_client tt;
}

-- ---- one step

stepped_held : (s : State) (c : ℕ) (client new : Client) (asked : Command) (after : Servers) (note : Note) → IsHeld s → client_at s.clients c ≡ Some client → command_after s.script c client.done ≡ Some asked
    → Does (stripes_now (length s.shared.meta.nexts) client.call asked) s.shared after → IsBegun new.call → begun_count new.call new.done ≡ client.done + 1 → IsHeld (stepped s c new after note)
stepped_held s c client new asked after note h here commanded does begun count =
    let n : ℕ = length s.schedule in
    let more : length (s.schedule ++ c ∷ []) ≡ n + 1 = length-append s.schedule (c ∷ []) in
    let g : Grows (most_by_call (stripes_now (length s.shared.meta.nexts) client.call asked)) s.shared.meta after.meta = does.meta h.numbered in
    let at : slice_get s.clients (c - 1) ≡ Some client = at_place s.clients c client here in
    let own : List Command = commands_of s.script c in
    let named : stripes_now (length s.shared.meta.nexts) client.call asked ≡ stripes_now s.script.targets client.call asked = ap (λ (k : ℕ). stripes_now k client.call asked) h.targets in
    let come = come_set s.script.targets s.script.clients s.clients (c - 1) client new at in
    let next = come_next s.script.targets own client.call client.done asked commanded in
    let counted : stripes_after s.script.targets own (begun_count new.call new.done) ≡ stripes_after s.script.targets own (client.done + 1) = ap (stripes_after s.script.targets own) count in
    record {
      numbered = g.numbered;
      targets = g.targets ∙ h.targets;
      files = omega (arith, g.files, h.files, more);
      keys = omega (arith, g.keys, h.keys, more);
      each =
          subst (λ (k : ℕ). AllByRecursion (IsUpTo (3 * k + 1) (k + 1)) after.meta.files) (sym more)
          (all_up_to ((3 * n + 1) + 3) ((n + 1) + 1) (3 * (n + 1) + 1) ((n + 1) + 1) after.meta.files (omega arith) (omega arith) (g.each (3 * n + 1) (n + 1) h.each));
      calls = λ id. (let one = does.calls id in let before = h.calls id in omega (arith, one, before, more));
      many = does.many ∙ h.many;
      fails = λ id less. does.fails id ∙ h.fails id less;
      named = record { made = omega (arith, g.stripes, h.named.made, named, come, next, counted); whole = omega (arith, g.whole, h.named.whole, named, come, next, counted) };
      begun = all_put (λ (x : Client). IsBegun x.call) s.clients (c - 1) new h.begun begun;
    }

pub busy_count : (call : Running) (done : ℕ) → is_idle call ≡ false → begun_count call done ≡ done + 1
busy_count running.Idle done e = absurd (true≢false e)
busy_count (running.Read call) done e = refl
busy_count (running.Write call) done e = refl
busy_count (running.Truncate call) done e = refl
busy_count (running.Copy call) done e = refl
busy_count (running.Verify call) done e = refl

module _ (s t : State) (c : ℕ) (h : IsHeld s) (st : StepIs s c t) where
  abbrev call : Running
  call = st.client.call

  abbrev first : ℕ
  first = first_now call (place_in s) st.client.first

  abbrev stripes : ℕ
  stripes = stripes_now (length s.shared.meta.nexts) call st.asked

  leaves : (new : Client) (after : Servers) (note : Note) → Does stripes s.shared after → IsBegun new.call → begun_count new.call new.done ≡ st.client.done + 1 → t ≡ stepped s c new after note → IsHeld t
  leaves new after note does begun count e = subst IsHeld (sym e) (stepped_held s c st.client new st.asked after note h st.here st.commanded does begun count)

  by_outcome : (came : Outcome Running) → OnLeft (Does stripes s.shared) came → OnNext IsUnderWay came → LeavesState s c st.client first came t → IsHeld t
  by_outcome (Going next after) does way left = leaves (going st.client first next) after Nothing does way.1 (busy_count next st.client.done way.0) left
  by_outcome (Fixed next reply takes after) does way left = leaves (going st.client first next) after (Adds (entry c st.client first (place_in s) 0 reply takes)) does way.1 (busy_count next st.client.done way.0) left
  by_outcome (Ended after) does way left = leaves (over st.client first) after Closes does tt refl left
  by_outcome (Answered reply takes after) does way left = leaves (over st.client first) after (Adds (entry c st.client first (place_in s) (place_in s) reply takes)) does tt refl left
  by_outcome (Blocked holder) does way left = absurd left

  pub step_held : IsHeld t
  step_held =
      let begun : IsBegun call = all_got (λ (x : Client). IsBegun x.call) s.clients (c - 1) st.client h.begun (at_place s.clients c st.client st.here) in
      by_outcome st.came
      (subst (OnLeft (Does stripes s.shared)) st.made (step_does c (place_in s) s.shared call st.asked begun))
      (subst (OnNext IsUnderWay) st.made (step_next c (place_in s) s.shared call st.asked))
      st.left

-- ---- every state

pub run_held : (s : State) → IsRun s → IsHeld s
run_held s run = always IsHeld (λ a b c h st. step_held a b c h st) s.schedule (start s.script) s (start_held s.script) run.run

at_most_sum : (ns : List ℕ) (i : ℕ) → get_or ns i 0 ≤ sum ns
at_most_sum [] i = omega arith
at_most_sum (n ∷ ns) zero = let more = sum_by-cons (λ (k : ℕ). k) n ns in omega (arith, more)
at_most_sum (n ∷ ns) (suc i) = let more = sum_by-cons (λ (k : ℕ). k) n ns in let rest = at_most_sum ns i in omega (arith, more, rest)

pub run_within : (s : State) → IsRun s → AreWithin s.script (length s.schedule) s.shared
run_within s run =
    let h = run_held s run in
    record { files = h.files; keys = h.keys; each = h.each; objects = λ target. (let one = at_most_sum s.shared.meta.nexts target in omega (arith, one, h.named.made)); calls = h.calls }

pub run_named : (s : State) → IsRun s → AreNamed s
run_named s run = (run_held s run).named
