-- A step keeps it that calls are runs.
use Rattle.std.proofs.Common.{◌≡◌, ◌≢◌, ℕ, zero, suc, take, ◌-◌, ◌<◌, List, [], ◌∷◌, ◌++◌, length, length-append, Some, Bool, true, false, cond, refl, sym, ap, ◌∙◌, subst, arith}
use Rattle.std.specs.Prelude.{◌==◌, ◌&&◌, slice_get}
use Rattle.std.proofs.Math.Seq.{take-length}
use Rattle.std.proofs.lemmas.Option.{slice_get_within}
use Rattle.flr_base.specs.declared.reply.Entry.{Entry}
use Rattle.script_values.specs.declared.command.Command.{Command}
use Rattle.script_values.specs.Scripts.{ScriptView, command_after}
use Rattle.call_steps.specs.Runs.{CallStep, IsRun, Leaves, goes_on}
use Rattle.call_steps.specs.Steps.{Outcome, Going, Fixed, Ended, Answered, Blocked}
use Rattle.flr_steps.specs.declared.client.Client.{Client}
use Rattle.flr_steps.specs.declared.client.Running.{Running}
use Rattle.flr_steps.specs.declared.client.Running.TheVariants as running
use Rattle.flr_steps.specs.Clients.{call_now, first_now}
use Rattle.flr_steps.specs.Commands.{begun}
use Rattle.flr_steps.specs.Reports.{command_of}
use Rattle.flr_steps.specs.Runs.{IsBeside, LeavesSome, doing_after}
use Rattle.flr_steps.specs.States.{State, after, client_at, closed, place_in, start, state_at}
use Rattle.flr_steps.specs.Steps.{LeavesState, StepIs}
use Rattle.flr_steps.specs.Traces.{Doing, Past, Trace, doing_of, trace_after, traced}
use Rattle.flr_steps.proofs.Runs.{after_more, state_stays}
use Rattle.flr_steps.proofs.StepLaws.{each_step_leaves, is_step}
use Rattle.flr_steps.proofs.TraceLaws.{traces_stand_beside}
use Rattle.flr_bytes.proofs.Clients.{client_stays, doing_stays}
use Rattle.flr_honest.proofs.Landed.Lists.{got_end}
use Rattle.flr_asked.specs.CallRuns.{AllStand, CallsAreRuns, EntriesAreRuns, IsCallSoFar, IsCallTo, StandsIn, own_step}
use Rattle.flr_honest.proofs.CallRuns.Extending.{IsFront, call_with, front_of}
use Rattle.flr_honest.proofs.CallRuns.Staying.{all_but, all_stand_still, all_still, stands_within}

-- ---- entries

-- the entry answers a command, and is a run of its call
abbrev pub IsTold : ScriptView → List ℕ → Entry → Past → Type 0
IsTold script schedule e p = (asked : Command) × (command_of script e ≡ Some asked) × IsCallTo script schedule asked e p

-- the last of some steps is one of them
pub last_stands : (script : ScriptView) (schedule : List ℕ) (c : ℕ) (asked : Command) (front : List (CallStep Running)) (last : CallStep Running) → AllStand script schedule c asked (front ++ last ∷ []) → StandsIn script schedule c asked last
last_stands script schedule c asked [] last all = all.0
last_stands script schedule c asked (x ∷ xs) last all = last_stands script schedule c asked xs last all.1

-- the first place is one
front_behind : (c : ℕ) (asked : Command) (first : ℕ) (front : List (CallStep Running)) (last : CallStep Running) → IsRun (own_step c asked) (begun c asked) (front ++ last ∷ [])
    → ((x : CallStep Running) (rest : List (CallStep Running)) → front ++ last ∷ [] ≡ x ∷ rest → x.place ≡ first) → 0 < first
front_behind c asked first [] last run begins = let later = run.0.later in let at = begins last [] refl in omega (arith, later, at)
front_behind c asked first (x ∷ xs) last run begins = let later = run.0.later in let at = begins x (xs ++ last ∷ []) refl in omega (arith, later, at)

-- what is so of an entry stays so as the run goes on
pub entry_still : (script : ScriptView) (schedule : List ℕ) (d : ℕ) (e : Entry) (p : Past) → IsTold script schedule e p → IsTold script (schedule ++ d ∷ []) e p
entry_still script schedule d e p told =
    let asked : Command = told.0 in
    let h : IsCallTo script schedule asked e p = told.2 in
    let low = stands_within script schedule e.client asked h.last (last_stands script schedule e.client asked h.front h.last h.stand) in
    let at = h.place_is in (
      asked,
      told.1,
      record {
        front = h.front;
        last = h.last;
        run = h.run;
        stand = all_stand_still script schedule e.client asked d (h.front ++ h.last ∷ []) h.stand;
        begins = h.begins;
        all = all_still schedule e.client d e.first (h.front ++ h.last ∷ []) e.at (front_behind e.client asked e.first h.front h.last h.run h.begins) (omega (arith, low, at)) h.all;
        call_is = h.call_is;
        place_is = h.place_is;
        fixes = h.fixes;
        did_is = h.did_is;
      },
    )

-- the place at which its call ends says nothing of it
ended_so : (script : ScriptView) (schedule : List ℕ) (e : Entry) (p : Past) (place : ℕ) → IsTold script schedule e p → IsTold script schedule (record e { last = place }) p
ended_so script schedule e p place told =
    let h = told.2 in
    (told.0, told.1, record { front = h.front; last = h.last; run = h.run; stand = h.stand; begins = h.begins; all = h.all; call_is = h.call_is; place_is = h.place_is; fixes = h.fixes; did_is = h.did_is })

pub closed_so : (script : ScriptView) (schedule : List ℕ) (c place : ℕ) (e : Entry) (p : Past) → IsTold script schedule e p → IsTold script schedule (closed c place e) p
closed_so script schedule c place e p told = by ((e.client == c) && (e.last == 0))
  where
    by : (b : Bool) → IsTold script schedule (cond b (record e { last = place }) e) p
    by true = ended_so script schedule e p place told
    by false = told

-- ---- a step

-- the schedule leads to the state, with this trace, and calls are runs
pub record Told (s : State) (trace : Trace) : Type 0 where
  pub run : after (start s.script) s.schedule ≡ Some s
  pub is : trace ≡ trace_after s.script s.schedule
  pub calls : CallsAreRuns s trace
  pub entries : EntriesAreRuns s trace

-- the trace has something for each client and each entry
pub stands_beside : (s : State) (trace : Trace) → Told s trace → IsBeside s trace
stands_beside s trace k = subst (λ (x : Trace). IsBeside s x) (sym k.is) (traces_stand_beside s.script s.schedule s k.run)

left_servers : (s t : State) (c : ℕ) (client : Client) (first : ℕ) (came : Outcome Running) → LeavesState s c client first came t → Leaves came t.shared
left_servers s t c client first (Going next after) left = ap (λ (x : State). x.shared) left
left_servers s t c client first (Fixed next answer takes after) left = ap (λ (x : State). x.shared) left
left_servers s t c client first (Ended after) left = ap (λ (x : State). x.shared) left
left_servers s t c client first (Answered answer takes after) left = ap (λ (x : State). x.shared) left
left_servers s t c client first (Blocked holder) left = absurd left

-- who is there has a place in the list
pub there_in : (clients : List Client) (c : ℕ) (client : Client) → client_at clients c ≡ Some client → c - 1 < length clients
there_in clients zero client e = absurd (cc)
there_in clients (suc c) client e = let within = slice_get_within clients c client e in omega (arith, within)

module _ (s t : State) (trace : Trace) (c : ℕ) (k : Told s trace) (step : StepIs s c t) where
  abbrev pub client : Client
  client = step.client

  abbrev pub asked : Command
  asked = step.asked

  abbrev pub first : ℕ
  first = first_now client.call (place_in s) client.first

  -- the longer schedule
  abbrev pub longer : List ℕ
  longer = s.schedule ++ c ∷ []

  -- what the call has done by then
  abbrev pub did : Doing
  did = doing_after s t trace c client asked

  -- the step, as one of its call
  abbrev pub here : CallStep Running
  here = record { call = call_now c client.call asked; place = place_in s; before = s.shared; came = step.came; after = t.shared }

  pub leaves : LeavesSome s c t
  leaves = each_step_leaves s t c step

  pub went : after (start s.script) longer ≡ Some t
  went = after_more (start s.script) s t s.schedule c k.run (is_step s t c step)

  pub front : IsFront s.script s.schedule c asked client.call client.first (doing_of trace c)
  front = front_of s.script s.schedule c asked client.first (doing_of trace c) client.call (k.calls c client asked step.here step.commanded)

  pub stands : StandsIn s.script longer c asked here
  stands =
      let long : length longer ≡ place_in s = length-append s.schedule (c ∷ []) in
      let at : place_in s - 1 ≡ length s.schedule = omega arith in
      let all : state_at s.script s.schedule (place_in s - 1) ≡ Some s = ap (λ (xs : List ℕ). after (start s.script) xs) (ap (λ (n : ℕ). take n s.schedule) at ∙ take-length s.schedule) ∙ k.run in
      record {
        old = s;
        old_is = state_stays s.script s.schedule (c ∷ []) (place_in s - 1) s all (omega arith);
        new = t;
        new_is = ap (λ (xs : List ℕ). after (start s.script) xs) (ap (λ (n : ℕ). take n longer) (sym long) ∙ take-length longer) ∙ went;
        own = ap (slice_get longer) at ∙ got_end s.schedule c;
        before_is = refl;
        after_is = refl;
        step = step;
        asked_is = refl;
        call_is = refl;
        came_is = refl;
      }

  pub left_here : Leaves step.came t.shared
  left_here = left_servers s t c client first step.came step.left

  -- the call that goes on
  pub on_with : (next : Running) → goes_on step.came ≡ Some next → IsCallSoFar s.script longer c asked first (length longer) next did
  on_with next on = call_with s.script s.schedule c asked client.call client.first (doing_of trace c) front here stands refl refl (sym step.made) left_here next on

  -- ---- all calls

  -- those of others
  pub others_run : (d : ℕ) (other : Client) (of : Command) → d ≢ c → client_at t.clients d ≡ Some other → command_after s.script d other.done ≡ Some of → (other.call ≡ running.Idle → ⊥)
      → IsCallSoFar s.script longer d of other.first (length longer) other.call (doing_of (traced s t trace c) d)
  others_run d other of apart there left busy =
      let was : client_at s.clients d ≡ Some other = sym (client_stays s t c trace step d apart) ∙ there in
      let h = k.calls d other of was left busy in
      let later = h.run.0.later in
      let at = h.first_is in
      record {
        begin = h.begin;
        rest = h.rest;
        first_is = h.first_is;
        run = h.run;
        so_far = h.so_far;
        stand = all_stand_still s.script s.schedule d of c (h.begin ∷ h.rest) h.stand;
        all = all_but s.schedule d c other.first (h.begin ∷ h.rest) (omega (arith, later, at)) (λ same. apart (sym same)) h.all;
        did_is = doing_stays s t c trace step d other was apart ∙ h.did_is;
      }
