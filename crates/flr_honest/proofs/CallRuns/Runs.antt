-- Each call of a run is a run of its command's call, and so is that of each entry up to its point.
use Rattle.std.proofs.Common.{◌≡◌, ℕ, ◌+◌, ◌-◌, ◌<◌, List, [], ◌∷◌, ◌++◌, length, Some, ◌⊎◌, inl, inr, refl, sym, ap, ◌∙◌, subst, arith}
use Rattle.std.specs.Prelude.{slice_get}
use Rattle.std.proofs.lemmas.Bool.{cases_eq}
use Rattle.std.proofs.lemmas.List.{get_or-set_same}
use Rattle.std.proofs.lemmas.Option.{slice_get_within}
use Rattle.flr_base.specs.declared.reply.Entry.{Entry}
use Rattle.flr_base.specs.declared.reply.Reply.{Reply}
use Rattle.flr_base.specs.declared.reply.Take.{Take}
use Rattle.script_values.specs.declared.command.Command.{Command}
use Rattle.script_values.specs.Scripts.{ScriptView, command_after}
use Rattle.call_steps.specs.Runs.{goes_on}
use Rattle.call_steps.specs.Servers.{Servers}
use Rattle.call_steps.specs.Steps.{Outcome, Going, Fixed, Ended, Answered, Blocked}
use Rattle.flr_steps.specs.declared.client.Client.{Client}
use Rattle.flr_steps.specs.declared.client.Note.{Note}
use Rattle.flr_steps.specs.declared.client.Note.TheVariants.{Nothing, Adds, Closes}
use Rattle.flr_steps.specs.declared.client.Running.{Running}
use Rattle.flr_steps.specs.declared.client.Running.TheVariants as running
use Rattle.flr_steps.specs.Clients.{call_now, entry, first_now, going, over}
use Rattle.flr_steps.specs.Reports.{command_of}
use Rattle.flr_steps.specs.Runs.{IsBeside, LeavesSome, doing_after}
use Rattle.flr_steps.specs.States.{IsRun, State, after, client_at, closed, place_in, start, stepped}
use Rattle.flr_steps.specs.Steps.{LeavesState, StepIs}
use Rattle.flr_steps.specs.Traces.{Doing, Past, Trace, doing_of, new_trace, nothing_done, trace_after, traced, traced_by}
use Rattle.flr_steps.proofs.TraceLaws.{always_beside, steps_are_traced, trace_goes_on}
use Rattle.flr_steps.proofs.StepLaws.{is_step}
use Rattle.flr_places.proofs.Keeping.{new_same}
use Rattle.flr_places.proofs.Runs.{new_at}
use Rattle.flr_honest.proofs.Landed.Lists.{got_back, got_last, some_same}
use Rattle.flr_asked.specs.CallRuns.{CallsAreRuns, EntriesAreRuns, FixesAnswer, IsCallSoFar}
use Rattle.flr_honest.proofs.CallRuns.Extending.{entry_with}
use Rattle.flr_honest.proofs.CallRuns.Stepping.{IsTold, Told, closed_so, entry_still, front, leaves, left_here, on_with, others_run, stands, stands_beside, there_in, went}

-- the new entry answers the command that was asked
answers_command : (script : ScriptView) (c : ℕ) (client : Client) (asked : Command) (first at last : ℕ) (answer : Reply) (takes : List Take) → command_after script c client.done ≡ Some asked → command_of script (entry c client first at last answer takes) ≡ Some asked
answers_command script c client asked first at last answer takes e = ap (command_after script c) (let z : client.done + 1 - 1 ≡ client.done = omega arith in z) ∙ e

module _ (s t : State) (trace : Trace) (c : ℕ) (k : Told s trace) (step : StepIs s c t) where
  abbrev client : Client
  client = step.client

  abbrev asked : Command
  asked = step.asked

  abbrev first : ℕ
  first = first_now client.call (place_in s) client.first

  -- the longer schedule
  abbrev longer : List ℕ
  longer = s.schedule ++ c ∷ []

  -- the call that the step is of
  abbrev call : Running
  call = call_now c client.call asked

  -- what the call has done by then
  abbrev did : Doing
  did = doing_after s t trace c client asked

  -- the entry that it may add, and its past
  abbrev new : ℕ → Reply → List Take → Entry
  new last answer takes = entry c client first (place_in s) last answer takes

  abbrev its : Past
  its = record { call = call; doing = did }

  beside : IsBeside s trace
  beside = stands_beside s trace k

  left : LeavesSome s c t
  left = leaves s t trace c k step

  -- ---- the client that stepped

  own_doing : (came : Outcome Running) → LeavesState s c client first came t → doing_of (traced_by trace c call did came) c ≡ did
  own_doing came is = by came is
    where
      within : c - 1 < length trace.running
      within = let same = beside.clients in let less = there_in s.clients c client step.here in omega (arith, same, less)

      by : (came : Outcome Running) → LeavesState s c client first came t → doing_of (traced_by trace c call did came) c ≡ did
      by (Going next after) is = get_or-set_same trace.running (c - 1) did nothing_done within
      by (Fixed next answer takes after) is = get_or-set_same trace.running (c - 1) did nothing_done within
      by (Ended after) is = get_or-set_same trace.running (c - 1) did nothing_done within
      by (Answered answer takes after) is = get_or-set_same trace.running (c - 1) did nothing_done within
      by (Blocked holder) is = absurd is

  -- it is the new one
  own_is : (new : Client) (after : Servers) (note : Note) → t ≡ stepped s c new after note → (other : Client) → client_at t.clients c ≡ Some other → other ≡ new
  own_is new after note is other there = some_same other new (sym there ∙ ap (λ (x : State). client_at x.clients c) is ∙ new_same s.clients c client new step.here)

  -- its call goes on
  own_goes : (next : Running) (other : Client) (of : Command) → goes_on step.came ≡ Some next → other ≡ going client first next → command_after s.script c other.done ≡ Some of
      → IsCallSoFar s.script longer c of other.first (length longer) other.call did
  own_goes next other of on is asks =
      let one : asked ≡ of = some_same asked of (sym step.commanded ∙ sym (ap (λ (x : Client). command_after s.script c x.done) is) ∙ asks) in
      subst (λ (x : Client). IsCallSoFar s.script longer c of x.first (length longer) x.call did) (sym is)
      (subst (λ (a : Command). IsCallSoFar s.script longer c a first (length longer) next did) one (on_with s t trace c k step next on))

  own_runs : (came : Outcome Running) → step.came ≡ came → LeavesState s c client first came t → (other : Client) (of : Command) → client_at t.clients c ≡ Some other → command_after s.script c other.done ≡ Some of → (other.call ≡ running.Idle → ⊥)
      → IsCallSoFar s.script longer c of other.first (length longer) other.call did
  own_runs (Going next after) is lead other of there asks busy = own_goes next other of (ap goes_on is) (own_is (going client first next) after Nothing lead other there) asks
  own_runs (Fixed next answer takes after) is lead other of there asks busy = own_goes next other of (ap goes_on is) (own_is (going client first next) after (Adds (new 0 answer takes)) lead other there) asks
  own_runs (Ended after) is lead other of there asks busy = absurd (busy (ap (λ (x : Client). x.call) (own_is (over client first) after Closes lead other there)))
  own_runs (Answered answer takes after) is lead other of there asks busy = absurd (busy (ap (λ (x : Client). x.call) (own_is (over client first) after (Adds (new (place_in s) answer takes)) lead other there)))
  own_runs (Blocked holder) is lead other of there asks busy = absurd lead

  -- all calls
  calls_run : CallsAreRuns t (traced s t trace c)
  calls_run d other of there asks busy =
      subst (λ (x : State). IsCallSoFar x.script x.schedule d of other.first (length x.schedule) other.call (doing_of (traced s t trace c) d)) (sym left.is) (elim (cases_eq d c) as (λ _. IsCallSoFar s.script longer d of other.first (length longer) other.call (doing_of (traced s t trace c) d)) [
        | inl same ↦ (
            let done : doing_of (traced s t trace c) c ≡ did = ap (λ (x : Trace). doing_of x c) (steps_are_traced s t trace c step) ∙ own_doing step.came step.left in
            let at_c : client_at t.clients c ≡ Some other = ap (client_at t.clients) (sym same) ∙ there in
            let asks_c : command_after s.script c other.done ≡ Some of = ap (λ (n : ℕ). command_after s.script n other.done) (sym same) ∙ asks_s in
            subst (λ (n : ℕ). IsCallSoFar s.script longer n of other.first (length longer) other.call (doing_of (traced s t trace c) n)) (sym same)
            (subst (λ (x : Doing). IsCallSoFar s.script longer c of other.first (length longer) other.call x) (sym done) (own_runs step.came refl step.left other of at_c asks_c busy))
            )
        | inr apart ↦ others_run s t trace c k step d other of apart there asks_s busy
      ])
    where
      asks_s : command_after s.script d other.done ≡ Some of
      asks_s = ap (λ (x : State). command_after x.script d other.done) (sym left.is) ∙ asks

  -- ---- entries

  -- one more
  entries_more : (last : ℕ) (answer : Reply) (takes : List Take) → FixesAnswer step.came answer takes → (i : ℕ) (e : Entry) (p : Past) → slice_get (s.entries ++ new last answer takes ∷ []) i ≡ Some e
      → slice_get (trace.answered ++ its ∷ []) i ≡ Some p → IsTold s.script longer e p
  entries_more last answer takes fixes i e p there past = by (got_last s.entries (new last answer takes) e i there) (got_last trace.answered its p i past)
    where
      as_new : IsTold s.script longer (new last answer takes) its
      as_new = (
        asked,
        answers_command s.script c client asked first (place_in s) last answer takes step.commanded,
        entry_with s.script s.schedule c asked client.call client.first (doing_of trace c) (front s t trace c k step) _ (stands s t trace c k step) refl refl (sym step.made) (left_here s t trace c k step) (client.done + 1) last answer takes fixes,
      )

      by : (slice_get s.entries i ≡ Some e) ⊎ ((i ≡ length s.entries) × (new last answer takes ≡ e)) → (slice_get trace.answered i ≡ Some p) ⊎ ((i ≡ length trace.answered) × (its ≡ p)) → IsTold s.script longer e p
      by (inl a) (inl b) = entry_still s.script s.schedule c e p (k.entries i e p a b)
      by (inl a) (inr b) = let within = slice_get_within s.entries i e a in let same = beside.entries in let at = b.0 in absurd (omega (arith, within, same, at))
      by (inr a) (inl b) = let within = slice_get_within trace.answered i p b in let same = beside.entries in let at = a.0 in absurd (omega (arith, within, same, at))
      by (inr a) (inr b) = subst (λ (x : Entry). IsTold s.script longer x p) a.1 (subst (λ (x : Past). IsTold s.script longer (new last answer takes) x) b.1 as_new)

  entries_run : (came : Outcome Running) → step.came ≡ came → LeavesState s c client first came t → EntriesAreRuns t (traced_by trace c call did came)
  entries_run (Going next after) is lead =
      subst (λ (x : State). EntriesAreRuns x (traced_by trace c call did (Going next after))) (sym lead) (λ i e p there past. entry_still s.script s.schedule c e p (k.entries i e p there past))
  entries_run (Fixed next answer takes after) is lead =
      subst (λ (x : State). EntriesAreRuns x (traced_by trace c call did (Fixed next answer takes after))) (sym lead)
      (entries_more 0 answer takes (subst (λ (o : Outcome Running). FixesAnswer o answer takes) (sym is) (refl, refl)))
  entries_run (Ended after) is lead =
      subst (λ (x : State). EntriesAreRuns x (traced_by trace c call did (Ended after))) (sym lead)
      (λ i e p there past. (let from = got_back (closed c (place_in s)) s.entries i e there in
      subst (λ (x : Entry). IsTold s.script longer x p) from.2 (closed_so s.script longer c (place_in s) from.0 p (entry_still s.script s.schedule c from.0 p (k.entries i from.0 p from.1 past)))))
  entries_run (Answered answer takes after) is lead =
      subst (λ (x : State). EntriesAreRuns x (traced_by trace c call did (Answered answer takes after))) (sym lead)
      (entries_more (place_in s) answer takes (subst (λ (o : Outcome Running). FixesAnswer o answer takes) (sym is) (refl, refl)))
  entries_run (Blocked holder) is lead = absurd lead

  step_told : Told t (traced s t trace c)
  step_told = record {
    run = subst (λ (x : State). after (start x.script) x.schedule ≡ Some t) (sym left.is) (went s t trace c k step);
    is = subst (λ (x : State). traced s t trace c ≡ trace_after x.script x.schedule) (sym left.is) (ap (λ (x : Trace). traced s t x c) k.is ∙ sym (trace_goes_on s.script s.schedule s t c k.run (is_step s t c step)));
    calls = calls_run;
    entries = subst (λ (x : Trace). EntriesAreRuns t x) (sym (steps_are_traced s t trace c step)) (entries_run step.came refl step.left);
  }

-- ---- every run

start_told : (script : ScriptView) → Told (start script) (new_trace (length script.clients))
start_told script = record {
  run = refl;
  is = refl;
  calls = λ c client asked there asks busy. absurd (busy (ap (λ (x : Client). x.call) (new_at (length script.clients) c client there)));
  entries = λ i e p there past. absurd (cc there);
}

run_told : (s : State) → IsRun s → Told s (trace_after s.script s.schedule)
run_told s run = always_beside Told (λ x y trace c k step. step_told x y trace c k step) s.schedule (start s.script) s (new_trace (length s.script.clients)) (start_told s.script) run.run

-- each call under way is a run of its command's call
pub calls_are_runs : (s : State) → IsRun s → CallsAreRuns s (trace_after s.script s.schedule)
calls_are_runs s run = (run_told s run).calls

-- and so is that of each entry, up to its point
pub entries_are_runs : (s : State) → IsRun s → EntriesAreRuns s (trace_after s.script s.schedule)
entries_are_runs s run = (run_told s run).entries
