-- The trace beside a run.
use Rattle.std.proofs.Common.{◌≡◌, ℕ, ◌+◌, ◌-◌, true, List, [], ◌∷◌, ◌++◌, length, length-append, length-set, refl, sym, ap, ◌∙◌, subst}
use Rattle.std.specs.Prelude.{Option, Some, slice_set}
use Rattle.std.specs.Option.{option_and_then}
use Rattle.script_values.specs.declared.command.Command.{Command}
use Rattle.call_steps.specs.Steps.{Outcome, Going, Fixed, Ended, Answered, Blocked}
use Rattle.flr_base.specs.declared.reply.Entry.{Entry}
use Rattle.std.proofs.lemmas.List.{length-map, length-replicate}
use Rattle.flr_steps.specs.declared.client.Client.{Client}
use Rattle.flr_steps.specs.declared.client.Running.{Running}
use Rattle.flr_steps.specs.Clients.{call_now, entry, first_now, going, over}
use Rattle.flr_steps.specs.Runs.{HoldsBeside, HoldsOfRuns, IsBeside, StepsAreTraced, TraceGoesOn, TracesStandBeside, doing_after}
use Rattle.flr_steps.specs.States.{State, Next, Stepped, Finished, Unknown, after, closed, new_client, next, place_in, start, state_of}
use Rattle.flr_steps.specs.States as states
use Rattle.flr_steps.specs.Steps.{LeavesState, StepIs}
use Rattle.flr_steps.specs.Traces.{Doing, Past, Trace, asked_of, new_trace, nothing_done, trace_by, trace_from, traced, traced_by, traced_from}
use Rattle.flr_steps.proofs.Induction.{always}
use Rattle.flr_steps.proofs.Inversion.{step_is}

module _ (P : State → Trace → Type 0) (keeps : (s t : State) (trace : Trace) (c : ℕ) → P s trace → StepIs s c t → P t (traced s t trace c)) where
  beside_step : (cs : List ℕ) (s t : State) (trace : Trace) (c : ℕ) → P s trace → (n : Next) → next s c ≡ n
      → ((mid : State) (more : Trace) → P mid more → after mid cs ≡ Some t → P t (trace_from mid more cs)) → option_and_then (λ mid. after mid cs) (state_of n) ≡ Some t
      → P t (trace_by trace s c cs (λ new more. trace_from new more cs) n)
  beside_step cs s t trace c p (Stepped mid) is rest e = rest mid (traced s mid trace c) (keeps s mid trace c p (step_is s mid c is)) e
  beside_step cs s t trace c p (states.Blocked holder) is rest e = absurd cc
  beside_step cs s t trace c p Finished is rest e = absurd cc
  beside_step cs s t trace c p Unknown is rest e = absurd cc

  -- the induction over schedules, with the trace beside
  pub always_beside : (cs : List ℕ) (s t : State) (trace : Trace) → P s trace → after s cs ≡ Some t → P t (trace_from s trace cs)
  always_beside [] s t trace p e = let same : s ≡ t = cc in subst (λ (x : State). P x trace) same p
  always_beside (c ∷ cs) s t trace p e = beside_step cs s t trace c p (next s c) refl (λ mid more q m. always_beside cs mid t more q m) e

pub holds_of_runs : HoldsOfRuns
holds_of_runs P script schedule last first keeps e = always (λ (s : State). P s ≡ true) (λ s t c p step. keeps s t c p step) schedule (start script) last first e

pub holds_beside : HoldsBeside
holds_beside P script schedule last first keeps e =
    always_beside (λ (s : State) (trace : Trace). P s trace ≡ true) (λ s t trace c p step. keeps s t trace c p step) schedule (start script) last (new_trace (length script.clients)) first e

-- ---- one step more

trace_one : (t u : State) (trace : Trace) (c : ℕ) (n : Next) → n ≡ Stepped u → trace_by trace t c [] (λ new more. trace_from new more []) n ≡ traced t u trace c
trace_one t u trace c (Stepped v) e = let same : v ≡ u = cc in ap (λ (x : State). traced t x trace c) same
trace_one t u trace c (states.Blocked holder) e = absurd cc
trace_one t u trace c Finished e = absurd cc
trace_one t u trace c Unknown e = absurd cc

trace_rest : (cs : List ℕ) (c : ℕ) (s t u : State) (trace : Trace) (d : ℕ) (n : Next)
    → ((mid : State) (more : Trace) → after mid cs ≡ Some t → trace_from mid more (cs ++ c ∷ []) ≡ traced t u (trace_from mid more cs) c) → option_and_then (λ mid. after mid cs) (state_of n) ≡ Some t
    → trace_by trace s d (cs ++ c ∷ []) (λ new more. trace_from new more (cs ++ c ∷ [])) n ≡ traced t u (trace_by trace s d cs (λ new more. trace_from new more cs) n) c
trace_rest cs c s t u trace d (Stepped mid) h e = h mid (traced s mid trace d) e
trace_rest cs c s t u trace d (states.Blocked holder) h e = absurd cc
trace_rest cs c s t u trace d Finished h e = absurd cc
trace_rest cs c s t u trace d Unknown h e = absurd cc

trace_more : (cs : List ℕ) (c : ℕ) (s t u : State) (trace : Trace) → after s cs ≡ Some t → next t c ≡ Stepped u → trace_from s trace (cs ++ c ∷ []) ≡ traced t u (trace_from s trace cs) c
trace_more [] c s t u trace e n =
    let same : s ≡ t = cc in
    subst (λ (x : State). trace_from x trace (c ∷ []) ≡ traced t u trace c) (sym same) (trace_one t u trace c (next t c) n)
trace_more (d ∷ cs) c s t u trace e n = trace_rest cs c s t u trace d (next s d) (λ mid more m. trace_more cs c mid t u more m n) e

pub trace_goes_on : TraceGoesOn
trace_goes_on script schedule s t c e n = trace_more schedule c (start script) s t (new_trace (length script.clients)) e n

-- ---- what a step leaves of the trace

pub steps_are_traced : StepsAreTraced
steps_are_traced s t trace c step =
    let call = call_now c step.client.call step.asked in
    ap (λ (found : Option Client). traced_from s t trace c found (asked_of s c found)) step.here
    ∙ ap (λ (asked : Option Command). traced_from s t trace c (Some step.client) asked) step.commanded
    ∙ ap (λ (came : Outcome Running). traced_by trace c call (doing_after s t trace c step.client step.asked) came) step.made

module _ (s t : State) (trace : Trace) (c : ℕ) (beside : IsBeside s trace) where
  same_clients : (client : Client) (d : Doing) → length (slice_set trace.running (c - 1) d) ≡ length (slice_set s.clients (c - 1) client)
  same_clients client d = length-set trace.running (c - 1) d ∙ beside.clients ∙ sym (length-set s.clients (c - 1) client)

  one_entry : (e : Entry) (p : Past) → length (trace.answered ++ p ∷ []) ≡ length (s.entries ++ e ∷ [])
  one_entry e p = length-append trace.answered (p ∷ []) ∙ ap (λ (n : ℕ). n + 1) beside.entries ∙ sym (length-append s.entries (e ∷ []))

  beside_by : (client : Client) (first : ℕ) (call : Running) (d : Doing) (came : Outcome Running) → LeavesState s c client first came t → IsBeside t (traced_by trace c call d came)
  beside_by client first call d (Going next after) h =
      record { clients = same_clients (going client first next) d ∙ ap (λ (x : State). length x.clients) (sym h); entries = beside.entries ∙ ap (λ (x : State). length x.entries) (sym h) }
  beside_by client first call d (Fixed next reply takes after) h =
      record {
        clients = same_clients (going client first next) d ∙ ap (λ (x : State). length x.clients) (sym h);
        entries = one_entry (entry c client first (place_in s) 0 reply takes) (record { call = call; doing = d }) ∙ ap (λ (x : State). length x.entries) (sym h);
      }
  beside_by client first call d (Ended after) h =
      record {
        clients = same_clients (over client first) d ∙ ap (λ (x : State). length x.clients) (sym h);
        entries = beside.entries ∙ sym (length-map s.entries (closed c (place_in s))) ∙ ap (λ (x : State). length x.entries) (sym h);
      }
  beside_by client first call d (Answered reply takes after) h =
      record {
        clients = same_clients (over client first) d ∙ ap (λ (x : State). length x.clients) (sym h);
        entries = one_entry (entry c client first (place_in s) (place_in s) reply takes) (record { call = call; doing = d }) ∙ ap (λ (x : State). length x.entries) (sym h);
      }
  beside_by client first call d (Blocked holder) h = absurd h

stays_beside : (s t : State) (trace : Trace) (c : ℕ) → IsBeside s trace → StepIs s c t → IsBeside t (traced s t trace c)
stays_beside s t trace c beside step =
    subst (λ (x : Trace). IsBeside t x) (sym (steps_are_traced s t trace c step))
    (beside_by s t trace c beside step.client (first_now step.client.call (place_in s) step.client.first) (call_now c step.client.call step.asked) (doing_after s t trace c step.client step.asked) step.came step.left)

pub traces_stand_beside : TracesStandBeside
traces_stand_beside script schedule last e =
    let count = length script.clients in
    always_beside IsBeside stays_beside schedule (start script) last (new_trace count)
    (record { clients = length-replicate count nothing_done ∙ sym (length-replicate count new_client); entries = refl }) e
