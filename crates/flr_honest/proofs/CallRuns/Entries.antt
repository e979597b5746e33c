-- Each entry of a run has all that its answer is judged by, so what is so of each such entry is so of each call of the run.
use Rattle.std.proofs.Common.{◌≡◌, ℕ, ◌-◌, suc, false, List, [], ◌∷◌, length, Some, refl, subst, arith}
use Rattle.std.specs.Prelude.{slice_get}
use Rattle.flr_base.specs.declared.reply.Entry.{Entry}
use Rattle.script_values.specs.Scripts.{ScriptView}
use Rattle.flr_steps.specs.States.{IsRun, State, state_at}
use Rattle.flr_steps.specs.Traces.{Past, trace_after}
use Rattle.flr_steps.proofs.TraceLaws.{traces_stand_beside}
use Rattle.flr_claims.specs.Calls.{Call}
use Rattle.flr_claims.specs.Causes.{has_rot}
use Rattle.flr_claims.specs.Runs.{EachCallIs, EachIs, IsCallWith}
use Rattle.flr_honest.specs.Entries.{IsEntryOf, claimed}
use Rattle.flr_honest.proofs.CallRuns.Runs.{entries_are_runs}
use Rattle.flr_honest.proofs.CallRuns.Stepping.{last_stands}

-- each entry of a run, with what the trace has for it
pub entries_are_of_runs : (s : State) → IsRun s → (i : ℕ) (e : Entry) (p : Past) → slice_get s.entries i ≡ Some e → slice_get (trace_after s.script s.schedule).answered i ≡ Some p → IsEntryOf s e p
entries_are_of_runs s run i e p there past =
    let told = entries_are_runs s run i e p there past in
    let call = told.2 in
    let stands = last_stands s.script s.schedule e.client told.0 call.front call.last call.stand in
    record {
      run = run;
      number = i;
      entry = there;
      past = past;
      asked = told.0;
      commanded = told.1;
      call = call;
      before = stands.old;
      before_is = subst (λ (n : ℕ). state_at s.script s.schedule (n - 1) ≡ Some stands.old) call.place_is stands.old_is;
    }

-- what is so at each number of two lists of one length is so of one entry after the other
each_by : (P : Call → Entry → Type 0) (script : ScriptView) (schedule : List ℕ) (es : List Entry) (ps : List Past) → length ps ≡ length es
    → ((i : ℕ) (e : Entry) (p : Past) → slice_get es i ≡ Some e → slice_get ps i ≡ Some p → IsCallWith P script schedule e p) → EachIs P script schedule es ps
each_by P script schedule [] [] same each = tt
each_by P script schedule [] (p ∷ ps) same each = absurd (omega (arith, same))
each_by P script schedule (e ∷ es) [] same each = absurd (omega (arith, same))
each_by P script schedule (e ∷ es) (p ∷ ps) same each = (each 0 e p refl refl, each_by P script schedule es ps (omega (arith, same)) (λ i f q there past. each (suc i) f q there past))

-- what is so of each entry of this run is so of each of its calls
pub each_call_of : (P : Call → Entry → Type 0) (s : State) → IsRun s → ((e : Entry) (p : Past) (is : IsEntryOf s e p) → P (claimed is) e) → EachCallIs P s (trace_after s.script s.schedule)
each_call_of P s run so =
    each_by P s.script s.schedule s.entries (trace_after s.script s.schedule).answered (traces_stand_beside s.script s.schedule s run.run).entries
    (λ i e p there past. (let is : IsEntryOf s e p = entries_are_of_runs s run i e p there past in record { asked = is.asked; commanded = is.commanded; before = is.before; before_is = is.before_is; so = so e p is }))

-- what is so of each entry of each run is so of all calls
pub each_call : (P : Call → Entry → Type 0) → ((s : State) (e : Entry) (p : Past) (is : IsEntryOf s e p) → P (claimed is) e) → (s : State) → IsRun s → EachCallIs P s (trace_after s.script s.schedule)
each_call P so s run = each_call_of P s run (so s)

-- the same where no command lets a byte rot
pub each_sound_call : (P : Call → Entry → Type 0) → ((s : State) (e : Entry) (p : Past) (is : IsEntryOf s e p) → has_rot s.script ≡ false → P (claimed is) e) → (s : State) → IsRun s → has_rot s.script ≡ false
    → EachCallIs P s (trace_after s.script s.schedule)
each_sound_call P so s run none = each_call_of P s run (λ e p is. so s e p is none)
