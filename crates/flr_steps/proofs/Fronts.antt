-- Runs place by place.
use Rattle.std.proofs.Common.{◌≡◌, ℕ, zero, suc, ◌+◌, List, [], ◌∷◌, ◌++◌, length, take, append_assoc, append-nil, length-set, refl, sym, ap, ◌∙◌, subst, arith}
use Rattle.std.specs.Prelude.{Some, slice_get}
use Rattle.std.specs.Option.{option_and_then}
use Rattle.script_values.specs.Scripts.{IsScript, ScriptView}
use Rattle.flr_steps.specs.Runs.{EachPlaceIs, EachRunKeeps, FrontsAreRuns, IsPlace, LeavesSome, RunsFrom}
use Rattle.flr_steps.specs.States.{State, Next, Stepped, Blocked, Finished, Unknown, after, next, start, state_of}
use Rattle.flr_steps.proofs.Inversion.{step_is}
use Rattle.flr_steps.proofs.StepLaws.{each_step_leaves}

-- a run that begins with a step: the step was made, and the rest is a run from there
pub record BeginsWith (s : State) (c : ℕ) (cs : List ℕ) (t : State) : Type 0 where
  pub mid : State
  pub made : next s c ≡ Stepped mid
  pub rest : after mid cs ≡ Some t

begins_by : (s : State) (c : ℕ) (cs : List ℕ) (t : State) (n : Next) → next s c ≡ n → option_and_then (λ mid. after mid cs) (state_of n) ≡ Some t → BeginsWith s c cs t
begins_by s c cs t (Stepped mid) is e = record { mid = mid; made = is; rest = e }
begins_by s c cs t (Blocked holder) is e = absurd cc
begins_by s c cs t Finished is e = absurd cc
begins_by s c cs t Unknown is e = absurd cc

pub begins_with : (s : State) (c : ℕ) (cs : List ℕ) (t : State) → after s (c ∷ cs) ≡ Some t → BeginsWith s c cs t
begins_with s c cs t e = begins_by s c cs t (next s c) refl e

-- a step and a run from there are a run
pub goes_on : (s mid : State) (c : ℕ) (cs : List ℕ) (t : State) → next s c ≡ Stepped mid → after mid cs ≡ Some t → after s (c ∷ cs) ≡ Some t
goes_on s mid c cs t made rest = ap (λ (n : Next). option_and_then (λ (x : State). after x cs) (state_of n)) made ∙ rest

one_kept : (s t : State) (c : ℕ) → LeavesSome s c t → RunsFrom s (c ∷ []) t
one_kept s t c h = record {
  script = ap (λ (x : State). x.script) h.is;
  places = ap (λ (x : State). x.schedule) h.is;
  clients = ap (λ (x : State). length x.clients) h.is ∙ length-set s.clients _ h.client;
}

runs_by : (cs : List ℕ) (s t : State) → after s cs ≡ Some t → RunsFrom s cs t
runs_by [] s t e =
    let same : s ≡ t = cc in
    record { script = ap (λ (x : State). x.script) (sym same); places = ap (λ (x : State). x.schedule) (sym same) ∙ sym (append-nil s.schedule); clients = ap (λ (x : State). length x.clients) (sym same) }
runs_by (c ∷ cs) s t e =
    let b = begins_with s c cs t e in
    let one = one_kept s b.mid c (each_step_leaves s b.mid c (step_is s b.mid c b.made)) in
    let more = runs_by cs b.mid t b.rest in
    record {
      script = more.script ∙ one.script;
      places = more.places ∙ ap (λ (front : List ℕ). front ++ cs) one.places ∙ append_assoc s.schedule (c ∷ []) cs;
      clients = more.clients ∙ one.clients;
    }

pub each_run_keeps : EachRunKeeps
each_run_keeps s t schedule e = runs_by schedule s t e

place_by : (schedule : List ℕ) (place : ℕ) (s t : State) (c : ℕ) → after s schedule ≡ Some t → slice_get schedule place ≡ Some c → IsPlace s schedule place c
place_by [] place s t c e there = absurd (cc there)
place_by (d ∷ ds) zero s t c e there =
    let b = begins_with s d ds t e in
    let same : d ≡ c = cc there in
    record { old = s; old_is = refl; new = b.mid; new_is = goes_on s b.mid d [] b.mid b.made refl; made = ap (λ (x : ℕ). next s x) (sym same) ∙ b.made }
place_by (d ∷ ds) (suc place) s t c e there =
    let b = begins_with s d ds t e in
    let p = place_by ds place b.mid t c b.rest there in
    record { old = p.old; old_is = goes_on s b.mid d (take place ds) p.old b.made p.old_is; new = p.new; new_is = ap (λ (n : ℕ). after s (take n (d ∷ ds))) (let same : suc place + 1 ≡ suc (place + 1) = omega arith in same) ∙ goes_on s b.mid d (take (place + 1) ds) p.new b.made p.new_is; made = p.made }

pub each_place_is : EachPlaceIs
each_place_is s t schedule place c e there = place_by schedule place s t c e there

pub fronts_are_runs : FrontsAreRuns
fronts_are_runs last s place r e =
    let kept = each_run_keeps (start last.script) s (take place last.schedule) e in
    record {
      limits = subst (λ (script : ScriptView). IsScript script) (sym kept.script) r.limits;
      run = ap (λ script. after (start script) s.schedule) kept.script ∙ ap (λ (cs : List ℕ). after (start last.script) cs) kept.places ∙ e;
    }
