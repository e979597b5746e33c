-- Every run can be led to the end of all commands.
use Rattle.std.proofs.Common.{◌≡◌, ℕ, zero, suc, ◌+◌, ◌<◌, Option, Some, None, List, [], ◌∷◌, length, length-append, refl, sym, ap, subst, ◌∙◌, arith}
use Rattle.script_values.specs.Scripts.{IsScript, work_of}
use Rattle.flr_steps.specs.States.{IsRun, State, Stepped, after, next, start, unfinished_of}
use Rattle.flr_steps.proofs.Fronts.{each_run_keeps, goes_on}
use Rattle.flr_steps.proofs.Runs.{after_more}
use Rattle.flr_steps.proofs.Unfinished.{unfinished_is_lowest}
use Rattle.flr_runs.proofs.Runs.{runs_short}
use Rattle.flr_live.specs.Laws.{EachRunCanEnd}
use Rattle.flr_live.specs.Sentences.{CanEnd}
use Rattle.flr_live.proofs.Ending.{never_stuck}

-- what a step leaves of a run
record GoesOn (s t : State) : Type 0 where
  run : IsRun t
  work : work_of t.script ≡ work_of s.script
  longer : length t.schedule ≡ length s.schedule + 1

run_goes_on : (s t : State) (c : ℕ) → IsRun s → next s c ≡ Stepped t → GoesOn s t
run_goes_on s t c run made =
    let kept = each_run_keeps s t (c ∷ []) (goes_on s t c [] t made refl) in
    record {
      run = record { limits = subst IsScript (sym kept.script) run.limits; run = (λ j. after (start (kept.script j)) (kept.places j)) ∙ after_more (start s.script) s t s.schedule c run.run made };
      work = ap work_of kept.script;
      longer = ap (λ (cs : List ℕ). length cs) kept.places ∙ length-append s.schedule (c ∷ []);
    }

-- with so many places left
lead : (n : ℕ) (s : State) → IsRun s → work_of s.script < length s.schedule + n → CanEnd s
lead zero s run room = let short = runs_short s run in absurd (omega (arith, short, room))
lead (suc n) s run room = by (unfinished_of s) refl (λ t r more. lead n t r more)
  where
    by : (o : Option ℕ) → unfinished_of s ≡ o → ((t : State) → IsRun t → work_of t.script < length t.schedule + n → CanEnd t) → CanEnd s
    by None e rest = record { rest = []; last = s; leads = refl; done = (unfinished_is_lowest s).1 e }
    by (Some c) e rest =
        let one = never_stuck s c run ((unfinished_is_lowest s).0 c e).0 in
        let t : State = one.1.after in
        let on = run_goes_on s t one.0 run one.1.steps in
        let work = on.work in
        let longer = on.longer in
        let then = rest t on.run (omega (arith, room, work, longer)) in
        record { rest = one.0 ∷ then.rest; last = then.last; leads = goes_on s t one.0 then.rest then.last one.1.steps then.leads; done = then.done }

pub each_run_can_end : EachRunCanEnd
each_run_can_end s run = let short = runs_short s run in lead (work_of s.script + 1) s run (omega (arith, short))
