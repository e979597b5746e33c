-- The call of the next part, and what came of it.
use Rattle.std.proofs.Common.{◌≡◌, ℕ, ◌+◌, ◌<◌, false, nat_lt, Some, List, [], ◌∷◌, ◌++◌, length, sym, ap, subst, ◌∙◌, arith, length-append}
use Rattle.std.specs.Prelude.{slice_get}
use Rattle.std.specs.List.{AllByRecursion}
use Rattle.std.proofs.lemmas.Bool.Decides.{nat_tests}
use Rattle.flr_base.specs.declared.reply.FailedCall.{FailedCall}
use Rattle.object_target.specs.declared.call.CallAnswer.TheVariants as answer
use Rattle.script_values.specs.declared.command.Command.{Command}
use Rattle.script_values.specs.Scripts.{ScriptView}
use Rattle.flr_steps.specs.Traces.{Doing, Made, made_since_open}
use Rattle.flr_sole.proofs.Sending.{with_made}
use Rattle.flr_claims.specs.Failures.{IsListedFailure}
use Rattle.flr_claims.specs.Sending.{Part}
use Rattle.flr_claims.specs.Writing.{AreCallsOf, IsCallOf, WentThrough}
use Rattle.flr_honest.specs.WriteCauses.Stages.{EndsFailed, EndsOld, IsLatestEviction, SentSoFar}
use Rattle.flr_honest.proofs.WriteCauses.Parts.{all_through, next_call, one_more}

module _ (script : ScriptView) (schedule : List ℕ) (c first : ℕ) (asked : Command) (d : Doing) (m : Made) (after : d.opened < m.place) (g : ℕ) (parts : List Part) (p : Part) (next : ℕ)
    (so_far : SentSoFar script schedule c first asked g parts next (made_since_open d)) (there : slice_get parts next ≡ Some p) (is : IsCallOf g p m) where
  abbrev before : List Made
  before = made_since_open d

  abbrev now : List Made
  now = made_since_open (with_made d (m ∷ []))

  joined : now ≡ before ++ m ∷ []
  joined = one_more d m after

  calls : AreCallsOf g parts now
  calls = subst (AreCallsOf g parts) (sym joined) (next_call g parts before p m so_far.2 (ap (slice_get parts) so_far.0 ∙ there) is)

  -- it went through
  pub one_goes : m.entry.answer ≡ answer.Ok → SentSoFar script schedule c first asked g parts (next + 1) now
  one_goes ok =
      (ap (λ (ms : List Made). length ms) joined ∙ length-append before (m ∷ []) ∙ ap (λ n. n + 1) so_far.0, subst (λ (ms : List Made). AllByRecursion WentThrough ms) (sym joined) (all_through before m so_far.1 ok), calls)

  -- it failed
  pub one_fails : (call : FailedCall) → IsListedFailure script.fails m call → AreCallsOf g parts now × EndsFailed script schedule c first asked now call
  one_fails call failed = (calls, record { front = before; last = m; ends = record { in_order = joined; through = so_far.1 }; failed = failed })

  -- it was too old
  pub one_old : (kept step : ℕ) → m.entry.answer ≡ answer.Old kept → 0 < next → IsLatestEviction script schedule c first asked d.opened m.place step
      → AreCallsOf g parts now × EndsOld script schedule c first asked d.opened now step
  one_old kept step old some evicted = (
    calls,
    record {
      front = before;
      last = m;
      ends = record { in_order = joined; through = so_far.1 };
      some = (let same = so_far.0 in omega (arith, same, some));
      kept = kept;
      old = old;
      evicted = evicted;
    },
  )

-- behind the last part there is no other
pub none_left : (next count long : ℕ) → long ≡ next + 1 → next < count → nat_lt (next + 1) count ≡ false → long ≡ count
none_left next count long same less last = let is : next + 1 ≡ count = last_is in same ∙ is
  where
    last_is : next + 1 ≡ count
    last_is = grind (arith, nat_tests)
