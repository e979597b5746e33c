-- A call of a target that failed is listed by the script.
use Rattle.std.proofs.Common.{◌≡◌, ℕ, ◌<◌, ◌==◌, Bool, true, false, cond, Option, Some, None, List, [], ◌∷◌, length, inl, inr, refl, sym, ap, ◌∙◌, arith}
use Rattle.std.proofs.lemmas.Bool.Decides.{nat_tests}
use Rattle.mirror_select.proofs.Least.{from_contains, to_contains}
use Rattle.object_target.specs.declared.call.CallAnswer.TheVariants as answer
use Rattle.object_target.specs.declared.fail.Fail.{Fail}
use Rattle.object_target.specs.declared.fail.FailKind.{FailKind}
use Rattle.object_target.specs.Calls.{answer_by, checked_answer, is_old, next_fail}
use Rattle.object_target.specs.Fails.{fails_on, kind_of}
use Rattle.object_target.specs.TargetState.{TargetState, next_call, version_at}
use Rattle.flr_base.specs.declared.reply.FailedCall.{FailedCall}
use Rattle.call_steps.specs.Servers.{next_call_on, target_at}
use Rattle.flr_work.specs.Paying.{AreListed}
use Rattle.flr_claims.specs.Failures.{IsListed}

-- one fail more is listed
listed_more : (f : Fail) (fails : List Fail) (call : FailedCall) → IsListed fails call → IsListed (f ∷ fails) call
listed_more f fails call is = (is.0, to_contains (f ∷ fails) is.0 (inr (from_contains fails is.0 is.1)), is.2, is.3)

listed_first : (f : Fail) (fails : List Fail) (call : FailedCall) → f.target ≡ call.target → f.call ≡ call.call → IsListed (f ∷ fails) call
listed_first f fails call target number = (f, to_contains (f ∷ fails) f (inl refl), target, number)

-- how a call fails is told by a line of its target
kind_listed : (id call : ℕ) (fails : List Fail) (kind : FailKind) → kind_of (fails_on id fails) call ≡ Some kind → IsListed fails (record { target = id; call = call })
kind_listed id call [] kind e = absurd (cc e)
kind_listed id call (f ∷ fs) kind e = by (f.target == id) refl e (kind_listed id call fs kind)
  where
    here : (b : Bool) → (f.call == call) ≡ b → f.target ≡ id → cond b (Some f.kind) (kind_of (fails_on id fs) call) ≡ Some kind
        → (kind_of (fails_on id fs) call ≡ Some kind → IsListed fs (record { target = id; call = call })) → IsListed (f ∷ fs) (record { target = id; call = call })
    here true is same k rest = listed_first f fs (record { target = id; call = call }) same (grind (arith, nat_tests))
    here false is same k rest = listed_more f fs (record { target = id; call = call }) (rest k)

    by : (b : Bool) → (f.target == id) ≡ b → kind_of (cond b (f ∷ fails_on id fs) (fails_on id fs)) call ≡ Some kind
        → (kind_of (fails_on id fs) call ≡ Some kind → IsListed fs (record { target = id; call = call })) → IsListed (f ∷ fs) (record { target = id; call = call })
    by true is k rest = here (f.call == call) refl (grind (arith, nat_tests)) k rest
    by false is k rest = listed_more f fs (record { target = id; call = call }) (rest k)

failed_by : (fails : List Fail) (id : ℕ) (t : TargetState) → t.fails ≡ fails_on id fails → (fail : Option FailKind) → next_fail t ≡ fail
    → (old : Bool) (kept : ℕ) → answer_by fail old kept ≡ answer.Failed → IsListed fails (record { target = id; call = next_call t })
failed_by fails id t listed (Some kind) is old kept k = kind_listed id (next_call t) fails kind (ap (λ (fs : List Fail). kind_of fs (next_call t)) (sym listed) ∙ is)
failed_by fails id t listed None is true kept k = absurd (cc k)
failed_by fails id t listed None is false kept k = absurd (cc k)

-- a call of a target that is there, and that failed, is listed
pub failed_listed : (fails : List Fail) (targets : List TargetState) → AreListed fails targets → (id object version : ℕ) → id < length targets
    → checked_answer (target_at targets id) object version ≡ answer.Failed → IsListed fails (next_call_on targets id)
failed_listed fails targets listed id object version within e =
    let t : TargetState = target_at targets id in failed_by fails id t (listed id within) (next_fail t) refl (is_old t object version) (version_at t object) e
