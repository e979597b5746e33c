-- A call of the target with an id, among all targets.
use Rattle.std.proofs.Common.{◌≡◌, ℕ, List, Option, Some, Result, Ok, Err, unwrap_or, [], sym, ap, ◌∙◌}
use Rattle.std.specs.Prelude.{slice_get}
use Rattle.std.proofs.Math.ListN.{set}
use Rattle.std.proofs.lemmas.List.{set-get_or}
use Rattle.std.proofs.lemmas.Option.{get_or_from_slice_get}
use Rattle.object_target.specs.declared.call.TargetError.{TargetError}
use Rattle.object_target.specs.declared.call.TargetError.TheVariants as error
use Rattle.object_target.specs.Results.{IsAfter}
use Rattle.object_target.specs.TargetState.{TargetState, new_target}
use Rattle.call_steps.specs.Servers.{target_at}
use Rattle.resync_copy.specs.TargetCalls.{IsAfterOn}

-- the target that is lent is the one with the id
pub lent : (targets : List TargetState) (id : ℕ) (t : TargetState) → slice_get targets id ≡ Some t → t ≡ target_at targets id
lent targets id t e = sym (ap (λ (o : Option TargetState). unwrap_or o (new_target id [])) e)

-- what is put back as it was
put_back : (targets : List TargetState) (id : ℕ) (t : TargetState) → slice_get targets id ≡ Some t → set targets id t ≡ targets
put_back targets id t e = ap (set targets id) (sym (get_or_from_slice_get targets id t t e)) ∙ set-get_or targets id t

-- what a call of it leaves
pub after_on : (old new : List TargetState) (id : ℕ) (t left wanted : TargetState) (r : Result (Unit {0}) TargetError) → slice_get old id ≡ Some t → new ≡ set old id left → IsAfter t r wanted left → IsAfterOn old id r wanted new
after_on old new id t left wanted (Ok done) e n a = n ∙ ap (set old id) a
after_on old new id t left wanted (Err (error.Old kept)) e n a = n ∙ ap (set old id) a
after_on old new id t left wanted (Err (error.Failed call)) e n a = n ∙ ap (set old id) a
after_on old new id t left wanted (Err error.NoMemory) e n a = n ∙ ap (set old id) a ∙ put_back old id t e
