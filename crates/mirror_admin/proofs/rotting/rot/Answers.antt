use Rattle.std.proofs.Common.{◌≡◌, ℕ, List, [], Option, Some, false, Bool, cond, ap, ◌∙◌, sym}
use Rattle.std.specs.Prelude.{slice_get, is_some, unwrap_or}
use Rattle.std.proofs.Math.ListN.{set}
use Rattle.std.proofs.lemmas.List.{set-get_or}
use Rattle.std.proofs.lemmas.Option.{get_or_from_slice_get}
use Rattle.object_target.specs.TargetState.{TargetState, kept_at, new_target}
use Rattle.mirror_admin.specs.Rotting.{is_kept, with_rot}
use Rattle.mirror_admin.proofs.rotting.rot.Goals as goal

-- the same of the target when it is put back as it was
put_back : {X : Type 0} (xs : List X) (i : ℕ) (x : X) → slice_get xs i ≡ Some x → set xs i x ≡ xs
put_back xs i x e = ap (set xs i) (sym (get_or_from_slice_get xs i x x e)) ∙ set-get_or xs i x

pub returns-in-Err-NoMemory-clause-unchanged : goal.returns-in-Err-NoMemory-clause-unchanged
returns-in-Err-NoMemory-clause-unchanged c =
    ap (set c.args.targets.now c.args.object.target) c.in-Err-NoMemory.ensures.after ∙ put_back c.args.targets.now c.args.object.target _ c.at_mut.ensures.same

pub returns-in-Err-NoObject-clause-rotted : goal.returns-in-Err-NoObject-clause-rotted
returns-in-Err-NoObject-clause-rotted c =
    let none : is_some (kept_at c.at_mut.result.now c.args.object.number) ≡ false = rw c.in-Err-NoObject.field-0-is at c.in-Err-NoObject.ensures.answer in
    let kept : is_kept c.args.object c.args.targets.now ≡ false = ap (λ (o : Option TargetState). is_some (kept_at (unwrap_or o (new_target c.args.object.target [])) c.args.object.number)) c.at_mut.ensures.same ∙ none in
    ap (set c.args.targets.now c.args.object.target) c.in-Err-NoObject.ensures.after ∙ put_back c.args.targets.now c.args.object.target _ c.at_mut.ensures.same
    ∙ sym (ap (λ (b : Bool). cond b (with_rot c.args.object c.args.offset c.args.byte c.args.targets.now) c.args.targets.now) kept)
