use Rattle.std.proofs.Common.{◌≡◌, ℕ, List, Some, ap, ◌∙◌, sym, subst, rules}
use Rattle.std.specs.Prelude.{slice_get}
use Rattle.std.proofs.Math.ListN.{set}
use Rattle.std.proofs.lemmas.List.{set-get_or}
use Rattle.std.proofs.lemmas.Option.{get_or_from_slice_get}
use Rattle.object_target.specs.TargetState.{TargetState}
use Rattle.call_steps.specs.Servers.{servers}
use Rattle.mirror_verify.specs.declared.copies.BlockCopy.{BlockCopy}
use Rattle.mirror_verify.specs.Blocks.{copy_at}
use Rattle.mirror_verify.specs.Fitting.{AreBelow, IsBlockOf}
use Rattle.mirror_verify.proofs.CopyLaws.{are_below, is_there, its_copy}
use Rattle.mirror_verify.proofs.phase.Asked.take.Goals as goal

pub at_mut-target-requires : goal.at_mut-target-requires
at_mut-target-requires c = record {
  there = is_there c.args.verifying c.args.next c.args.targets.now c.in-Some.object c.requires.sound.phase.0 c.requires.sound.phase.1.there c.requires.there
      (ap (λ (copies : List BlockCopy). (copy_at copies c.args.next).piece.object) (sym c.as_slice.ensures.same) ∙ c.in-Some.is);
}

pub take_copy-requires-clause-block : goal.take_copy-requires-clause-block
take_copy-requires-clause-block c =
    subst (λ (copies : List BlockCopy). IsBlockOf (copy_at copies c.args.next).piece.range) (sym c.as_slice-2.ensures.same)
    (its_copy c.args.verifying c.args.next c.requires.sound.phase.0 c.requires.sound.phase.1.there).block

pub take_copy-requires-clause-below : goal.take_copy-requires-clause-below
take_copy-requires-clause-below c = subst AreBelow (sym c.as_slice-2.ensures.same) (are_below c.args.verifying c.requires.sound.phase.0)

-- the same of the target when it is put back as it was
put_back : {X : Type 0} (xs : List X) (i : ℕ) (x : X) → slice_get xs i ≡ Some x → set xs i x ≡ xs
put_back xs i x e = ap (set xs i) (sym (get_or_from_slice_get xs i x x e)) ∙ set-get_or xs i x

pub returns-in-Err-NoMemory : goal.returns-in-Err-NoMemory
returns-in-Err-NoMemory c = record {
  step = λ meta locks. (search rules, ap (λ (ts : List TargetState). servers meta ts locks) (ap (set c.args.targets.now c.in-Some.object.target) (rw c.in-Err-NoMemory.field-0-is at c.in-Err-NoMemory.ensures.after) ∙ put_back c.args.targets.now c.in-Some.object.target _ c.at_mut-target.ensures.same));
}
