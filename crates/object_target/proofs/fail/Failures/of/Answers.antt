use Rattle.std.proofs.Common.{◌∙◌, ap, sym, subst, arith}
use Rattle.std.proofs.lemmas.Grind.{common_steps}
use Rattle.object_target.specs.Fails.{FindsEach}
use Rattle.object_target.proofs.FailsLaws.{finds_first, finds_again}
use Rattle.object_target.proofs.fail.Failures.of.Goals as goal
use Rattle.object_target.proofs.fail.Failures.of.Goals.{then-fail-target+in_ok-push+then-not-contains_key+in_ok-_none, then-fail-target+in_ok-push+else-not-contains_key, else-fail-target}

pub loop-fail-preserved : goal.loop-fail-preserved
loop-fail-preserved c =
    elim c.if-fail-target.branch [
      | then-fail-target+in_ok-push+then-not-contains_key+in_ok-_none w ↦ record {
        own = ap (λ v. v.items) w.listed-is ∙ grind (arith, common_steps);
        finds = subst (λ kinds. FindsEach kinds c.if-fail-target.listed.items) (sym w.kinds-is)
            (finds_first c.loop-fail.kinds w.insert.new.self c.loop-fail.listed.items c.if-fail-target.listed.items _ (ap (λ v. v.items) w.listed-is ∙ w.in_ok-push.ensures.items) c.loop-fail.invariant.finds (sym w.contains_key.ensures ∙ w.if-not-contains_key.true) w.in_ok-_none.ensures.updates);
      }
      | then-fail-target+in_ok-push+else-not-contains_key w ↦ record {
        own = ap (λ v. v.items) w.listed-is ∙ grind (arith, common_steps);
        finds = subst (λ kinds. FindsEach kinds c.if-fail-target.listed.items) (sym w.kinds-is)
            (finds_again c.loop-fail.kinds c.loop-fail.listed.items c.if-fail-target.listed.items _ (ap (λ v. v.items) w.listed-is ∙ w.in_ok-push.ensures.items) c.loop-fail.invariant.finds (sym w.contains_key.ensures ∙ w.if-not-contains_key.false));
      }
      | else-fail-target w ↦ record {
        own = ap (λ v. v.items) w.listed-is ∙ grind (arith, common_steps);
        finds = subst (λ kinds. FindsEach kinds c.if-fail-target.listed.items) (sym w.kinds-is)
            (subst (λ listed. FindsEach c.loop-fail.kinds listed) (sym (ap (λ v. v.items) w.listed-is)) c.loop-fail.invariant.finds);
      }
    ]
