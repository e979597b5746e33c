use Rattle.std.proofs.Common.{refl, subst}
use Rattle.std.proofs.Math.ListN.{set}
use Rattle.object_target.specs.Calls.{after_fence}
use Rattle.object_target.specs.TargetState.{TargetState}
use Rattle.resync_copy.specs.TargetCalls.{IsAfterOn}
use Rattle.resync_copy.proofs.CallLaws.{after_on, lent}
use Rattle.resync_copy.proofs.calls.fence.Goals as goal

pub returns-clause-after : goal.returns-clause-after
returns-clause-after c =
    subst (λ (t : TargetState). IsAfterOn c.args.targets.now c.args.object.target c.fence.result (after_fence t c.args.object.number c.args.version) (set c.args.targets.now c.args.object.target c.fence.new.self))
    (lent c.args.targets.now c.args.object.target c.at_mut-target.result.now c.at_mut-target.ensures.same)
    (after_on c.args.targets.now _ c.args.object.target c.at_mut-target.result.now c.fence.new.self _ c.fence.result c.at_mut-target.ensures.same refl c.fence.ensures.after)
