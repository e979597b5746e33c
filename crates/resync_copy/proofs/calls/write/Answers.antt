use Rattle.std.proofs.Common.{refl, subst}
use Rattle.std.proofs.Math.ListN.{set}
use Rattle.object_target.specs.Calls.{after_write}
use Rattle.object_target.specs.TargetState.{TargetState}
use Rattle.resync_copy.specs.TargetCalls.{IsAfterOn}
use Rattle.resync_copy.proofs.CallLaws.{after_on, lent}
use Rattle.resync_copy.proofs.calls.write.Goals as goal

pub returns-clause-after : goal.returns-clause-after
returns-clause-after c =
    subst (λ (t : TargetState). IsAfterOn c.args.targets.now c.args.object.target c.write.result (after_write t c.args.object.number c.args.offset c.args.bytes.now c.args.version) (set c.args.targets.now c.args.object.target c.write.new.self))
    (lent c.args.targets.now c.args.object.target c.at_mut-target.result.now c.at_mut-target.ensures.same)
    (after_on c.args.targets.now _ c.args.object.target c.at_mut-target.result.now c.write.new.self _ c.write.result c.at_mut-target.ensures.same refl c.write.ensures.after)
