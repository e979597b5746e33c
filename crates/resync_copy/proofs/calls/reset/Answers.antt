use Rattle.std.proofs.Common.{refl, subst}
use Rattle.std.proofs.Math.ListN.{set}
use Rattle.object_target.specs.Calls.{after_reset}
use Rattle.object_target.specs.TargetState.{TargetState}
use Rattle.resync_copy.specs.TargetCalls.{IsAfterOn}
use Rattle.resync_copy.proofs.CallLaws.{after_on, lent}
use Rattle.resync_copy.proofs.calls.reset.Goals as goal

pub returns-clause-after : goal.returns-clause-after
returns-clause-after c =
    subst (λ (t : TargetState). IsAfterOn c.args.targets.now c.args.object.target c.reset.result (after_reset t c.args.object.number c.args.version) (set c.args.targets.now c.args.object.target c.reset.new.self))
    (lent c.args.targets.now c.args.object.target c.at_mut-target.result.now c.at_mut-target.ensures.same)
    (after_on c.args.targets.now _ c.args.object.target c.at_mut-target.result.now c.reset.new.self _ c.reset.result c.at_mut-target.ensures.same refl c.reset.ensures.after)
