use Rattle.std.proofs.Common.{◌≡◌, length, refl, subst}
use Rattle.std.proofs.Math.ListN.{set}
use Rattle.object_target.specs.Calls.{after_read}
use Rattle.object_target.specs.TargetState.{TargetState}
use Rattle.call_steps.specs.Servers.{target_at}
use Rattle.resync_copy.specs.TargetCalls.{IsAfterOn}
use Rattle.resync_copy.proofs.CallLaws.{after_on, lent}
use Rattle.resync_copy.proofs.calls.read.Goals as goal

pub returns-clause-after : goal.returns-clause-after
returns-clause-after c =
    let t : TargetState = c.at_mut-target.result.now in
    let e : t ≡ target_at c.args.targets.now c.args.object.target = lent c.args.targets.now c.args.object.target t c.at_mut-target.ensures.same in
    let w : after_read t c.args.object.number c.args.offset (length c.as_mut_slice.result.now) ≡ after_read (target_at c.args.targets.now c.args.object.target) c.args.object.number c.args.offset (length c.args.bytes.now.items) =
    λ j. after_read (e j) c.args.object.number c.args.offset (length (c.as_mut_slice.ensures.value j)) in
    subst (λ (x : TargetState). IsAfterOn c.args.targets.now c.args.object.target c.read.result x (set c.args.targets.now c.args.object.target c.read.new.self)) w
    (after_on c.args.targets.now _ c.args.object.target t c.read.new.self _ c.read.result c.at_mut-target.ensures.same refl c.read.ensures.after)
