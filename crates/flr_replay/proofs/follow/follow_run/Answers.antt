use Rattle.std.proofs.Common.{Option, subst}
use Rattle.flr_replay.specs.declared.follow.Why.{Why}
use Rattle.flr_replay.specs.Following.{StepOf}
use Rattle.flr_replay.proofs.Stretches.{stops_in_run}
use Rattle.flr_replay.proofs.follow.follow_run.Goals as goal

pub returns-in-Some-clause-follows : goal.returns-in-Some-clause-follows
returns-in-Some-clause-follows c =
    let step = subst (λ (o : Option Why). StepOf c.args.client c.loop-k.world c.step.new.world o) c.in-Some.is c.in_ok-why.ensures.step in
    stops_in_run c.args.world.now c.loop-k.world c.step.new.world c.args.client c.args.times c.loop-k._k c.in-Some.why c.loop-k-test.true c.loop-k.invariant.2 step.0 step.1
