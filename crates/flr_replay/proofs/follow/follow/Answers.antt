use Rattle.std.proofs.Common.{Option, get_or, replicate, subst}
use Rattle.script_values.specs.declared.runs.ClientRun.{ClientRun}
use Rattle.flr_replay.specs.declared.follow.Stop.{Stop}
use Rattle.flr_replay.specs.Following.{Follows}
use Rattle.flr_replay.proofs.Stretches.{same_stretch, stops_in_runs}
use Rattle.flr_replay.proofs.follow.follow.Goals as goal

pub returns-in-Some-clause-follows : goal.returns-in-Some-clause-follows
returns-in-Some-clause-follows c =
    let none : ClientRun = record { client = 0; times = 0 } in
    let r : ClientRun = get_or c.args.runs.now c.loop-run.run-index none in
    let stops = subst (λ (o : Option Stop). Follows (replicate r.times r.client) c.loop-run.world c.follow_run.new.world o) c.in-Some.is c.in_ok-stop.ensures.follows in
    stops_in_runs c.args.world.now c.loop-run.world c.follow_run.new.world c.args.runs.now c.loop-run.run-index r c.in-Some.stop c.loop-run-test.true (same_stretch c.args.runs.now c.loop-run.run-index none r c.loop-run-test.true) c.loop-run.invariant.2 stops
