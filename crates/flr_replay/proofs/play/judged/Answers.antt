use Rattle.std.proofs.Common.{ℕ, ◌+◌, ◌≤◌, List, Option, length, subst, arith, inl, ap}
use Rattle.flr_world.proofs.Known.{run_short}
use Rattle.flr_steps.specs.Schedules.{places_of}
use Rattle.flr_replay.specs.declared.follow.Stop.{Stop}
use Rattle.flr_replay.specs.Following.{Follows}
use Rattle.flr_replay.proofs.Judging.{stopped_by}
use Rattle.flr_replay.proofs.play.judged.Goals as goal

pub overflow_cast-place : goal.overflow_cast-place
overflow_cast-place c = let few : length c.follow.new.world.schedule ≤ 8388608 = run_short c.follow.new.world c.follow.ensures.run in let same = ap length c.schedule.ensures.same in omega (arith, few, same)

pub overflow_add-place : goal.overflow_add-place
overflow_add-place c = let few : length c.follow.new.world.schedule ≤ 8388608 = run_short c.follow.new.world c.follow.ensures.run in let same = ap length c.schedule.ensures.same in omega (arith, few, same)

pub returns-in-Some-clause-judged : goal.returns-in-Some-clause-judged
returns-in-Some-clause-judged c =
    let stops = subst (λ (o : Option Stop). Follows (places_of c.args.runs.now) c.args.world.now c.follow.new.world o) c.in-Some.is c.in_ok-stop.ensures.follows in
    inl (stopped_by c.args.world.now.script (places_of c.args.runs.now) c.in_ok-stopped.field-0.items c.args.world.now c.follow.new.world c.in-Some.stop (length c.schedule.result.now + 1) c.requires.first c.follow.ensures.script c.follow.ensures.run stops (ap (λ (xs : List ℕ). length xs + 1) c.schedule.ensures.same) c.in_ok-stopped.ensures)
