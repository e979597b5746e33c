use Rattle.std.proofs.Common.{None, Some, refl, arith}
use Rattle.call_read.proofs.FollowLaws.{diffs_short, diffs_stop, diffs_more}
use Rattle.call_read.proofs.following.diffs.Goals as goal

pub returns-in_default : goal.returns-in_default
returns-in_default c = diffs_short c.args.count c.args.text.now c.loop-taken.rest.now c.loop-taken.taken c.loop-taken.diffs c.loop-taken-test.true (omega arith) c.loop-taken.invariant c.in_default.ensures.first

pub returns-in_default-2 : goal.returns-in_default-2
returns-in_default-2 c =
    diffs_stop c.args.count c.args.text.now c.loop-taken.rest.now c.in-Some.more.now c.in-Some.line.now c.loop-taken.taken c.loop-taken.diffs None c.loop-taken-test.true (omega arith) c.loop-taken.invariant c.in-Some.ensures.first (rw c.in_default-2.is at c.in_ok-diff.ensures.spelled) refl

pub loop-taken-preserved : goal.loop-taken-preserved
loop-taken-preserved c =
    rw c.in_ok-push.ensures.appended
    (diffs_more c.args.count c.args.text.now c.loop-taken.rest.now c.in-Some.more.now c.in-Some.line.now c.loop-taken.taken c.loop-taken.diffs (Some c.in-Some-2.diff) c.in-Some-2.diff c.loop-taken-test.true c.loop-taken.invariant c.in-Some.ensures.first c.in-Some.ensures.rest
    (rw c.in-Some-2.is at c.in_ok-diff.ensures.spelled) refl)
