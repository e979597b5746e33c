use Rattle.std.proofs.Common.{None, Some, refl}
use Rattle.call_read.proofs.FollowLaws.{takes_stop, takes_end, takes_more}
use Rattle.call_read.proofs.following.takes.Goals as goal

pub returns-in_default-2 : goal.returns-in_default-2
returns-in_default-2 c = takes_stop c.args.text.now c.loop-line.rest.now c.in-Some.more.now c.in-Some.line.now c.loop-line.takes None c.loop-line.invariant c.in-Some.ensures.first (rw c.in_default-2.is at c.in_ok-piece.ensures.spelled) refl

pub loop-line-preserved : goal.loop-line-preserved
loop-line-preserved c =
    rw c.in_ok-push.ensures.appended
    (takes_more c.args.text.now c.loop-line.rest.now c.in-Some.more.now c.in-Some.line.now c.loop-line.takes (Some c.in-Some-2.piece) c.in-Some-2.piece c.loop-line.invariant c.in-Some.ensures.rest (rw c.in-Some-2.is at c.in_ok-piece.ensures.spelled) refl)

pub returns : goal.returns
returns c = takes_end c.args.text.now c.loop-line.rest.now c.loop-line.takes c.loop-line.invariant c.in_default.ensures.first
