use Rattle.std.proofs.Common.{sym, subst, ◌∙◌}
use Rattle.std.proofs.lemmas.List.{get_or_default}
use Rattle.client_write.specs.OwnLocks.{HoldsOwn}
use Rattle.client_write.specs.Truncates.{tail_at}
use Rattle.client_write.proofs.TailLocks.{one_granted, one_more, passed, stopped}
use Rattle.client_write.proofs.truncate.lock_each.Goals as goal
use Rattle.client_write.proofs.truncate.lock_each.Goals.{in-Ok, in-Err-NoMemory}

pub returns-in-Err-Blocked-clause-blocked : goal.returns-in-Err-Blocked-clause-blocked
returns-in-Err-Blocked-clause-blocked c =
    let tails = c.args.tails.now in
    let i = c.loop-tail.tail-index in
    stopped c.args.client tails i (tail_at tails i) c.args.locks.now c.loop-tail.locks (c.in-Err-Blocked.holder, c.in-Err-Blocked.range) c.loop-tail-test.true (get_or_default tails i (tail_at tails i) _ c.loop-tail-test.true)
    c.loop-tail.invariant.own c.loop-tail.invariant.first (rw c.in-Err-Blocked.field-0-is at c.in-Err-Blocked.ensures.blocked)

pub loop-tail-preserved : goal.loop-tail-preserved
loop-tail-preserved c =
    let tails = c.args.tails.now in
    let i = c.loop-tail.tail-index in
    let t = tail_at tails i in
    let same = get_or_default tails i t _ c.loop-tail-test.true in
    elim c.match-try_lock.branch [
      | in-Ok w ↦ record {
        granted = λ e. w.in-Ok.ensures.granted ∙ one_granted c.args.client tails i t c.args.locks.now c.loop-tail.locks c.loop-tail-test.true same (c.loop-tail.invariant.granted (sym w.lacks-is ∙ e));
        own = subst (HoldsOwn c.args.client c.args.locks.now) (sym w.in-Ok.ensures.granted) (one_more c.args.client t c.args.locks.now c.loop-tail.locks c.loop-tail.invariant.own);
        first = passed c.args.client tails i t c.args.locks.now c.loop-tail.locks c.loop-tail-test.true same c.loop-tail.invariant.own c.loop-tail.invariant.first w.in-Ok.ensures.blocked;
      }
      | in-Err-NoMemory w ↦ record {
        granted = λ e. absurd (let k = sym w.lacks-is ∙ e in cc);
        own = subst (HoldsOwn c.args.client c.args.locks.now) (sym w.in-Err-NoMemory.ensures.unchanged) c.loop-tail.invariant.own;
        first = passed c.args.client tails i t c.args.locks.now c.loop-tail.locks c.loop-tail-test.true same c.loop-tail.invariant.own c.loop-tail.invariant.first (rw w.in-Err-NoMemory.field-0-is at w.in-Err-NoMemory.ensures.blocked);
      }
    ]
