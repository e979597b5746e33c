use Rattle.std.proofs.Common.{ap, ◌∙◌, arith, rules}
use Rattle.layout_lease.specs.Shares.{LockView, cookies_of}
use Rattle.layout_lease.proofs.CookiesOf.{evicted_none}
use Rattle.layout_lease.proofs.SoundLock.{IsSoundLock-kept}
use Rattle.layout_lease.proofs.shared.LayoutLock.evict.Goals as goal

pub invariant_of-self : goal.invariant_of-self
invariant_of-self c =
    (omega (arith, c.self.invariant.0), omega (arith, c.self.invariant.1), IsSoundLock-kept _ _ _ _ c.keep_others-self-inside.ensures.kept c.self.invariant.2)

pub returns-clause-sound : goal.returns-clause-sound
returns-clause-sound c = IsSoundLock-kept _ _ _ _ c.keep_others-self-inside.ensures.kept c.self.invariant.2

pub returns-clause-evicted : goal.returns-clause-evicted
returns-clause-evicted c = search rules

pub returns-clause-none : goal.returns-clause-none
returns-clause-none c =
    ap (λ (lock : LockView). cookies_of c.args.client lock.cookies) (returns-clause-evicted c) ∙ evicted_none c.args.client c.args.self.now
