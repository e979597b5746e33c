use Rattle.std.proofs.Common.{Bool, [], cond, ap, ◌∙◌, sym, subst, arith, rules}
use Rattle.layout_lease.specs.Shares.{LockView, IsSoundLock, cookies_of}
use Rattle.layout_lease.proofs.CookiesOf.{freed_own}
use Rattle.layout_lease.proofs.SoundLock.{IsSoundLock-kept}
use Rattle.layout_lease.proofs.shared.LayoutLock.free.Goals as goal

pub invariant_of-self : goal.invariant_of-self
invariant_of-self c =
    (omega (arith, c.self.invariant.0), omega (arith, c.self.invariant.1), IsSoundLock-kept _ _ _ _ c.keep_but-self-inside.ensures.kept c.self.invariant.2)

pub returns-clause-sound : goal.returns-clause-sound
returns-clause-sound c = IsSoundLock-kept _ _ _ _ c.keep_but-self-inside.ensures.kept c.self.invariant.2

pub returns-clause-freed : goal.returns-clause-freed
returns-clause-freed c = search rules

pub returns-clause-own : goal.returns-clause-own
returns-clause-own c =
    let sound = subst IsSoundLock c.self.view_is c.self.invariant.2 in
    ap (λ (lock : LockView). cookies_of c.args.cookie.client lock.cookies) (returns-clause-freed c)
    ∙ freed_own c.args.cookie c.args.self.now sound
    ∙ ap (λ (b : Bool). cond b [] (cookies_of c.args.cookie.client c.args.self.now.cookies)) (sym c.holds-held.ensures.held)
