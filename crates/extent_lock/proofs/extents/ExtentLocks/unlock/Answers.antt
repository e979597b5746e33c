use Rattle.std.proofs.Common.{subst, sym, not, ◌==◌}
use Rattle.extent_lock.specs.declared.lock.Lock.{Lock}
use Rattle.extent_lock.specs.Conflicts.{AreApart}
use Rattle.extent_lock.proofs.LockLaws.{AreApart-filter}
use Rattle.extent_lock.proofs.extents.ExtentLocks.unlock.Goals as goal

pub invariant_of-self : goal.invariant_of-self
invariant_of-self c =
    subst AreApart (sym c.drop_locks_of.ensures) (AreApart-filter (λ (lock : Lock). not (lock.holder == c.args.holder)) c.self.inside.held.items c.self.invariant)

pub returns-clause-apart : goal.returns-clause-apart
returns-clause-apart c =
    subst AreApart (sym c.drop_locks_of.ensures) (AreApart-filter (λ (lock : Lock). not (lock.holder == c.args.holder)) c.self.inside.held.items c.self.invariant)
