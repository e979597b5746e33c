use Rattle.std.proofs.Common.{◌≡◌, None, refl, subst, sym, ◌∙◌, rules}
use Rattle.extent_lock.specs.Conflicts.{AreApart}
use Rattle.extent_lock.specs.Extents.{blocked_by}
use Rattle.extent_lock.proofs.LockLaws.{AreApart-push_if, ConflictsWithNone-same, none_at_same}
use Rattle.extent_lock.proofs.extents.ExtentLocks.try_lock.Goals as goal

pub returns-in-Some-clause-free : goal.returns-in-Some-clause-free
returns-in-Some-clause-free c =
    none_at_same _ _ _ _ (c.as_slice.ensures.value ∙ c.self.view_is) c.in-Some.ensures.free

pub returns-in-Some-clause-apart : goal.returns-in-Some-clause-apart
returns-in-Some-clause-apart c = subst AreApart c.self.view_is c.self.invariant

pub invariant_of-self : goal.invariant_of-self
invariant_of-self c =
    let none = ConflictsWithNone-same _ _ _ c.as_slice.ensures.value (c.in-None.ensures.free.0 refl) in
    subst AreApart (sym c.push.ensures.items) (AreApart-push_if _ _ _ c.self.invariant none)

pub returns-in-None-clause-apart : goal.returns-in-None-clause-apart
returns-in-None-clause-apart c =
    let none = ConflictsWithNone-same _ _ _ c.as_slice.ensures.value (c.in-None.ensures.free.0 refl) in
    subst AreApart (sym c.push.ensures.items) (AreApart-push_if _ _ _ c.self.invariant none)

pub returns-in-None-clause-free : goal.returns-in-None-clause-free
returns-in-None-clause-free c =
    let blocked : blocked_by c.map_err.result ≡ None = search rules in
    (λ _. ConflictsWithNone-same _ _ _ (c.as_slice.ensures.value ∙ c.self.view_is) (c.in-None.ensures.free.0 refl), λ _. blocked)
