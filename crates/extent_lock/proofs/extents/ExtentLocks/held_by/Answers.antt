use Rattle.std.proofs.Common.{subst}
use Rattle.extent_lock.specs.Conflicts.{AreApart}
use Rattle.extent_lock.proofs.extents.ExtentLocks.held_by.Goals as goal

pub returns-clause-apart : goal.returns-clause-apart
returns-clause-apart c = subst AreApart c.self.view_is c.self.invariant
