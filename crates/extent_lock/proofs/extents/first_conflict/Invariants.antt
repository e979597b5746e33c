use Rattle.std.proofs.Common.{◌≡◌, filter, take}
use Rattle.extent_lock.specs.Conflicts.{conflicts}
use Rattle.extent_lock.specs.Order.{first_of}
use Rattle.extent_lock.proofs.extents.first_conflict.Given as goal

abbrev pub invariant-loop-lock : goal.invariant-loop-lock
invariant-loop-lock l = l.first ≡ first_of (filter (conflicts l.asked) (take l.lock-index l.held))
