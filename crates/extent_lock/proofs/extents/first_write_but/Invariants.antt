use Rattle.std.proofs.Common.{◌≡◌, filter, take}
use Rattle.extent_lock.specs.Writers.{is_write_but}
use Rattle.extent_lock.specs.Order.{first_of}
use Rattle.extent_lock.proofs.extents.first_write_but.Given as goal

abbrev pub invariant-loop-lock : goal.invariant-loop-lock
invariant-loop-lock l =
    l.first ≡ first_of (filter (is_write_but l.asker l.object) (take l.lock-index l.held))
