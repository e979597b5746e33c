-- Each byte so far has a component that answers it.
use Rattle.std.proofs.Common.{◌≡◌, ◌-◌, []}
use Rattle.composite_layout.specs.Layouts.{eof}
use Rattle.mirror_select.specs.Pieces.{first_without}
use Rattle.meta_server.proofs.offline.offline_byte.Given as goal

abbrev pub invariant-loop-at : goal.invariant-loop-at
invariant-loop-at l = first_without l.layout.components 0 eof [] ≡ first_without l.layout.components l.at eof []

abbrev pub decreases-loop-at : goal.decreases-loop-at
decreases-loop-at l = eof - l.at
