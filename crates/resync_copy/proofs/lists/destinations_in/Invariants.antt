use Rattle.std.proofs.Common.{◌≡◌, take}
use Rattle.resync_copy.specs.Parts.{destinations_in}
use Rattle.resync_copy.proofs.lists.destinations_in.Given as goal

abbrev pub invariant-loop-id : goal.invariant-loop-id
invariant-loop-id l = l.destinations.items ≡ destinations_in l.layout.components (take l.id-index l.ids)
