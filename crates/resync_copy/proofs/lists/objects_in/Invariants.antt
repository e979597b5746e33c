use Rattle.std.proofs.Common.{◌≡◌, take}
use Rattle.resync_copy.specs.Parts.{objects_in}
use Rattle.resync_copy.proofs.lists.objects_in.Given as goal

abbrev pub invariant-loop-id : goal.invariant-loop-id
invariant-loop-id l = l.objects.items ≡ objects_in l.layout.components (take l.id-index l.ids)
