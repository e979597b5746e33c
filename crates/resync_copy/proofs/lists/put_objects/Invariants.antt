use Rattle.std.proofs.Common.{◌≡◌, ◌++◌, map, take}
use Rattle.flr_base.specs.declared.reply.ObjectId.{ObjectId}
use Rattle.resync_copy.proofs.lists.put_objects.Given as goal

abbrev pub invariant-loop-object : goal.invariant-loop-object
invariant-loop-object l =
    l.objects.items
    ≡ l.initial.objects.items ++ map (λ (o : ObjectId). record { component = l.component.id; extent = l.component.extent; object = o }) (take l.object-index l.component.objects)
