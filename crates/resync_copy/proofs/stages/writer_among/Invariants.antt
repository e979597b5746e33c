use Rattle.std.proofs.Common.{◌≡◌, drop, filter}
use Rattle.resync_copy.specs.declared.parts.CopyObject.{CopyObject}
use Rattle.resync_copy.specs.Copies.{first_writer}
use Rattle.resync_copy.specs.Parts.{overlaps_kept}
use Rattle.resync_copy.proofs.stages.writer_among.Given as goal

abbrev pub invariant-loop-object : goal.invariant-loop-object
invariant-loop-object l =
    first_writer l.locks l.client (filter (λ (o : CopyObject). overlaps_kept l.destinations o.extent) l.objects)
    ≡ first_writer l.locks l.client (filter (λ (o : CopyObject). overlaps_kept l.destinations o.extent) (drop l.object-index l.objects))
