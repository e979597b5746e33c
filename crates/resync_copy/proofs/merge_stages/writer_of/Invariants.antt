use Rattle.std.proofs.Common.{◌≡◌, drop}
use Rattle.resync_copy.specs.Copies.{first_writer}
use Rattle.resync_copy.proofs.merge_stages.writer_of.Given as goal

abbrev pub invariant-loop-object : goal.invariant-loop-object
invariant-loop-object l = first_writer l.locks l.client l.objects ≡ first_writer l.locks l.client (drop l.object-index l.objects)
