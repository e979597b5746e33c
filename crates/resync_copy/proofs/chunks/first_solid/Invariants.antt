use Rattle.std.proofs.Common.{◌≡◌}
use Rattle.resync_copy.specs.Chunks.{chunks_below, chunks_between, first_solid}
use Rattle.resync_copy.proofs.chunks.first_solid.Given as goal

abbrev pub invariant-loop-chunk : goal.invariant-loop-chunk
invariant-loop-chunk l = record {
  same : first_solid l.layout.components l.failed (chunks_between l.first l.end) ≡ first_solid l.layout.components l.failed (chunks_between l.chunk l.end);
  last : l.chunk-end ≡ chunks_below l.end;
}
