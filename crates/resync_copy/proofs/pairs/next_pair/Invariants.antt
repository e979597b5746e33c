use Rattle.std.proofs.Common.{◌≡◌, not}
use Rattle.std.specs.Prelude.{find}
use Rattle.resync_copy.specs.Chunks.{chunks_below, chunks_between}
use Rattle.resync_copy.specs.Merges.{are_holes}
use Rattle.resync_copy.proofs.pairs.next_pair.Given as goal

abbrev pub invariant-loop-chunk : goal.invariant-loop-chunk
invariant-loop-chunk l = record {
  same : find (λ chunk. not (are_holes l.pair chunk)) (chunks_between l.pair.number l.pair.size) ≡ find (λ chunk. not (are_holes l.pair chunk)) (chunks_between l.chunk l.pair.size);
  last : l.chunk-end ≡ chunks_below l.pair.size;
}
