use Rattle.std.proofs.Common.{◌≡◌, length}
use Rattle.resync_copy.specs.Copies.{copies_from}
use Rattle.resync_copy.specs.Fitting.{IsCopying}
use Rattle.resync_copy.proofs.chunks.copies_from.Given as goal

abbrev pub invariant-loop-place : goal.invariant-loop-place
invariant-loop-place l = record {
  next : copies_from l.size l.first l.initial.copying ≡ copies_from l.size l.place l.copying;
  count : length l.copying.destinations ≡ l.place-end;
  sound : IsCopying l.initial.copying → IsCopying l.copying;
}
