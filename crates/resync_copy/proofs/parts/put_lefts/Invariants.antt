use Rattle.std.proofs.Common.{◌≡◌, ◌≤◌, length, take}
use Rattle.std.specs.Prelude.{vec_capacity, vec_len}
use Rattle.resync_copy.specs.Parts.{lefts_of}
use Rattle.resync_copy.proofs.parts.put_lefts.Given as goal

abbrev pub invariant-loop-destination : goal.invariant-loop-destination
invariant-loop-destination l = record {
  lefts : l.lefts.items ≡ lefts_of (take l.destination-index l.destinations);
  few : vec_len l.lefts ≤ l.destination-index;
  room : length l.destinations ≤ vec_capacity l.lefts;
}
