use Rattle.std.proofs.Common.{◌≡◌, ◌≤◌, length, take}
use Rattle.std.specs.Prelude.{vec_capacity, vec_len}
use Rattle.resync_copy.specs.Parts.{cleared_of}
use Rattle.resync_copy.proofs.parts.put_cleared.Given as goal

abbrev pub invariant-loop-destination : goal.invariant-loop-destination
invariant-loop-destination l = record {
  cleared : l.ids.items ≡ cleared_of (take l.destination-index l.destinations);
  few : vec_len l.ids ≤ l.destination-index;
  room : length l.destinations ≤ vec_capacity l.ids;
}
