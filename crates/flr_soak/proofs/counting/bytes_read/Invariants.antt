use Rattle.std.proofs.Common.{◌≡◌, ◌≤◌, ◌*◌, ◌^◌, take}
use Rattle.flr_soak.specs.Counts.{bytes_of}
use Rattle.flr_soak.proofs.counting.bytes_read.Given as goal

abbrev pub invariant-loop-entry : goal.invariant-loop-entry
invariant-loop-entry l = (l.sum ≡ bytes_of (take l.entry-index l.entries)) × (l.sum ≤ 2 ^ 32 * l.entry-index)
