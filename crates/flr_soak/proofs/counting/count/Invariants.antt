use Rattle.std.proofs.Common.{◌≡◌, ◌≤◌, take}
use Rattle.flr_soak.specs.Counts.{count_of}
use Rattle.flr_soak.specs.Kinds.{is_of}
use Rattle.flr_soak.proofs.counting.count.Given as goal

abbrev pub invariant-loop-entry : goal.invariant-loop-entry
invariant-loop-entry l = (l.found ≡ count_of (is_of l.kind) (take l.entry-index l.entries)) × (l.found ≤ l.entry-index)
