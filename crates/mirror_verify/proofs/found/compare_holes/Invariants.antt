use Rattle.std.proofs.Common.{◌≡◌, ◌+◌, ◌≤◌, drop, length}
use Rattle.std.specs.Prelude.{vec_len, vec_capacity}
use Rattle.mirror_verify.specs.Blocks.{holes_first}
use Rattle.mirror_verify.specs.Findings.{finding, with_holes}
use Rattle.mirror_verify.proofs.found.compare_holes.Given as goal

abbrev pub invariant-loop-copy : goal.invariant-loop-copy
invariant-loop-copy l = record {
  compared : with_holes l.copies (finding l.initial.first.items l.initial.diffs.items) ≡ with_holes (drop l.copy-index l.copies) (finding l.first.items l.diffs.items);
  room : vec_len l.diffs + holes_first (drop l.copy-index l.copies) ≤ vec_capacity l.diffs;
  block : length l.first.items ≤ 65536;
}
