use Rattle.std.proofs.Common.{◌≡◌, ℕ}
use Rattle.std.specs.List.{flat_map, range_with_len}
use Rattle.mirror_verify.specs.Blocks.{block, copies_in}
use Rattle.mirror_verify.proofs.blocks.copies_of.Given as goal

abbrev pub invariant-loop-index : goal.invariant-loop-index
invariant-loop-index l = l.copies.items ≡ flat_map (λ (index : ℕ). copies_in l.components (block l.size index)) (range_with_len 0 l.index)
