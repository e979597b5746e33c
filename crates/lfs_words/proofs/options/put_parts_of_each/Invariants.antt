use Rattle.std.proofs.Common.{◌≡◌, ◌++◌, take}
use Rattle.std.specs.List.{flat_map}
use Rattle.lfs_words.specs.Printing.{part_words, after_spaces}
use Rattle.lfs_words.proofs.options.put_parts_of_each.Given as goal

-- the parts of the mirrors before this one are put
abbrev pub invariant-loop-mirror : goal.invariant-loop-mirror
invariant-loop-mirror l = l.out.items ≡ l.fn.out.items ++ after_spaces (flat_map (λ m. flat_map part_words m.parts) (take l.mirror-index l.mirrors))
