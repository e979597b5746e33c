use Rattle.std.proofs.Common.{◌≡◌, ◌++◌, take}
use Rattle.std.specs.List.{flat_map}
use Rattle.lfs_words.specs.Printing.{part_words, after_spaces}
use Rattle.lfs_words.proofs.options.put_parts.Given as goal

-- the parts before this one are put
abbrev pub invariant-loop-part : goal.invariant-loop-part
invariant-loop-part l = l.out.items ≡ l.fn.out.items ++ after_spaces (flat_map part_words (take l.part-index l.parts))
