use Rattle.std.proofs.Common.{◌≡◌, ◌++◌, take}
use Rattle.std.specs.List.{flat_map}
use Rattle.lfs_words.specs.Printing.{mirror_words, after_spaces}
use Rattle.lfs_words.proofs.options.put_each.Given as goal

-- the mirrors before this one are put
abbrev pub invariant-loop-mirror : goal.invariant-loop-mirror
invariant-loop-mirror l = l.out.items ≡ l.fn.out.items ++ after_spaces (flat_map mirror_words (take l.mirror-index l.mirrors))
