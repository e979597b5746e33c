use Rattle.std.proofs.Common.{◌≡◌, ◌+◌, length, take}
use Rattle.lfs_words.specs.Checking.{expanded}
use Rattle.lfs_words.proofs.check.are_more.Given as goal

-- what is left, and the mirrors before this one, are what may be
abbrev pub invariant-loop-mirror : goal.invariant-loop-mirror
invariant-loop-mirror l = l.left + length (expanded (take l.mirror-index l.mirrors)) ≡ l.most
