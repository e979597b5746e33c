use Rattle.std.proofs.Common.{◌≡◌, take}
use Rattle.lfs_words.specs.Checking.{expanded}
use Rattle.lfs_words.proofs.check.expand.Given as goal

-- the mirrors before this one stand as often as they are to
abbrev pub invariant-loop-mirror : goal.invariant-loop-mirror
invariant-loop-mirror l = l.all ≡ expanded (take l.mirror-index l.mirrors)
