use Rattle.std.proofs.Common.{◌≡◌, ◌++◌, replicate}
use Rattle.lfs_words.specs.Checking.{mirror_of}
use Rattle.lfs_words.proofs.check.push_times.Given as goal

-- the mirror is put so many times
abbrev pub invariant-loop-time : goal.invariant-loop-time
invariant-loop-time l = l.all ≡ l.fn.all ++ replicate l._time (mirror_of l.mirror)
