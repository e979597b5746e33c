use Rattle.std.proofs.Common.{map}
use Rattle.lfs_values.proofs.FlagLaws.{FlagsSoFar}
use Rattle.lfs_values.proofs.flags.change_by.Given as goal

abbrev pub invariant-loop-word : goal.invariant-loop-word
invariant-loop-word l = FlagsSoFar (map (λ w. w.now) l.words) l.word-index l.change
