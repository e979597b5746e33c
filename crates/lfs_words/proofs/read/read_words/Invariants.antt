use Rattle.std.proofs.Common.{map, take}
use Rattle.flr_base.proofs.Reader.{SoFar}
use Rattle.lfs_words.specs.declared.step.State.TheVariants as state
use Rattle.lfs_words.specs.Reading.{step}
use Rattle.lfs_words.proofs.Lines.{Stands}
use Rattle.lfs_words.proofs.read.read_words.Given as goal

-- what is left to read leads where all words lead, and those that were read lead to the state
abbrev pub invariant-loop-at : goal.invariant-loop-at
invariant-loop-at l = record {
  so_far : SoFar (step l.most) state.Start (map (λ word. word.now) l.words) l.at l.state;
  stands : Stands l.most l.state (take l.at (map (λ word. word.now) l.words));
}
