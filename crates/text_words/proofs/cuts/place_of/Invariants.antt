use Rattle.std.proofs.Common.{take}
use Rattle.text_words.specs.Pieces.{Lacks}
use Rattle.text_words.proofs.cuts.place_of.Given as goal

abbrev pub invariant-loop-at : goal.invariant-loop-at
invariant-loop-at l = Lacks l.sep (take l.at l.text)
