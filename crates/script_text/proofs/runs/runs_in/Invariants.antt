use Rattle.std.proofs.Common.{length}
use Rattle.text_words.specs.Pieces.{words_of}
use Rattle.script_text.proofs.ScheduleLaws.{RunsSoFar}
use Rattle.script_text.proofs.runs.runs_in.Given as goal

abbrev pub invariant-loop-word : goal.invariant-loop-word
invariant-loop-word l = RunsSoFar (words_of l.words) (words_of l.rest) l.runs.items l.place

abbrev pub decreases-loop-word : goal.decreases-loop-word
decreases-loop-word l = length (words_of l.rest)
