use Rattle.std.proofs.Common.{◌≡◌, length}
use Rattle.text_words.specs.Pieces.{words_of}
use Rattle.text_words.proofs.Firsts.{Skips}
use Rattle.text_words.proofs.cursor.next_word.Given as goal

abbrev pub invariant-loop-rest : goal.invariant-loop-rest
invariant-loop-rest l = record {
  words : words_of l.rest ≡ words_of l.line;
  spaces : Skips l.line l.rest;
}

abbrev pub decreases-loop-rest : goal.decreases-loop-rest
decreases-loop-rest l = length l.rest
