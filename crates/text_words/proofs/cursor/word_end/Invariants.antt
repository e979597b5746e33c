use Rattle.std.proofs.Common.{◌≡◌, ◌+◌, drop}
use Rattle.text_words.specs.Pieces.{word_len}
use Rattle.text_words.proofs.cursor.word_end.Given as goal

abbrev pub invariant-loop-at : goal.invariant-loop-at
invariant-loop-at l = l.at + word_len (drop l.at l.line) ≡ word_len l.line
