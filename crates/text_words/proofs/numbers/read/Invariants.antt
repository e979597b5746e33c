use Rattle.text_words.proofs.Decimals.{ReadsTo}
use Rattle.text_words.proofs.numbers.read.Given as goal

abbrev pub invariant-loop-byte : goal.invariant-loop-byte
invariant-loop-byte l = ReadsTo l.word l.byte-index l.value
