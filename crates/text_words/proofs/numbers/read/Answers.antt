use Rattle.std.proofs.Common.{arith}
use Rattle.text_words.proofs.Decimals.{more}
use Rattle.text_words.proofs.numbers.read.Goals as goal

pub loop-byte-preserved : goal.loop-byte-preserved
loop-byte-preserved c = rw c.from-digit.ensures (more c.args.word.now c.loop-byte.byte-index c.loop-byte.value (omega arith) c.loop-byte.invariant (omega arith) (omega arith))
