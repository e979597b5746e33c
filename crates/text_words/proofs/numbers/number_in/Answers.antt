use Rattle.text_words.proofs.Spellings.{from_spelled}
use Rattle.text_words.proofs.numbers.number_in.Goals as goal

pub returns-clause-spelled : goal.returns-clause-spelled
returns-clause-spelled c = λ n. rw c.read_within.ensures.value (from_spelled c.args.least c.args.most c.args.word.now n c.ranges.most.fits)
