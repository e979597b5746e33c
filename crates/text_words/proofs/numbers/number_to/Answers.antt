use Rattle.text_words.proofs.Spellings.{to_spelled}
use Rattle.text_words.proofs.numbers.number_to.Goals as goal

pub returns-clause-spelled : goal.returns-clause-spelled
returns-clause-spelled c = λ n. rw c.read_within.ensures.value (to_spelled c.args.most c.args.word.now n c.ranges.most.fits)
