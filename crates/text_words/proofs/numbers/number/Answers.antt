use Rattle.text_words.proofs.Spellings.{number_spelled}
use Rattle.text_words.proofs.numbers.number.Goals as goal

pub returns-clause-spelled : goal.returns-clause-spelled
returns-clause-spelled c = λ n. rw c.read.ensures (number_spelled c.args.word.now n)
