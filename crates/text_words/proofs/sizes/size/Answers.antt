use Rattle.text_words.proofs.SizeLaws.{size_spelled}
use Rattle.text_words.proofs.sizes.size.Goals as goal

pub returns-clause-spelled : goal.returns-clause-spelled
returns-clause-spelled c = λ n. rw c.read_size.ensures (size_spelled c.args.word.now n)
