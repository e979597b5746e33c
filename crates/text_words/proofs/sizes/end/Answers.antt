use Rattle.text_words.proofs.SizeLaws.{end_spelled}
use Rattle.text_words.proofs.sizes.end.Goals as goal

pub returns-clause-spelled : goal.returns-clause-spelled
returns-clause-spelled c = λ n. rw c.read_end.ensures (end_spelled c.args.word.now n)
