use Rattle.std.proofs.Common.{map}
use Rattle.reply_read.proofs.AnswerLaws.{answer_spelled}
use Rattle.reply_read.proofs.replies.read_answer.Goals as goal

pub returns-clause-spelled : goal.returns-clause-spelled
returns-clause-spelled c = answer_spelled (map (λ word. word.now) c.args.words.now) c.answer_of.result c.answer_of.ensures
