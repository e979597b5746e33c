use Rattle.reply_read.proofs.AnswerLaws.{answer_words_words}
use Rattle.reply_read.proofs.replies.answer_facts.Goals as goal

pub returns : goal.returns
returns c = record { words = answer_words_words }
