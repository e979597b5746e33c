use Rattle.reply_read.proofs.AnswerLaws.{long_none}
use Rattle.reply_read.proofs.replies.long_of.Goals as goal

pub returns-in-len2-up : goal.returns-in-len2-up
returns-in-len2-up c = long_none c.args.verb.now c.args.a.now c.args.b.now c.args.c.now c.args.more.now c.in-len2-up.len_at_least
