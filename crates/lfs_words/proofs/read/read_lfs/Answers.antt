use Rattle.std.proofs.Common.{map}
use Rattle.lfs_words.proofs.Answering.{answer_read, answer_again}
use Rattle.lfs_words.proofs.read.read_lfs.Goals as goal

pub returns-clause-read : goal.returns-clause-read
returns-clause-read c = answer_read c.args.most (map (λ word. word.now) c.args.words.now) c.read.result c.read.ensures.exact c.read.ensures.memory

pub returns-clause-again : goal.returns-clause-again
returns-clause-again c = answer_again c.args.most (map (λ word. word.now) c.args.words.now) c.read.result c.read.ensures.exact
