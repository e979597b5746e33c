use Rattle.lfs_values.proofs.FlagLaws.{answer_read, answer_again}
use Rattle.lfs_values.proofs.flags.read_flags.Goals as goal

pub returns-clause-read : goal.returns-clause-read
returns-clause-read c = answer_read c.args.word.now c.read_word.result c.read_word.ensures

pub returns-clause-again : goal.returns-clause-again
returns-clause-again c = answer_again c.args.word.now c.read_word.result c.read_word.ensures
