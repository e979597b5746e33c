use Rattle.lfs_values.proofs.KeyLaws.{key_spelled}
use Rattle.lfs_values.proofs.keys.key_of.Goals as goal

pub returns-clause-spelled : goal.returns-clause-spelled
returns-clause-spelled c = λ key. rw c.find_key.ensures (key_spelled c.args.word.now key)
