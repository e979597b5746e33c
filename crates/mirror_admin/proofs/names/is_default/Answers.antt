use Rattle.lfs_words.specs.Naming.{default_end}
use Rattle.mirror_admin.proofs.DefaultNames.{other_front, right_rest}
use Rattle.mirror_admin.proofs.names.is_default.Goals as goal

pub returns-in-Some : goal.returns-in-Some
returns-in-Some c = right_rest c.is_end.result c.args.word.now c.args.name.now c.in-Some.rest.now (default_end c.args.mirror) c.in-Some.ensures c.is_end.ensures

pub returns-in-None : goal.returns-in-None
returns-in-None c = other_front c.args.word.now c.args.name.now (default_end c.args.mirror) c.in-None.ensures
