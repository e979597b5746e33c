use Rattle.std.specs.Prelude.{codes}
use Rattle.std.specs.Fmt.{decimal}
use Rattle.mirror_admin.proofs.DefaultNames.{other_front, right_rest}
use Rattle.mirror_admin.proofs.names.is_end.Goals as goal

pub returns-in-Some : goal.returns-in-Some
returns-in-Some c = right_rest c.spells.result c.args.word.now (codes ".mirror~") c.in-Some.digits.now (decimal c.args.mirror) c.in-Some.ensures c.spells.ensures

pub returns-in-None : goal.returns-in-None
returns-in-None c = other_front c.args.word.now (codes ".mirror~") (decimal c.args.mirror) c.in-None.ensures
