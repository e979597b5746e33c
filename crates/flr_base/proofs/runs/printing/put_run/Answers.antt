use Rattle.std.proofs.Common.{◌∷◌, arith}
use Rattle.std.specs.Fmt.{decimal}
use Rattle.flr_base.specs.Runs.{hex}
use Rattle.flr_base.proofs.Puts.{front_more}
use Rattle.flr_base.proofs.runs.printing.put_run.Goals as goal

pub returns-in_err-put_hex : goal.returns-in_err-put_hex
returns-in_err-put_hex c = grind (arith, front_more c.args.out.now.items c.put_hex.new.out.items (hex c.args.run.byte) (42 ∷ decimal c.args.run.count))
