use Rattle.std.proofs.Common.{arith}
use Rattle.stripe_map.proofs.CutLaws.{cuts_tile, cuts_each, cuts_units}
use Rattle.stripe_map.proofs.cutting.cut.Goals as goal

pub returns-clause-whole : goal.returns-clause-whole
returns-clause-whole c = λ le. cuts_tile c.args.stripe c.args.range.start c.args.range.end (omega (arith, c.requires.striped.least_size)) le

pub returns-clause-each : goal.returns-clause-each
returns-clause-each c = cuts_each c.args.stripe c.args.range.start c.args.range.end (omega (arith, c.requires.striped.least_size))

pub returns-clause-units : goal.returns-clause-units
returns-clause-units c = cuts_units c.args.stripe c.args.range.start c.args.range.end (omega (arith, c.requires.striped.least_size))
