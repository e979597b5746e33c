use Rattle.lfs_values.proofs.FlagLaws.{printed_spells}
use Rattle.lfs_values.proofs.flags.put_flags.Goals as goal

pub returns-clause-spells : goal.returns-clause-spells
returns-clause-spells c = printed_spells c.args.change
