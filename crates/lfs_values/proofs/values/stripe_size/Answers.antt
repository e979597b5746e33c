use Rattle.lfs_values.proofs.ValueLaws.{stripe_size_spelled, stripe_size_within}
use Rattle.lfs_values.proofs.values.stripe_size.Goals as goal

pub returns-clause-spelled : goal.returns-clause-spelled
returns-clause-spelled c = λ n. rw c.read_stripe_size.ensures (stripe_size_spelled c.args.word.now n)

pub returns-clause-within : goal.returns-clause-within
returns-clause-within c = rw c.read_stripe_size.ensures (stripe_size_within c.args.word.now)
