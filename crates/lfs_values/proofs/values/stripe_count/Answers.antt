use Rattle.lfs_values.proofs.ValueLaws.{stripe_count_spelled, stripe_count_within}
use Rattle.lfs_values.proofs.values.stripe_count.Goals as goal

pub returns-clause-spelled : goal.returns-clause-spelled
returns-clause-spelled c = λ n. rw c.read_stripe_count.ensures (stripe_count_spelled c.args.word.now n)

pub returns-clause-within : goal.returns-clause-within
returns-clause-within c = rw c.read_stripe_count.ensures (stripe_count_within c.args.word.now)
