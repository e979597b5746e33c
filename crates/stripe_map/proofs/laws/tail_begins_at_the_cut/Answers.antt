use Rattle.stripe_map.proofs.TailLaws.{tail_at_cut}
use Rattle.stripe_map.proofs.laws.tail_begins_at_the_cut.Goals as goal

pub returns : goal.returns
returns c = record { law = tail_at_cut }
