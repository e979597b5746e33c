use Rattle.std.proofs.Common.{arith}
use Rattle.stripe_map.proofs.PlaceLaws.{place_of-back_of}
use Rattle.stripe_map.proofs.mapping.back.Goals as goal

pub returns-clause-undone : goal.returns-clause-undone
returns-clause-undone c =
    rw (c.from.ensures, c.from-2.ensures) (place_of-back_of c.args.stripe c.args.place (omega (arith, c.requires.striped.least_size)) c.requires.index)
