use Rattle.std.proofs.Common.{ap, ◌∙◌}
use Rattle.extent_lock.specs.Extents.{locks_but}
use Rattle.client_write.proofs.TailLocks.{others_left}
use Rattle.client_write.proofs.tails.in_the_way.Goals as goal

pub returns-clause-unchanged : goal.returns-clause-unchanged
returns-clause-unchanged c =
    let own = c.first_in_the_way-found.ensures.own in
    c.unlock.ensures.others ∙ ap (locks_but c.args.client) own.2 ∙ others_left c.args.client c.args.locks.now own.0 c.requires.none own.1
