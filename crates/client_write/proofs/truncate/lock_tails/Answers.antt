use Rattle.std.proofs.Common.{ap, ◌∙◌}
use Rattle.extent_lock.specs.Extents.{locks_but}
use Rattle.client_write.proofs.TailLocks.{others_left, whatever_error}
use Rattle.client_write.proofs.truncate.lock_tails.Goals as goal

pub returns-then-is_err-clause-unchanged : goal.returns-then-is_err-clause-unchanged
returns-then-is_err-clause-unchanged c =
    let own = c.lock_each-result.ensures.own in
    whatever_error c.lock_each-result.result (c.unlock.ensures.others ∙ ap (locks_but c.args.client) own.2 ∙ others_left c.args.client c.args.locks.now own.0 c.requires.none own.1)
