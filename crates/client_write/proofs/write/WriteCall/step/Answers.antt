use Rattle.std.proofs.Common.{sym, subst}
use Rattle.call_steps.specs.Servers.{servers}
use Rattle.client_write.specs.Calls.{WriteView}
use Rattle.client_write.specs.Fitting.{FitsAt, TakesNoMemory}
use Rattle.client_write.specs.Writes.{write_by}
use Rattle.client_write.specs.declared.phase.WriteAt.{WriteAt}
use Rattle.client_write.proofs.write.WriteCall.step.Goals as goal

pub open-requires-clause-share : goal.open-requires-clause-share
open-requires-clause-share c =
    (subst (λ (a : WriteAt). FitsAt a (write_by c.self.inside.asked c.self.inside.at) (servers c.args.meta.now c.args.targets.now c.args.locks.now)) c.in-Open.is
    (subst (λ (v : WriteView). FitsAt v.at v (servers c.args.meta.now c.args.targets.now c.args.locks.now)) (sym c.self.view_is) c.requires.fits.phase)).0

pub returns-in-Open-clause-free : goal.returns-in-Open-clause-free
returns-in-Open-clause-free c = λ refused.
    c.open.ensures.free
    (subst (λ (a : WriteAt). TakesNoMemory a (write_by c.self.inside.asked c.self.inside.at) c.args.step (servers c.args.meta.now c.args.targets.now c.args.locks.now)) c.in-Open.is
    (subst (λ (v : WriteView). TakesNoMemory v.at v c.args.step (servers c.args.meta.now c.args.targets.now c.args.locks.now)) (sym c.self.view_is) refused))
