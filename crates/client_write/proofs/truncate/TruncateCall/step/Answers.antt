use Rattle.std.proofs.Common.{sym, subst}
use Rattle.call_steps.specs.Servers.{servers}
use Rattle.client_write.specs.Calls.{TruncateView}
use Rattle.client_write.specs.CutFitting.{CutFitsAt, CutTakesNoMemory}
use Rattle.client_write.specs.Truncates.{truncate_by}
use Rattle.client_write.specs.declared.phase.CutAt.{CutAt}
use Rattle.client_write.proofs.truncate.TruncateCall.step.Goals as goal

pub open-requires-clause-share : goal.open-requires-clause-share
open-requires-clause-share c =
    (subst (λ (a : CutAt). CutFitsAt a (truncate_by c.self.inside.asked c.self.inside.at) (servers c.args.meta.now c.args.targets.now c.args.locks.now)) c.in-Open.is
    (subst (λ (v : TruncateView). CutFitsAt v.at v (servers c.args.meta.now c.args.targets.now c.args.locks.now)) (sym c.self.view_is) c.requires.fits.phase)).0

pub returns-in-Open-clause-free : goal.returns-in-Open-clause-free
returns-in-Open-clause-free c = λ refused.
    c.open.ensures.free
    (subst (λ (a : CutAt). CutTakesNoMemory a (truncate_by c.self.inside.asked c.self.inside.at) c.args.step (servers c.args.meta.now c.args.targets.now c.args.locks.now)) c.in-Open.is
    (subst (λ (v : TruncateView). CutTakesNoMemory v.at v c.args.step (servers c.args.meta.now c.args.targets.now c.args.locks.now)) (sym c.self.view_is) refused))
