use Rattle.std.proofs.Common.{sym, subst}
use Rattle.call_steps.specs.Servers.{servers}
use Rattle.client_read.specs.Fitting.{FitsAt}
use Rattle.client_read.specs.Reads.{read_by}
use Rattle.client_read.specs.Views.{ReadView}
use Rattle.client_read.specs.declared.phase.ReadAt.{ReadAt}
use Rattle.client_read.proofs.read.ReadCall.step.Goals as goal

pub open-requires-clause-share : goal.open-requires-clause-share
open-requires-clause-share c =
    subst (λ (a : ReadAt). FitsAt a (read_by c.self.inside.asked c.self.inside.at) (servers c.args.meta.now c.args.targets.now c.args.locks.now)) c.in-Open.is
    (subst (λ (v : ReadView). FitsAt v.at v (servers c.args.meta.now c.args.targets.now c.args.locks.now)) (sym c.self.view_is) c.requires.fits.phase)
