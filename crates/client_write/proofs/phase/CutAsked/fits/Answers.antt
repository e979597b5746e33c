use Rattle.std.proofs.Common.{◌≡◌, ◌↔◌, true, subst, sym}
use Rattle.meta_server.specs.declared.answers.Opened.{Opened}
use Rattle.call_steps.specs.Servers.{servers, AreThere}
use Rattle.client_write.specs.declared.phase.CutAt.{CutAt}
use Rattle.client_write.specs.CutFitting.{CutFitsAt}
use Rattle.client_write.specs.Truncates.{truncate_by}
use Rattle.client_write.proofs.phase.CutAsked.fits.Goals as goal

pub returns-in-Punch : goal.returns-in-Punch
returns-in-Punch c =
    subst (λ (a : CutAt). (c.are_there.result ≡ true) ↔ CutFitsAt a (truncate_by c.args.self.now a) (servers c.args.meta.now c.args.targets.now c.args.locks.now)) (sym c.in-Punch.is)
    (subst (λ (o : Opened). (c.are_there.result ≡ true) ↔ AreThere c.args.targets.now o.layout.components) c.opened.ensures.same c.are_there.ensures.says)

pub returns-in-Open : goal.returns-in-Open
returns-in-Open c = subst (λ (a : CutAt). (c.may_open.result ≡ true) ↔ CutFitsAt a (truncate_by c.args.self.now a) (servers c.args.meta.now c.args.targets.now c.args.locks.now)) (sym c.in-Open.is) c.may_open.ensures
