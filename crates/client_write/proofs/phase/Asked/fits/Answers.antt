use Rattle.std.proofs.Common.{◌≡◌, ◌↔◌, true, subst, sym}
use Rattle.meta_server.specs.declared.answers.Opened.{Opened}
use Rattle.call_steps.specs.Servers.{servers, AreThere}
use Rattle.client_write.specs.declared.phase.WriteAt.{WriteAt}
use Rattle.client_write.specs.Fitting.{FitsAt}
use Rattle.client_write.specs.Writes.{write_by}
use Rattle.client_write.proofs.phase.Asked.fits.Goals as goal

pub returns-in-Send : goal.returns-in-Send
returns-in-Send c = λ locks.
    subst (λ (a : WriteAt). (c.are_there.result ≡ true) ↔ FitsAt a (write_by c.args.self.now a) (servers c.args.meta.now c.args.targets.now locks)) (sym c.in-Send.is)
    (subst (λ (o : Opened). (c.are_there.result ≡ true) ↔ AreThere c.args.targets.now o.layout.components) c.opened.ensures.same c.are_there.ensures.says)

pub returns-in-Open : goal.returns-in-Open
returns-in-Open c = λ locks.
    subst (λ (a : WriteAt). (c.may_open.result ≡ true) ↔ FitsAt a (write_by c.args.self.now a) (servers c.args.meta.now c.args.targets.now locks)) (sym c.in-Open.is) c.may_open.ensures
