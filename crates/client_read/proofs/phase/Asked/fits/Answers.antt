use Rattle.std.proofs.Common.{◌≡◌, ◌↔◌, true, subst, sym}
use Rattle.call_steps.specs.Servers.{servers}
use Rattle.client_read.specs.declared.phase.ReadAt.{ReadAt}
use Rattle.client_read.specs.Fitting.{FitsAt}
use Rattle.client_read.specs.Reads.{read_by}
use Rattle.client_read.proofs.phase.Asked.fits.Goals as goal

pub returns-in-Open : goal.returns-in-Open
returns-in-Open c = λ locks.
    subst (λ (a : ReadAt). (c.may_share.result ≡ true) ↔ FitsAt a (read_by c.args.self.now a) (servers c.args.meta.now c.args.targets.now locks)) (sym c.in-Open.is) c.may_share.ensures.says

pub returns-in-Take : goal.returns-in-Take
returns-in-Take c = λ locks.
    subst (λ (a : ReadAt). (c.are_there.result ≡ true) ↔ FitsAt a (read_by c.args.self.now a) (servers c.args.meta.now c.args.targets.now locks)) (sym c.in-Take.is) c.are_there.ensures.says
