use Rattle.std.proofs.Common.{◌≡◌, ◌↔◌, true, subst, sym}
use Rattle.mirror_verify.specs.declared.phase.VerifyAt.{VerifyAt}
use Rattle.mirror_verify.specs.Fitting.{FitsAt}
use Rattle.mirror_verify.specs.Verifies.{verify_by}
use Rattle.mirror_verify.proofs.phase.Asked.fits.Goals as goal

pub returns-in-Open : goal.returns-in-Open
returns-in-Open c = subst (λ (a : VerifyAt). (c.may_open.result ≡ true) ↔ FitsAt a (verify_by c.args.self.now a) c.args.meta.now c.args.targets.now) (sym c.in-Open.is) c.may_open.ensures

pub returns-in-Take : goal.returns-in-Take
returns-in-Take c = subst (λ (a : VerifyAt). (c.are_there.result ≡ true) ↔ FitsAt a (verify_by c.args.self.now a) c.args.meta.now c.args.targets.now) (sym c.in-Take.is) c.are_there.ensures.says
