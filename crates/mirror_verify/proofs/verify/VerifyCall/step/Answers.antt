use Rattle.std.proofs.Common.{sym, subst}
use Rattle.mirror_verify.specs.Fitting.{FitsAt, IsFreeAt}
use Rattle.mirror_verify.specs.Verifies.{verify_by}
use Rattle.mirror_verify.specs.Views.{VerifyView}
use Rattle.mirror_verify.specs.declared.phase.VerifyAt.{VerifyAt}
use Rattle.mirror_verify.proofs.verify.VerifyCall.step.Goals as goal

pub open-requires-clause-share : goal.open-requires-clause-share
open-requires-clause-share c =
    (subst (λ (a : VerifyAt). FitsAt a (verify_by c.self.inside.asked c.self.inside.at) c.args.meta.now c.args.targets.now) c.in-Open.is
    (subst (λ (v : VerifyView). FitsAt v.at v c.args.meta.now c.args.targets.now) (sym c.self.view_is) c.requires.fits.phase)).0

pub returns-in-Open-clause-free : goal.returns-in-Open-clause-free
returns-in-Open-clause-free c = λ none.
    c.open.ensures.free
    (subst (λ (a : VerifyAt). IsFreeAt a (verify_by c.self.inside.asked c.self.inside.at) c.args.meta.now) c.in-Open.is
    (subst (λ (v : VerifyView). IsFreeAt v.at v c.args.meta.now) (sym c.self.view_is) none))
