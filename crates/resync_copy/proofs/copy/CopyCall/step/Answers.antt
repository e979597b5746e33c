use Rattle.std.proofs.Common.{◌≡◌, ap, sym, subst, ◌∙◌}
use Rattle.call_steps.specs.Servers.{servers}
use Rattle.call_steps.specs.Steps.{HasMemory, Steps}
use Rattle.resync_copy.specs.declared.phase.CopyAt.TheVariants as at
use Rattle.resync_copy.specs.declared.phase.CopyStage.{CopyStage}
use Rattle.resync_copy.specs.declared.phase.Phase.{Phase}
use Rattle.resync_copy.specs.Calls.{CopyView}
use Rattle.resync_copy.specs.Copies.{copy_by, fences_from}
use Rattle.resync_copy.specs.Fitting.{FitsAt, IsSoundPhase, TakesNoMemory}
use Rattle.resync_copy.specs.Steps.{at_of, copy_at}
use Rattle.resync_copy.specs.Views.{CopyingView}
use Rattle.resync_copy.proofs.BeginLaws.{wants_memory}
use Rattle.resync_copy.proofs.copy.CopyCall.step.Goals as goal

pub stage-requires-clause-fits : goal.stage-requires-clause-fits
stage-requires-clause-fits c =
    let e : c.args.self ≡ copy_by c.self.inside.asked (at.Copy c.fences_from.result) =
    sym c.self.view_is ∙ ap (λ (p : Phase). copy_by c.self.inside.asked (at_of p)) c.in-Begun.is
    ∙ ap (λ (x : CopyingView). copy_by c.self.inside.asked (at.Copy (fences_from x 0))) (sym c.in-Ok.ensures.begun)
    ∙ ap (λ (next : CopyStage). copy_by c.self.inside.asked (at.Copy next)) (sym c.fences_from.ensures.next) in
    subst (λ (v : CopyView). FitsAt v.at v (servers c.args.meta.now c.args.targets.now c.args.locks.now)) e c.requires.fits.stage

pub returns-in-Ok-clause-step : goal.returns-in-Ok-clause-step
returns-in-Ok-clause-step c =
    let e : c.args.self ≡ copy_by c.self.inside.asked (at.Copy c.fences_from.result) =
    sym c.self.view_is ∙ ap (λ (p : Phase). copy_by c.self.inside.asked (at_of p)) c.in-Begun.is
    ∙ ap (λ (x : CopyingView). copy_by c.self.inside.asked (at.Copy (fences_from x 0))) (sym c.in-Ok.ensures.begun)
    ∙ ap (λ (next : CopyStage). copy_by c.self.inside.asked (at.Copy next)) (sym c.fences_from.ensures.next) in
    subst (λ (v : CopyView). Steps v (servers c.args.meta.now c.args.targets.now c.args.locks.now) c.stage.result (servers c.stage.new.meta c.stage.new.targets c.args.locks.now) (copy_at v.at v (servers c.args.meta.now c.args.targets.now c.args.locks.now))) (sym e) c.stage.ensures.step

pub returns-in-Ok-clause-free : goal.returns-in-Ok-clause-free
returns-in-Ok-clause-free c =
    let e : c.args.self ≡ copy_by c.self.inside.asked (at.Copy c.fences_from.result) =
    sym c.self.view_is ∙ ap (λ (p : Phase). copy_by c.self.inside.asked (at_of p)) c.in-Begun.is
    ∙ ap (λ (x : CopyingView). copy_by c.self.inside.asked (at.Copy (fences_from x 0))) (sym c.in-Ok.ensures.begun)
    ∙ ap (λ (next : CopyStage). copy_by c.self.inside.asked (at.Copy next)) (sym c.fences_from.ensures.next) in
    subst (λ (v : CopyView). TakesNoMemory v (servers c.args.meta.now c.args.targets.now c.args.locks.now) → HasMemory c.stage.result) (sym e) c.stage.ensures.free

pub returns-in-Err-clause-free : goal.returns-in-Err-clause-free
returns-in-Err-clause-free c =
    let sound = subst (λ (p : Phase). IsSoundPhase p) c.in-Begun.is c.self.invariant.1 in
    let e = sym c.self.view_is ∙ ap (λ (p : Phase). copy_by c.self.inside.asked (at_of p)) c.in-Begun.is in
    λ h. wants_memory c.in-Begun.side c.in-Begun.ids sound.0 sound.1 (subst (λ (v : CopyView). TakesNoMemory v (servers c.args.meta.now c.args.targets.now c.args.locks.now)) e h)
