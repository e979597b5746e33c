use Rattle.std.proofs.Common.{◌≡◌, Option, ℕ, ap, refl, sym, ◌∙◌}
use Rattle.meta_server.specs.Closing.{size_of}
use Rattle.call_steps.specs.Servers.{servers}
use Rattle.call_steps.specs.Steps.{Going}
use Rattle.resync_copy.specs.declared.phase.CopyAt.TheVariants as at
use Rattle.resync_copy.specs.declared.phase.CopyStage.{CopyStage}
use Rattle.resync_copy.specs.declared.phase.CopyStage.TheVariants as stage
use Rattle.resync_copy.specs.Calls.{CopyView}
use Rattle.resync_copy.specs.Copies.{copy_by, settled_from}
use Rattle.resync_copy.proofs.StepLaws.{blocked, unblocked}
use Rattle.resync_copy.proofs.phase.Asked.settle.Goals as goal

pub returns-in-Some-clause-step : goal.returns-in-Some-clause-step
returns-in-Some-clause-step c = λ targets.
    (blocked (copy_by c.args.self (at.Copy (stage.Settle c.args.copying))) (servers c.args.meta.now targets c.args.locks.now) c.args.copying _ (size_of c.args.copying.side.file c.args.meta.now) c.in-Some.holder c.in-Some.ensures, c.call.ensures.same, refl)

pub returns-in-None-clause-step : goal.returns-in-None-clause-step
returns-in-None-clause-step c = λ targets.
    let e : c.size_of-size.result ≡ size_of c.args.copying.side.file c.args.meta.now = c.size_of-size.ensures.says ∙ ap (λ n. size_of n c.args.meta.now) c.file.ensures.same in
    let g = c.call-in-None.ensures.same ∙ ap (λ (next : CopyStage). copy_by c.args.self (at.Copy next)) (c.settled_from-next.ensures.next ∙ ap (λ (o : Option ℕ). settled_from c.args.copying o) e) in
    unblocked (copy_by c.args.self (at.Copy (stage.Settle c.args.copying))) (servers c.args.meta.now targets c.args.locks.now) c.args.copying _ (size_of c.args.copying.side.file c.args.meta.now) c.in-None.ensures
    ∙ ap (λ (v : CopyView). Going v (servers c.args.meta.now targets c.args.locks.now)) (sym g)
