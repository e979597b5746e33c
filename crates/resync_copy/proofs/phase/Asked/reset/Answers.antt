use Rattle.std.proofs.Common.{◌+◌, ap, ◌∙◌}
use Rattle.object_target.specs.declared.call.CallAnswer.TheVariants as answer
use Rattle.object_target.specs.Calls.{after_reset}
use Rattle.call_steps.specs.Servers.{servers, target_at}
use Rattle.resync_copy.specs.declared.phase.CopyAt.TheVariants as at
use Rattle.resync_copy.specs.declared.phase.CopyStage.{CopyStage}
use Rattle.resync_copy.specs.declared.phase.CopyStage.TheVariants as stage
use Rattle.resync_copy.specs.Copies.{copy_by, leaves_with, resets_from}
use Rattle.resync_copy.specs.Views.{CopyingView}
use Rattle.resync_copy.proofs.PartLaws.{there}
use Rattle.resync_copy.proofs.StepLaws.{failed_next, goes_to, reset_comes}
use Rattle.resync_copy.proofs.phase.Asked.reset.Goals as goal

pub reset-requires-clause-there : goal.reset-requires-clause-there
reset-requires-clause-there c = there c.args.targets.now c.args.copying.side.layout.components c.reset_at-part.result.object c.requires.there c.reset_at-part.ensures.named

pub returns-in-Ok : goal.returns-in-Ok
returns-in-Ok c = record {
  step = λ meta locks.
      let part = c.reset_at-part.result in
      let call = copy_by c.args.self (at.Copy (stage.Reset c.args.copying c.args.next)) in
      let old = servers meta c.args.targets.now locks in
      reset_comes call old c.args.copying c.args.next c.version-version.result part answer.Ok _ c.reset_at-part.ensures.same c.version-version.ensures.same c.in-Ok.ensures.answer
      (goes_to call meta c.args.targets.now c.reset.new.targets locks _ c.call.result part.object.target _ _
      (c.call.ensures.same ∙ ap (λ (next : CopyStage). copy_by c.args.self (at.Copy next)) c.resets_from.ensures.next)
      c.in-Ok.ensures.after (ap (after_reset (target_at c.args.targets.now part.object.target) part.object.number) c.version-version.ensures.same));
}

pub returns-in-Err-Old : goal.returns-in-Err-Old
returns-in-Err-Old c = record {
  step = λ meta locks.
      let part = c.reset_at-part.result in
      let call = copy_by c.args.self (at.Copy (stage.Reset c.args.copying c.args.next)) in
      let old = servers meta c.args.targets.now locks in
      reset_comes call old c.args.copying c.args.next c.version-version.result part _ _ c.reset_at-part.ensures.same c.version-version.ensures.same (rw c.in-Err-Old.field-0-is at c.in-Err-Old.ensures.answer)
      (goes_to call meta c.args.targets.now c.reset.new.targets locks _ c.call-in-Err-Old.result part.object.target _ _
      (c.call-in-Err-Old.ensures.same ∙ ap (λ (next : CopyStage). copy_by c.args.self (at.Copy next)) c.clears_none-next.ensures.next)
      (rw c.in-Err-Old.field-0-is at c.in-Err-Old.ensures.after) (ap (after_reset (target_at c.args.targets.now part.object.target) part.object.number) c.version-version.ensures.same));
}

pub returns-in-Err-Failed : goal.returns-in-Err-Failed
returns-in-Err-Failed c = record {
  step = λ meta locks.
      let part = c.reset_at-part.result in
      let call = copy_by c.args.self (at.Copy (stage.Reset c.args.copying c.args.next)) in
      let old = servers meta c.args.targets.now locks in
      let came = rw c.in-Err-Failed.field-0-is at c.in-Err-Failed.ensures.answer in
      reset_comes call old c.args.copying c.args.next c.version-version.result part answer.Failed _ c.reset_at-part.ensures.same c.version-version.ensures.same came.0
      (goes_to call meta c.args.targets.now c.reset.new.targets locks _ c.call-in-Err-Failed.result part.object.target _ _
      (c.call-in-Err-Failed.ensures.same
      ∙ ap (λ (next : CopyStage). copy_by c.args.self (at.Copy next))
      (c.resets_from-in-Err-Failed.ensures.next
      ∙ ap (λ (y : CopyingView). resets_from y (c.args.next + 1)) (c.leave_with.ensures.left ∙ ap (leaves_with c.args.copying part.component) (failed_next c.args.targets.now part.object.target _ c.failed_call.result c.failed_call.ensures came.1))))
      (rw c.in-Err-Failed.field-0-is at c.in-Err-Failed.ensures.after) (ap (after_reset (target_at c.args.targets.now part.object.target) part.object.number) c.version-version.ensures.same));
}
