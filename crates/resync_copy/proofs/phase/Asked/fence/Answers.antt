use Rattle.std.proofs.Common.{◌+◌, ap, ◌∙◌}
use Rattle.object_target.specs.declared.call.CallAnswer.TheVariants as answer
use Rattle.object_target.specs.Calls.{after_fence}
use Rattle.call_steps.specs.Servers.{servers, target_at}
use Rattle.resync_copy.specs.declared.phase.CopyAt.TheVariants as at
use Rattle.resync_copy.specs.declared.phase.CopyStage.{CopyStage}
use Rattle.resync_copy.specs.declared.phase.CopyStage.TheVariants as stage
use Rattle.resync_copy.specs.Copies.{copy_by, fences_from, leaves_over}
use Rattle.resync_copy.specs.Views.{CopyingView}
use Rattle.resync_copy.proofs.PartLaws.{there}
use Rattle.resync_copy.proofs.StepLaws.{failed_next, fence_comes, goes_to}
use Rattle.resync_copy.proofs.phase.Asked.fence.Goals as goal

pub fence-requires-clause-there : goal.fence-requires-clause-there
fence-requires-clause-there c = there c.args.targets.now c.args.copying.side.layout.components c.fence_at-part.result.object c.requires.there c.fence_at-part.ensures.named

pub returns-in-Err-Failed : goal.returns-in-Err-Failed
returns-in-Err-Failed c = record {
  step = λ meta locks.
      let part = c.fence_at-part.result in
      let call = copy_by c.args.self (at.Copy (stage.Fence c.args.copying c.args.next)) in
      let old = servers meta c.args.targets.now locks in
      let came = rw c.in-Err-Failed.field-0-is at c.in-Err-Failed.ensures.answer in
      fence_comes call old c.args.copying c.args.next part answer.Failed _ c.fence_at-part.ensures.same came.0
      (goes_to call meta c.args.targets.now c.fence.new.targets locks _ c.call-in-Err-Failed.result part.object.target _ _
      (c.call-in-Err-Failed.ensures.same
      ∙ ap (λ (next : CopyStage). copy_by c.args.self (at.Copy next))
      (c.fences_from-in-Err-Failed.ensures.next
      ∙ ap (λ (y : CopyingView). fences_from y (c.args.next + 1)) (c.leave_over.ensures.left ∙ ap (leaves_over c.args.copying part.extent) (failed_next c.args.targets.now part.object.target _ c.failed_call.result c.failed_call.ensures came.1))))
      (rw c.in-Err-Failed.field-0-is at c.in-Err-Failed.ensures.after) (ap (after_fence (target_at c.args.targets.now part.object.target) part.object.number) c.version-version.ensures.same));
}
