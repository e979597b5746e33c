use Rattle.std.proofs.Common.{◌+◌, ap, ◌∙◌}
use Rattle.object_target.specs.declared.call.CallAnswer.TheVariants as answer
use Rattle.flr_base.specs.declared.reply.FailedCall.{FailedCall}
use Rattle.flr_base.specs.declared.reply.ObjectId.{ObjectId}
use Rattle.call_steps.specs.Servers.{next_call_on, servers}
use Rattle.resync_copy.specs.declared.phase.CopyAt.TheVariants as at
use Rattle.resync_copy.specs.declared.phase.CopyStage.{CopyStage}
use Rattle.resync_copy.specs.declared.phase.CopyStage.TheVariants as stage
use Rattle.resync_copy.specs.Copies.{copies_from, copy_by, leaves_at}
use Rattle.resync_copy.proofs.PartLaws.{there}
use Rattle.resync_copy.proofs.StepLaws.{failed_next, put_comes, put_goes}
use Rattle.resync_copy.proofs.phase.Asked.put.Goals as goal

pub write-requires-clause-there : goal.write-requires-clause-there
write-requires-clause-there c = there c.args.targets.now c.args.chunk.copying.side.layout.components c.spot_to-spot.result.object c.requires.there c.spot_to-spot.ensures.named

pub returns-in-Ok : goal.returns-in-Ok
returns-in-Ok c = record {
  step = λ meta locks.
      let spot = c.spot_to-spot.result in
      let h = c.args.chunk in
      let call = copy_by c.args.self (at.Copy (stage.Put h c.args.bytes)) in
      put_comes call (servers meta c.args.targets.now locks) h c.args.bytes c.version-version.result spot.object answer.Ok _ c.spot_to-spot.ensures.object c.version-version.ensures.same c.in-Ok.ensures.answer
      (put_goes meta c.args.targets.now c.write.new.targets locks h c.args.bytes _ spot.offset c.version-version.result spot.object _ c.call.result c.spot_to-spot.ensures.object c.spot_to-spot.ensures.offset c.version-version.ensures.same
      (c.call.ensures.same ∙ ap (λ (next : CopyStage). copy_by c.args.self (at.Copy next)) (c.behind-next.ensures.next))
      c.as_slice.ensures.same c.in-Ok.ensures.after);
}

pub returns-in-Err-Old : goal.returns-in-Err-Old
returns-in-Err-Old c = record {
  step = λ meta locks.
      let spot = c.spot_to-spot.result in
      let h = c.args.chunk in
      let call = copy_by c.args.self (at.Copy (stage.Put h c.args.bytes)) in
      put_comes call (servers meta c.args.targets.now locks) h c.args.bytes c.version-version.result spot.object _ _ c.spot_to-spot.ensures.object c.version-version.ensures.same (rw c.in-Err-Old.field-0-is at c.in-Err-Old.ensures.answer)
      (put_goes meta c.args.targets.now c.write.new.targets locks h c.args.bytes _ spot.offset c.version-version.result spot.object _ c.call-in-Err-Old.result c.spot_to-spot.ensures.object c.spot_to-spot.ensures.offset c.version-version.ensures.same
      (c.call-in-Err-Old.ensures.same ∙ ap (λ (next : CopyStage). copy_by c.args.self (at.Copy next)) (c.clears_none-next.ensures.next))
      c.as_slice.ensures.same (rw c.in-Err-Old.field-0-is at c.in-Err-Old.ensures.after));
}

pub returns-in-Err-Failed : goal.returns-in-Err-Failed
returns-in-Err-Failed c = record {
  step = λ meta locks.
      let spot = c.spot_to-spot.result in
      let h = c.args.chunk in
      let call = copy_by c.args.self (at.Copy (stage.Put h c.args.bytes)) in
      let came = rw c.in-Err-Failed.field-0-is at c.in-Err-Failed.ensures.answer in
      put_comes call (servers meta c.args.targets.now locks) h c.args.bytes c.version-version.result spot.object answer.Failed _ c.spot_to-spot.ensures.object c.version-version.ensures.same came.0
      (put_goes meta c.args.targets.now c.write.new.targets locks h c.args.bytes _ spot.offset c.version-version.result spot.object _ c.call-in-Err-Failed.result c.spot_to-spot.ensures.object c.spot_to-spot.ensures.offset c.version-version.ensures.same
      (c.call-in-Err-Failed.ensures.same ∙ ap (λ (next : CopyStage). copy_by c.args.self (at.Copy next)) (c.leaves-next.ensures.next ∙ ap (λ (f : FailedCall). copies_from h.size (h.place + 1) (leaves_at h.copying h.place f)) (failed_next c.args.targets.now spot.object.target _ c.failed_call.result c.failed_call.ensures came.1 ∙ ap (λ (o : ObjectId). next_call_on c.args.targets.now o.target) c.spot_to-spot.ensures.object)))
      c.as_slice.ensures.same (rw c.in-Err-Failed.field-0-is at c.in-Err-Failed.ensures.after));
}
