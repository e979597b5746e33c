use Rattle.std.proofs.Common.{◌≡◌, ℕ, ◌-◌, List, ◌∷◌, [], ◌++◌, length, Some, ap, sym, ◌∙◌}
use Rattle.std.proofs.lemmas.List.{length-replicate}
use Rattle.flr_base.specs.declared.reply.ObjectId.{ObjectId}
use Rattle.flr_base.specs.declared.reply.Range.{Range}
use Rattle.object_target.specs.declared.call.CallAnswer.TheVariants as answer
use Rattle.call_steps.specs.Pieces.{length_of, object_of}
use Rattle.call_steps.specs.Servers.{next_call_on, servers}
use Rattle.resync_copy.specs.declared.merge_phase.MergeStage.{MergeStage}
use Rattle.resync_copy.specs.declared.merge_phase.MergeStage.TheVariants as merge
use Rattle.resync_copy.specs.declared.merge_phase.Pair.{Pair}
use Rattle.resync_copy.specs.declared.phase.CopyAt.TheVariants as at
use Rattle.resync_copy.specs.Copies.{bytes_in, copy_by}
use Rattle.resync_copy.specs.Merges.{compares, their_piece, theirs_from}
use Rattle.resync_copy.proofs.PartLaws.{there}
use Rattle.resync_copy.proofs.StepLaws.{failed_next}
use Rattle.resync_copy.proofs.TakeLaws.{piece_bytes, piece_goes, theirs_come}
use Rattle.resync_copy.proofs.phase.Asked.take_theirs.Goals as goal

pub read-requires-clause-there : goal.read-requires-clause-there
read-requires-clause-there c = there c.args.targets.now c.args.pair.comparing.theirs.layout.components c.their_spot-spot.result.object c.requires.there c.their_spot-spot.ensures.named

pub returns-in-Ok-read : goal.returns-in-Ok-read
returns-in-Ok-read c = record {
  step = λ meta locks.
      let p = c.args.pair in
      let spot = c.their_spot-spot.result in
      let are = c.their_spot-spot.ensures in
      let call = copy_by c.args.self (at.Merge (merge.TakeTheirs p c.args.ours)) in
      let old = servers meta c.args.targets.now locks in
      let long : length_of (their_piece p) ≡ length c.in-Ok-zeros.bytes.items =
      ap (λ (r : Range). r.end - r.start) are.range ∙ sym (ap (λ (bs : List ℕ). length bs) c.in-Ok-zeros.ensures ∙ length-replicate _ 0 ∙ ap (λ (r : Range). r.end - r.start) c.range_of-range.ensures) in
      let got : c.from_vec.result ≡ bytes_in old (their_piece p) =
      c.from_vec.ensures.same ∙ piece_bytes meta c.args.targets.now locks (their_piece p) spot.object spot.offset (length c.in-Ok-zeros.bytes.items) _ are.object are.offset long c.in-Ok-read.ensures.over in
      theirs_come call old p c.args.ours spot.object answer.Ok _ are.object c.in-Ok-read.ensures.answer
      (piece_goes meta c.args.targets.now c.read.new.targets locks (their_piece p) spot.object spot.offset (length c.in-Ok-zeros.bytes.items) _ c.merge_call-in-Ok-read.result are.object are.offset long
      (c.merge_call-in-Ok-read.ensures.same ∙ ap (λ (next : MergeStage). copy_by c.args.self (at.Merge next)) (c.compares-next.ensures.next ∙ ap (λ (b : List ℕ). compares p c.args.ours (Some b)) got))
      c.in-Ok-read.ensures.after);
}

pub returns-in-Err-Failed : goal.returns-in-Err-Failed
returns-in-Err-Failed c = record {
  step = λ meta locks.
      let p = c.args.pair in
      let spot = c.their_spot-spot.result in
      let are = c.their_spot-spot.ensures in
      let call = copy_by c.args.self (at.Merge (merge.TakeTheirs p c.args.ours)) in
      let old = servers meta c.args.targets.now locks in
      let came = rw c.in-Err-Failed.field-0-is at c.in-Err-Failed.ensures.answer in
      let long : length_of (their_piece p) ≡ length c.in-Ok-zeros.bytes.items =
      ap (λ (r : Range). r.end - r.start) are.range ∙ sym (ap (λ (bs : List ℕ). length bs) c.in-Ok-zeros.ensures ∙ length-replicate _ 0 ∙ ap (λ (r : Range). r.end - r.start) c.range_of-range.ensures) in
      let more : c.in-Ok.failed ≡ p.their_failed ++ (their_piece p).component ∷ [] = c.in-Ok.ensures ∙ ap (λ (k : ℕ). p.their_failed ++ k ∷ []) (sym are.component) in
      let last : c.failed_call.result ≡ next_call_on c.args.targets.now (object_of (their_piece p)).target =
      failed_next c.args.targets.now spot.object.target _ c.failed_call.result c.failed_call.ensures came.1 ∙ ap (λ (o : ObjectId). next_call_on c.args.targets.now o.target) (sym are.object) in
      theirs_come call old p c.args.ours spot.object answer.Failed _ are.object came.0
      (piece_goes meta c.args.targets.now c.read.new.targets locks (their_piece p) spot.object spot.offset (length c.in-Ok-zeros.bytes.items) _ c.merge_call-in-Err-Failed.result are.object are.offset long
      (c.merge_call-in-Err-Failed.ensures.same ∙ ap (λ (next : MergeStage). copy_by c.args.self (at.Merge next)) (c.theirs_from-next.ensures.next ∙ ap (λ (q : Pair). theirs_from q c.args.ours) (c.their_again-pair.ensures ∙ (λ j. record p { their_failed = more j; last = Some (last j) }))))
      (rw c.in-Err-Failed.field-0-is at c.in-Err-Failed.ensures.after));
}
