-- A step of a merge that goes well lowers what is left.
use Rattle.std.proofs.Common.{◌≡◌, ℕ, ◌+◌, ◌<◌, Bool, true, cond, ◌==◌, Option, Some, None, length, sym, ap, subst, ◌∙◌, arith}
use Rattle.std.proofs.lemmas.Bool.Decides.{nat_tests}
use Rattle.flr_base.specs.declared.reply.Range.{Range}
use Rattle.flr_base.specs.declared.reply.Reply.TheVariants as reply
use Rattle.object_target.specs.declared.call.CallAnswer.{CallAnswer}
use Rattle.meta_server.specs.Closing.{size_of}
use Rattle.call_steps.specs.Servers.{Servers}
use Rattle.call_steps.specs.Steps.{Lowers}
use Rattle.resync_copy.specs.declared.merge_phase.MergeStage.{MergeStage}
use Rattle.resync_copy.specs.declared.merge_phase.MergeStage.TheVariants as merge
use Rattle.resync_copy.specs.Calls.{CopyView}
use Rattle.resync_copy.specs.Comparing.{ComparingView, merge_fences}
use Rattle.resync_copy.specs.Copies.{bytes_in, first_writer, object_at}
use Rattle.resync_copy.specs.MergeFitting.{IsSoundMerge}
use Rattle.resync_copy.specs.Merges.{first_pair, merge_done, merge_fences_object, merge_settled, merge_settles, merge_stage_at, our_piece, pairs_from, takes_ours, takes_theirs, their_piece}
use Rattle.copy_left.specs.Left.{copy_left}
use Rattle.copy_left.specs.MergeLeft.{MergeGoesWell, merge_left}
use Rattle.copy_left.proofs.MergeCounts.{compared_left, merge_fences_left, pairs_left, theirs_left}

same_size : (size : ℕ) → (size == size) ≡ true
same_size size = grind (arith, nat_tests)

module _ (size : ℕ) (c : CopyView) (s : Servers) where
  sizes_lower : (x : ComparingView) (o : Option (ℕ × Range)) → Lowers (copy_left size) (merge_left size (merge.Settle x)) (merge_settles c s x o (merge_settled x (Some size) (Some size)))
  sizes_lower x (Some told) = tt
  sizes_lower x None =
      ap (λ (b : Bool). merge_left size (cond b (pairs_from (first_pair x size)) (merge_done x (Some (reply.Sizes size size)))) + 1) (same_size size)
      ∙ (let h = pairs_left size (first_pair x size) in omega (arith, h))

  pub merge_lowers : (next : MergeStage) → IsSoundMerge next → MergeGoesWell size next s → Lowers (copy_left size) (merge_left size next) (merge_stage_at next c s)
  merge_lowers (merge.Fence x next) sound well =
      subst (λ (a : CallAnswer). Lowers (copy_left size) (merge_left size (merge.Fence x next)) (merge_fences_object c s x next (object_at (merge_fences x) next).object a)) (sym well)
      (let h = merge_fences_left size x (next + 1) in let lt : next < length (merge_fences x) = sound.1 in omega (arith, h, lt))
  merge_lowers (merge.Settle x) sound well =
      subst (λ (o : Option ℕ). Lowers (copy_left size) (merge_left size (merge.Settle x)) (merge_settles c s x (first_writer s.locks c.client (merge_fences x)) (merge_settled x o (size_of x.theirs.file s.meta)))) (sym well.0)
      (subst (λ (o : Option ℕ). Lowers (copy_left size) (merge_left size (merge.Settle x)) (merge_settles c s x (first_writer s.locks c.client (merge_fences x)) (merge_settled x (Some size) o))) (sym well.1)
      (sizes_lower x (first_writer s.locks c.client (merge_fences x))))
  merge_lowers (merge.TakeOurs p) sound well =
      subst (λ (a : CallAnswer). Lowers (copy_left size) (merge_left size (merge.TakeOurs p)) (takes_ours c s p (our_piece p) a)) (sym well.0)
      (let h = theirs_left size p (Some (bytes_in s (our_piece p))) well.1 in omega (arith, h))
  merge_lowers (merge.TakeTheirs p ours) sound well =
      subst (λ (a : CallAnswer). Lowers (copy_left size) (merge_left size (merge.TakeTheirs p ours)) (takes_theirs c s p ours (their_piece p) a)) (sym well.0)
      (let h = compared_left size p ours (Some (bytes_in s (their_piece p))) well.1 in omega (arith, h))
  merge_lowers (merge.Done ours theirs refusal) sound well = absurd well
