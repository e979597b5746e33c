-- A step of a resync or of an extend by copy that goes well lowers what is left.
use Rattle.std.proofs.Common.{ℕ, ◌+◌, ◌<◌, Option, Some, None, length, sym, subst, arith}
use Rattle.flr_base.specs.declared.reply.Range.{Range}
use Rattle.object_target.specs.declared.call.CallAnswer.{CallAnswer}
use Rattle.call_steps.specs.Servers.{Servers}
use Rattle.call_steps.specs.Steps.{Lowers}
use Rattle.resync_copy.specs.declared.phase.CopyStage.{CopyStage}
use Rattle.resync_copy.specs.declared.phase.CopyStage.TheVariants as stage
use Rattle.resync_copy.specs.Calls.{CopyView}
use Rattle.resync_copy.specs.Copies.{first_writer, fences_object, object_at, piece_from, piece_to, puts_chunk, resets_object, settled_objects, settles, stage_at, takes_chunk}
use Rattle.resync_copy.specs.Fitting.{IsSoundStage}
use Rattle.resync_copy.specs.Views.{CopyingView, fences_of, resets_of}
use Rattle.copy_left.specs.Left.{StageGoesWell, copy_left, stage_left}
use Rattle.copy_left.proofs.Counts.{chunks_left, fences_left, from_left, resets_left}

module _ (size : ℕ) (c : CopyView) (s : Servers) where
  settles_lower : (x : CopyingView) (o : Option (ℕ × Range)) → Lowers (copy_left size) (stage_left size (stage.Settle x)) (settles c s x o (Some size))
  settles_lower x (Some told) = tt
  settles_lower x None = let h = from_left size size 0 x in omega (arith, h)

  pub stage_lowers : (next : CopyStage) → IsSoundStage next → StageGoesWell size next s → Lowers (copy_left size) (stage_left size next) (stage_at next c s)
  stage_lowers (stage.Fence x next) sound well =
      subst (λ (a : CallAnswer). Lowers (copy_left size) (stage_left size (stage.Fence x next)) (fences_object c s x next (object_at (fences_of x) next) a)) (sym well)
      (let h = fences_left size x (next + 1) in let lt : next < length (fences_of x) = sound.1 in omega (arith, h, lt))
  stage_lowers (stage.Reset x next) sound well =
      subst (λ (a : CallAnswer). Lowers (copy_left size) (stage_left size (stage.Reset x next)) (resets_object c s x next (object_at (resets_of x) next) a)) (sym well)
      (let h = resets_left size x (next + 1) in omega (arith, h))
  stage_lowers (stage.Settle x) sound well =
      subst (λ (o : Option ℕ). Lowers (copy_left size) (stage_left size (stage.Settle x)) (settles c s x (first_writer s.locks c.client (settled_objects x)) o)) (sym well)
      (settles_lower x (first_writer s.locks c.client (settled_objects x)))
  stage_lowers (stage.Take h) sound well =
      subst (λ (a : CallAnswer). Lowers (copy_left size) (stage_left size (stage.Take h)) (takes_chunk c s h (piece_from h) a)) (sym well) (omega arith)
  stage_lowers (stage.Put h bytes) sound well =
      subst (λ (a : CallAnswer). Lowers (copy_left size) (stage_left size (stage.Put h bytes)) (puts_chunk c s h bytes (piece_to h) a)) (sym well)
      (let e = chunks_left size h.size h.place h.failed h.last (h.number + 1) h.copying in omega (arith, e))
  stage_lowers (stage.Done key cleared left) sound well = absurd well
