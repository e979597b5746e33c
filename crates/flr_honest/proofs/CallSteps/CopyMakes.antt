-- What each step of a copy and of a merge makes.
use Rattle.std.proofs.Common.{◌≡◌, ℕ, ◌<◌, List, [], ◌∷◌, length, Option, Some, None, refl}
use Rattle.flr_base.specs.declared.reply.Left.{Left}
use Rattle.flr_base.specs.declared.reply.ObjectId.{ObjectId}
use Rattle.flr_base.specs.declared.reply.Range.{Range}
use Rattle.flr_base.specs.declared.reply.Reply.{Reply}
use Rattle.layout_lease.specs.Leases.{KeyView}
use Rattle.mirror_select.specs.declared.types.Piece.{Piece}
use Rattle.object_target.specs.declared.call.CallAnswer.{CallAnswer}
use Rattle.object_target.specs.declared.call.CallAnswer.TheVariants as answer
use Rattle.object_target.specs.Calls.{after_fence, after_reset, fence_answer, read_answer, reset_answer, write_answer}
use Rattle.meta_server.specs.declared.answers.Begun.{Begun}
use Rattle.meta_server.specs.declared.answers.Begun.TheVariants as begun_as
use Rattle.meta_server.specs.Beginning.{copy_begins}
use Rattle.meta_server.specs.Closing.{size_of}
use Rattle.meta_server.specs.Ending.{copy_ends, merge_ends}
use Rattle.meta_server.specs.Outcomes.{Breaks, Ending, Ends, Gives, Holds, Refuses, Waits}
use Rattle.meta_server.specs.Outcomes as meta
use Rattle.call_steps.specs.Pieces.{object_of}
use Rattle.call_steps.specs.Servers.{Servers, with_target}
use Rattle.resync_copy.specs.declared.merge_phase.MergeStage.{MergeStage}
use Rattle.resync_copy.specs.declared.merge_phase.MergeStage.TheVariants as merge
use Rattle.resync_copy.specs.declared.merge_phase.Pair.{Pair}
use Rattle.resync_copy.specs.declared.parts.CopyObject.{CopyObject}
use Rattle.resync_copy.specs.declared.phase.Chunk.{Chunk}
use Rattle.resync_copy.specs.declared.phase.CopyAt.{CopyAt}
use Rattle.resync_copy.specs.declared.phase.CopyAt.TheVariants as at
use Rattle.resync_copy.specs.declared.phase.CopyStage.{CopyStage}
use Rattle.resync_copy.specs.declared.phase.CopyStage.TheVariants as stage
use Rattle.resync_copy.specs.Calls.{CopyView}
use Rattle.resync_copy.specs.Comparing.{ComparingView, merge_fences, version_at}
use Rattle.resync_copy.specs.Copies as copies
use Rattle.resync_copy.specs.Copies.{first_writer, object_at, piece_from, piece_to, settled_objects, target_of}
use Rattle.resync_copy.specs.Merges as merges
use Rattle.resync_copy.specs.Steps.{begins, copy_at}
use Rattle.resync_copy.specs.Views.{CopyingView, fences_of, resets_of}
use Rattle.flr_steps.specs.Traces.{made_by}
use Rattle.flr_sole.proofs.Making.{made_none, made_one}
use Rattle.flr_honest.specs.CallSteps.StepMakes.{copy_makes, fence_entry, fence_made, merge_makes, put_made, reset_entry, reset_made, stage_makes, take_made}
use Rattle.flr_honest.proofs.CallSteps.EachMakes.{one_put, one_taken}
use Rattle.flr_honest.proofs.CallSteps.Making.{Makes}

-- what a phase calls is on a target that is there
abbrev pub CallsThere : Servers → CopyStage → Type 0
CallsThere s (stage.Fence x next) = (object_at (fences_of x) next).object.target < length s.targets
CallsThere s (stage.Reset x next) = (object_at (resets_of x) next).object.target < length s.targets
CallsThere s (stage.Take h) = (object_of (piece_from h)).target < length s.targets
CallsThere s (stage.Put h bytes) = (object_of (piece_to h)).target < length s.targets
CallsThere s (stage.Settle x) = Unit {0}
CallsThere s (stage.Done key cleared left) = Unit {0}

abbrev pub MergeCallsThere : Servers → MergeStage → Type 0
MergeCallsThere s (merge.Fence x next) = (object_at (merge_fences x) next).object.target < length s.targets
MergeCallsThere s (merge.TakeOurs p) = (object_of (merges.our_piece p)).target < length s.targets
MergeCallsThere s (merge.TakeTheirs p ours) = (object_of (merges.their_piece p)).target < length s.targets
MergeCallsThere s (merge.Settle x) = Unit {0}
MergeCallsThere s (merge.Done ours theirs refusal) = Unit {0}

abbrev pub CopyCallsThere : Servers → CopyAt → Type 0
CopyCallsThere s at.Begin = Unit {0}
CopyCallsThere s (at.Copy next) = CallsThere s next
CopyCallsThere s (at.Merge next) = MergeCallsThere s next

module _ (place : ℕ) (s : Servers) (c : CopyView) where
  none : made_by place s.targets s.targets ≡ []
  none = made_none place s.targets

  one_fenced : (o : ObjectId) (version : ℕ) → o.target < length s.targets → made_by place s.targets (with_target s o.target (after_fence (target_of s o) o.number version)).targets ≡ fence_made place s o version ∷ []
  one_fenced o version there = made_one place s.targets o.target (after_fence (target_of s o) o.number version) (fence_entry (target_of s o) o.number version) there refl

  one_reset : (o : ObjectId) (version : ℕ) → o.target < length s.targets → made_by place s.targets (with_target s o.target (after_reset (target_of s o) o.number version)).targets ≡ reset_made place s o version ∷ []
  one_reset o version there = made_one place s.targets o.target (after_reset (target_of s o) o.number version) (reset_entry (target_of s o) o.number version) there refl

  -- ---- a copy

  fences : (x : CopyingView) (next : ℕ) (o : CopyObject) (a : CallAnswer) → o.object.target < length s.targets → Makes place s (fence_made place s o.object x.side.layout.generation ∷ []) (copies.fences_object c s x next o a)
  fences x next o answer.Ok there = one_fenced o.object x.side.layout.generation there
  fences x next o (answer.Old kept) there = one_fenced o.object x.side.layout.generation there
  fences x next o answer.Failed there = one_fenced o.object x.side.layout.generation there

  resets : (x : CopyingView) (next : ℕ) (o : CopyObject) (a : CallAnswer) → o.object.target < length s.targets → Makes place s (reset_made place s o.object x.side.layout.generation ∷ []) (copies.resets_object c s x next o a)
  resets x next o answer.Ok there = one_reset o.object x.side.layout.generation there
  resets x next o (answer.Old kept) there = one_reset o.object x.side.layout.generation there
  resets x next o answer.Failed there = one_reset o.object x.side.layout.generation there

  settles : (x : CopyingView) (o : Option (ℕ × Range)) (size : Option ℕ) → Makes place s [] (copies.settles c s x o size)
  settles x (Some told) size = tt
  settles x None size = none

  takes : (h : Chunk) (p : Piece) (a : CallAnswer) → (object_of p).target < length s.targets → Makes place s (take_made place s p ∷ []) (copies.takes_chunk c s h p a)
  takes h p answer.Ok there = one_taken place s p there
  takes h p (answer.Old kept) there = one_taken place s p there
  takes h p answer.Failed there = one_taken place s p there

  puts : (h : Chunk) (bytes : List ℕ) (p : Piece) (a : CallAnswer) → (object_of p).target < length s.targets → Makes place s (put_made place s p bytes h.copying.side.layout.generation ∷ []) (copies.puts_chunk c s h bytes p a)
  puts h bytes p answer.Ok there = one_put place s p bytes h.copying.side.layout.generation there
  puts h bytes p (answer.Old kept) there = one_put place s p bytes h.copying.side.layout.generation there
  puts h bytes p answer.Failed there = one_put place s p bytes h.copying.side.layout.generation there

  ends : (cleared : List ℕ) (left : List Left) (o : Ending (Unit {0})) → Makes place s [] (copies.ends_copy c s cleared left o)
  ends cleared left (Ends done after) = none
  ends cleared left (Breaks step after) = none
  ends cleared left (Holds holder) = tt

  stage_made : (a : CopyStage) → CallsThere s a → Makes place s (stage_makes place a s) (copies.stage_at a c s)
  stage_made (stage.Fence x next) there = fences x next (object_at (fences_of x) next) (fence_answer (target_of s (object_at (fences_of x) next).object)) there
  stage_made (stage.Reset x next) there =
      resets x next (object_at (resets_of x) next) (reset_answer (target_of s (object_at (resets_of x) next).object) (object_at (resets_of x) next).object.number x.side.layout.generation) there
  stage_made (stage.Settle x) there = settles x (first_writer s.locks c.client (settled_objects x)) (size_of x.side.file s.meta)
  stage_made (stage.Take h) there = takes h (piece_from h) (read_answer (target_of s (object_of (piece_from h)))) there
  stage_made (stage.Put h bytes) there =
      puts h bytes (piece_to h) (write_answer (target_of s (object_of (piece_to h))) (object_of (piece_to h)).number h.copying.side.layout.generation) there
  stage_made (stage.Done key cleared left) there = ends cleared left (copy_ends key cleared s.meta)

  -- ---- a merge

  merge_fenced : (x : ComparingView) (next : ℕ) (o : ObjectId) (a : CallAnswer) → o.target < length s.targets → Makes place s (fence_made place s o (version_at x next) ∷ []) (merges.merge_fences_object c s x next o a)
  merge_fenced x next o answer.Ok there = one_fenced o (version_at x next) there
  merge_fenced x next o (answer.Old kept) there = one_fenced o (version_at x next) there
  merge_fenced x next o answer.Failed there = one_fenced o (version_at x next) there

  merge_settles : (x : ComparingView) (o : Option (ℕ × Range)) (next : MergeStage) → Makes place s [] (merges.merge_settles c s x o next)
  merge_settles x (Some told) next = tt
  merge_settles x None next = none

  takes_ours : (p : Pair) (q : Piece) (a : CallAnswer) → (object_of q).target < length s.targets → Makes place s (take_made place s q ∷ []) (merges.takes_ours c s p q a)
  takes_ours p q answer.Ok there = one_taken place s q there
  takes_ours p q (answer.Old kept) there = one_taken place s q there
  takes_ours p q answer.Failed there = one_taken place s q there

  takes_theirs : (p : Pair) (ours : Option (List ℕ)) (q : Piece) (a : CallAnswer) → (object_of q).target < length s.targets → Makes place s (take_made place s q ∷ []) (merges.takes_theirs c s p ours q a)
  takes_theirs p ours q answer.Ok there = one_taken place s q there
  takes_theirs p ours q (answer.Old kept) there = one_taken place s q there
  takes_theirs p ours q answer.Failed there = one_taken place s q there

  ends_merge : (o : Ending (List ℕ)) → Makes place s [] (merges.ends_merge c s o)
  ends_merge (Ends ids after) = none
  ends_merge (Breaks step after) = none
  ends_merge (Holds holder) = tt

  merge_ended : (ours theirs : KeyView) (refusal : Option Reply) → Makes place s [] (merges.merge_ends_with c s ours theirs refusal)
  merge_ended ours theirs (Some kept) = none
  merge_ended ours theirs None = ends_merge (merge_ends ours theirs s.meta)

  merge_made : (a : MergeStage) → MergeCallsThere s a → Makes place s (merge_makes place a s) (merges.merge_stage_at a c s)
  merge_made (merge.Fence x next) there = merge_fenced x next (object_at (merge_fences x) next).object (fence_answer (target_of s (object_at (merge_fences x) next).object)) there
  merge_made (merge.Settle x) there =
      merge_settles x (first_writer s.locks c.client (merge_fences x)) (merges.merge_settled x (size_of x.ours.file s.meta) (size_of x.theirs.file s.meta))
  merge_made (merge.TakeOurs p) there = takes_ours p (merges.our_piece p) (read_answer (target_of s (object_of (merges.our_piece p)))) there
  merge_made (merge.TakeTheirs p ours) there = takes_theirs p ours (merges.their_piece p) (read_answer (target_of s (object_of (merges.their_piece p)))) there
  merge_made (merge.Done ours theirs refusal) there = merge_ended ours theirs refusal

  -- ---- each step

  begun : (o : meta.Outcome Begun) → Makes place s [] (begins c s o)
  begun (Gives begun_as.Nothing after) = none
  begun (Gives (begun_as.Copy side ids) after) = none
  begun (Gives (begun_as.Merge ours theirs) after) = none
  begun (Refuses refusal) = none
  begun (Waits holder) = tt

  pub copy_made : (a : CopyAt) → CopyCallsThere s a → Makes place s (copy_makes place a s) (copy_at a c s)
  copy_made at.Begin there = begun (copy_begins c.client c.name c.what s.meta)
  copy_made (at.Copy next) there = stage_made next there
  copy_made (at.Merge next) there = merge_made next there
