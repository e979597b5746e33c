-- What each step of a copy leaves of the metadata server: what was there, what one call left that its command makes, or two keys given back.
use Rattle.std.proofs.Common.{◌≡◌, ℕ, Option, Some, None, List, refl, ap}
use Rattle.flr_base.specs.declared.reply.Left.{Left}
use Rattle.flr_base.specs.declared.reply.ObjectId.{ObjectId}
use Rattle.flr_base.specs.declared.reply.Range.{Range}
use Rattle.flr_base.specs.declared.reply.Reply.{Reply}
use Rattle.layout_lease.specs.Leases.{KeyView}
use Rattle.mirror_select.specs.declared.types.Piece.{Piece}
use Rattle.object_target.specs.declared.call.CallAnswer.{CallAnswer}
use Rattle.object_target.specs.declared.call.CallAnswer.TheVariants as answer
use Rattle.object_target.specs.Calls.{fence_answer, read_answer, reset_answer, write_answer}
use Rattle.meta_server.specs.declared.answers.Begun.{Begun}
use Rattle.meta_server.specs.declared.answers.Begun.TheVariants as begun_as
use Rattle.meta_server.specs.Beginning.{copy_begins}
use Rattle.meta_server.specs.Closing.{size_of}
use Rattle.meta_server.specs.Conditions.{IsCopyOf}
use Rattle.meta_server.specs.Ending.{both_given, copy_ends, merge_ends}
use Rattle.meta_server.specs.Files.{MetaView}
use Rattle.meta_server.specs.Outcomes.{Breaks, Ending, Ends, Gives, Holds, Refuses, Waits}
use Rattle.meta_server.specs.Outcomes as meta
use Rattle.meta_laws.specs.Calls.{BeginCopy, CopyDone, MergeDone, left_at, left_by}
use Rattle.call_steps.specs.Pieces.{object_of}
use Rattle.call_steps.specs.Servers.{Servers}
use Rattle.resync_copy.specs.declared.merge_phase.MergeStage.{MergeStage}
use Rattle.resync_copy.specs.declared.merge_phase.MergeStage.TheVariants as merge
use Rattle.resync_copy.specs.declared.merge_phase.Pair.{Pair}
use Rattle.resync_copy.specs.declared.parts.CopyObject.{CopyObject}
use Rattle.resync_copy.specs.declared.phase.Chunk.{Chunk}
use Rattle.resync_copy.specs.declared.phase.CopyAt.{CopyAt}
use Rattle.resync_copy.specs.declared.phase.CopyAt.TheVariants as at
use Rattle.resync_copy.specs.declared.phase.CopyStage.{CopyStage}
use Rattle.resync_copy.specs.declared.phase.CopyStage.TheVariants as stage
use Rattle.resync_copy.specs.Calls.{CopyView}
use Rattle.resync_copy.specs.Comparing.{ComparingView, merge_fences}
use Rattle.resync_copy.specs.Copies.{ends_copy, fences_object, first_writer, object_at, piece_from, piece_to, puts_chunk, resets_object, settled_objects, settles, stage_at, takes_chunk, target_of}
use Rattle.resync_copy.specs.Merges.{ends_merge, merge_ends_with, merge_fences_object, merge_settled, merge_settles, merge_stage_at, our_piece, takes_ours, takes_theirs, their_piece}
use Rattle.resync_copy.specs.Steps.{begins, copy_at}
use Rattle.resync_copy.specs.Views.{CopyingView, fences_of, resets_of}
use Rattle.script_values.specs.declared.command.Command.{Command}
use Rattle.flr_numbers.specs.Copies.{copy_hand, merge_hand, stage_hand}
use Rattle.flr_steps.specs.Owners.{AreOwn}
use Rattle.flr_places.proofs.Steps.{OnMeta}
use Rattle.flr_steps.specs.declared.client.Running.TheVariants as running
use Rattle.script_values.specs.declared.command.Command.TheVariants as command
use Rattle.flr_honest.proofs.Legal.Asked.{lfs_for}
use Rattle.flr_honest.proofs.Changes.Asking.{AfterCalls, EndsCopy, EndsMerge, by_call}

module _ (P : MetaView → Type 0) (asked : Command) (client place : ℕ) (s : Servers) (c : CopyView) (asks : command.Lfs (lfs_for c.name c.what) ≡ asked) (h : AfterCalls P asked client place (running.Copy c) s.meta)
    (gives : (ours theirs : KeyView) → ours.client ≡ client → theirs.client ≡ client → P (both_given ours theirs s.meta)) where
  begun_by : (c.client ≡ client) × IsCopyOf c.name c.what × (command.Lfs (lfs_for c.name c.what) ≡ asked) → (o : meta.Outcome Begun) → copy_begins c.client c.name c.what s.meta ≡ o → OnMeta P (begins c s o)
  begun_by copy (Gives begun_as.Nothing after) e = by_call P asked client place (running.Copy c) s.meta after h (BeginCopy c.client c.name c.what) copy (ap (λ (o : meta.Outcome Begun). left_by o s.meta) e)
  begun_by copy (Gives (begun_as.Copy side ids) after) e = by_call P asked client place (running.Copy c) s.meta after h (BeginCopy c.client c.name c.what) copy (ap (λ (o : meta.Outcome Begun). left_by o s.meta) e)
  begun_by copy (Gives (begun_as.Merge ours theirs) after) e = by_call P asked client place (running.Copy c) s.meta after h (BeginCopy c.client c.name c.what) copy (ap (λ (o : meta.Outcome Begun). left_by o s.meta) e)
  begun_by copy (Refuses refusal) e = h.same
  begun_by copy (Waits holder) e = tt

  -- ---- a copy

  fences : (x : CopyingView) (next : ℕ) (o : CopyObject) (a : CallAnswer) → OnMeta P (fences_object c s x next o a)
  fences x next o answer.Ok = h.same
  fences x next o (answer.Old kept) = h.same
  fences x next o answer.Failed = h.same

  resets : (x : CopyingView) (next : ℕ) (o : CopyObject) (a : CallAnswer) → OnMeta P (resets_object c s x next o a)
  resets x next o answer.Ok = h.same
  resets x next o (answer.Old kept) = h.same
  resets x next o answer.Failed = h.same

  settling : (x : CopyingView) (o : Option (ℕ × Range)) (size : Option ℕ) → OnMeta P (settles c s x o size)
  settling x (Some told) size = tt
  settling x None size = h.same

  takes : (k : Chunk) (p : Piece) (a : CallAnswer) → OnMeta P (takes_chunk c s k p a)
  takes k p answer.Ok = h.same
  takes k p (answer.Old kept) = h.same
  takes k p answer.Failed = h.same

  puts : (k : Chunk) (bytes : List ℕ) (p : Piece) (a : CallAnswer) → OnMeta P (puts_chunk c s k bytes p a)
  puts k bytes p answer.Ok = h.same
  puts k bytes p (answer.Old kept) = h.same
  puts k bytes p answer.Failed = h.same

  ends : (key : KeyView) (cleared : List ℕ) (left : List Left) (o : Ending (Unit {0})) → EndsCopy asked client (running.Copy c) key cleared → copy_ends key cleared s.meta ≡ o → OnMeta P (ends_copy c s cleared left o)
  ends key cleared left (Ends done after) may e = by_call P asked client place (running.Copy c) s.meta after h (CopyDone key cleared) may (ap (λ (o : Ending (Unit {0})). left_at o s.meta) e)
  ends key cleared left (Breaks step after) may e = by_call P asked client place (running.Copy c) s.meta after h (CopyDone key cleared) may (ap (λ (o : Ending (Unit {0})). left_at o s.meta) e)
  ends key cleared left (Holds holder) may e = tt

  by_stage : (next : CopyStage) → c.at ≡ at.Copy next → AreOwn client (stage_hand next).keys → OnMeta P (stage_at next c s)
  by_stage (stage.Fence x next) is own = fences x next (object_at (fences_of x) next) (fence_answer (target_of s (object_at (fences_of x) next).object))
  by_stage (stage.Reset x next) is own = resets x next (object_at (resets_of x) next) (reset_answer (target_of s (object_at (resets_of x) next).object) (object_at (resets_of x) next).object.number x.side.layout.generation)
  by_stage (stage.Settle x) is own = settling x (first_writer s.locks c.client (settled_objects x)) (size_of x.side.file s.meta)
  by_stage (stage.Take k) is own = takes k (piece_from k) (read_answer (target_of s (object_of (piece_from k))))
  by_stage (stage.Put k bytes) is own = puts k bytes (piece_to k) (write_answer (target_of s (object_of (piece_to k))) (object_of (piece_to k)).number k.copying.side.layout.generation)
  by_stage (stage.Done key cleared left) is own = ends key cleared left (copy_ends key cleared s.meta) (record { copy = c; copies = refl; asks = asks; left = left; at = is; own = own.0 }) refl

  -- ---- a file is taken in

  merge_fencing : (x : ComparingView) (next : ℕ) (o : ObjectId) (a : CallAnswer) → OnMeta P (merge_fences_object c s x next o a)
  merge_fencing x next o answer.Ok = h.same
  merge_fencing x next o (answer.Old kept) = h.same
  merge_fencing x next o answer.Failed = h.same

  merge_settling : (x : ComparingView) (o : Option (ℕ × Range)) (next : MergeStage) → OnMeta P (merge_settles c s x o next)
  merge_settling x (Some told) next = tt
  merge_settling x None next = h.same

  taking_ours : (p : Pair) (q : Piece) (a : CallAnswer) → OnMeta P (takes_ours c s p q a)
  taking_ours p q answer.Ok = h.same
  taking_ours p q (answer.Old kept) = h.same
  taking_ours p q answer.Failed = h.same

  taking_theirs : (p : Pair) (ours : Option (List ℕ)) (q : Piece) (a : CallAnswer) → OnMeta P (takes_theirs c s p ours q a)
  taking_theirs p ours q answer.Ok = h.same
  taking_theirs p ours q (answer.Old kept) = h.same
  taking_theirs p ours q answer.Failed = h.same

  merge_ending : (ours theirs : KeyView) (o : Ending (List ℕ)) → EndsMerge asked client (running.Copy c) ours theirs → merge_ends ours theirs s.meta ≡ o → OnMeta P (ends_merge c s o)
  merge_ending ours theirs (Ends ids after) own e = by_call P asked client place (running.Copy c) s.meta after h (MergeDone ours theirs) own (ap (λ (o : Ending (List ℕ)). left_at o s.meta) e)
  merge_ending ours theirs (Breaks step after) own e = by_call P asked client place (running.Copy c) s.meta after h (MergeDone ours theirs) own (ap (λ (o : Ending (List ℕ)). left_at o s.meta) e)
  merge_ending ours theirs (Holds holder) own e = tt

  merge_done : (ours theirs : KeyView) (refusal : Option Reply) → c.at ≡ at.Merge (merge.Done ours theirs refusal) → ours.client ≡ client → theirs.client ≡ client → OnMeta P (merge_ends_with c s ours theirs refusal)
  merge_done ours theirs (Some kept) is own own_too = gives ours theirs own own_too
  merge_done ours theirs None is own own_too = merge_ending ours theirs (merge_ends ours theirs s.meta) (record { copy = c; copies = refl; asks = asks; at = is; own = own; own_too = own_too }) refl

  by_merge : (next : MergeStage) → c.at ≡ at.Merge next → AreOwn client (merge_hand next).keys → OnMeta P (merge_stage_at next c s)
  by_merge (merge.Fence x next) is own = merge_fencing x next (object_at (merge_fences x) next).object (fence_answer (target_of s (object_at (merge_fences x) next).object))
  by_merge (merge.Settle x) is own = merge_settling x (first_writer s.locks c.client (merge_fences x)) (merge_settled x (size_of x.ours.file s.meta) (size_of x.theirs.file s.meta))
  by_merge (merge.TakeOurs p) is own = taking_ours p (our_piece p) (read_answer (target_of s (object_of (our_piece p))))
  by_merge (merge.TakeTheirs p ours) is own = taking_theirs p ours (their_piece p) (read_answer (target_of s (object_of (their_piece p))))
  by_merge (merge.Done ours theirs refusal) is own = merge_done ours theirs refusal is own.0 own.1.0

  -- ---- each step

  pub copy_leaves : (c.client ≡ client) × IsCopyOf c.name c.what → (next : CopyAt) → c.at ≡ next → AreOwn client (copy_hand next).keys → OnMeta P (copy_at next c s)
  copy_leaves copy at.Begin is own = begun_by (copy.0, copy.1, asks) (copy_begins c.client c.name c.what s.meta) refl
  copy_leaves copy (at.Copy next) is own = by_stage next is own
  copy_leaves copy (at.Merge next) is own = by_merge next is own
