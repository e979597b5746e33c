-- What an extend by a victim answers at its last step has its cause.
use Rattle.std.proofs.Common.{◌≡◌, ℕ, List, [], Option, None, Some, inl, inr, refl, sym, subst, ◌∙◌}
use Rattle.flr_base.specs.declared.reply.Entry.{Entry}
use Rattle.flr_base.specs.declared.reply.ObjectId.{ObjectId}
use Rattle.flr_base.specs.declared.reply.Range.{Range}
use Rattle.flr_base.specs.declared.reply.Reply.{Reply}
use Rattle.flr_base.specs.declared.reply.Reply.TheVariants as reply
use Rattle.layout_lease.specs.declared.lease.KeyState.{KeyState}
use Rattle.layout_lease.specs.declared.lease.KeyState.TheVariants.{Held, Broken}
use Rattle.layout_lease.specs.Leases.{KeyView, state_of}
use Rattle.layout_lease.specs.Shares.{lowest_but}
use Rattle.mirror_select.specs.declared.types.Piece.{Piece}
use Rattle.object_target.specs.declared.call.CallAnswer.{CallAnswer}
use Rattle.object_target.specs.declared.call.CallAnswer.TheVariants as answer
use Rattle.object_target.specs.Calls.{fence_answer, read_answer}
use Rattle.script_values.specs.declared.command.Command.{Command}
use Rattle.meta_server.specs.Closing.{size_of}
use Rattle.meta_server.specs.Ending.{merge_ends_alone, merge_ends_by, merge_ends_files}
use Rattle.meta_server.specs.Files.{File, MetaView, file_of}
use Rattle.meta_server.specs.Layouts.{merged_ids}
use Rattle.meta_server.specs.Sound.{IsSound}
use Rattle.call_steps.specs.Pieces.{object_of}
use Rattle.resync_copy.specs.declared.merge_phase.MergeStage.{MergeStage}
use Rattle.resync_copy.specs.declared.merge_phase.MergeStage.TheVariants as merge
use Rattle.resync_copy.specs.declared.merge_phase.Pair.{Pair}
use Rattle.resync_copy.specs.Calls.{CopyView}
use Rattle.resync_copy.specs.Comparing.{ComparingView, merge_fences}
use Rattle.resync_copy.specs.Copies.{first_writer, object_at, target_of}
use Rattle.resync_copy.specs.Merges.{ends_merge, kept_answer, merge_fences_object, merge_settled, merge_settles, merge_stage_at, our_piece, takes_ours, takes_theirs, their_piece}
use Rattle.flr_steps.specs.States.{State}
use Rattle.flr_steps.specs.Traces.{Past}
use Rattle.flr_numbers.specs.Frames.{Leases}
use Rattle.flr_claims.specs.Causes.{IsOneBroken, TakesFileIn}
use Rattle.flr_asked.specs.CallRuns.{FixesAnswer}
use Rattle.flr_honest.proofs.MergeCauses.Known.{AreAllSame, EndsSo, IsFound, IsGone, MergeKnows}
use Rattle.flr_honest.proofs.MergeCauses.Told.{call, found_told, same_told, way}

module _ (b : State) (e : Entry) (asked : Command) (p : Past) (sound : IsSound b.shared.meta) (k : CopyView) (last : ℕ) where
  -- the metadata server before the point
  abbrev m : MetaView
  m = b.shared.meta

  -- the answer is fixed so
  abbrev Says : Reply → Type 0
  Says told = (told ≡ e.reply) × ([] ≡ e.takes)

  -- the cause of what was told is that of the answer
  so : (told : Reply) → told ≡ e.reply → TakesFileIn (call b e asked p) told → TakesFileIn (call b e asked p) e.reply
  so told same h = subst (λ (r : Reply). TakesFileIn (call b e asked p) r) same h

  module _ (one_broken : (place : ℕ) → e.reply ≡ reply.Broken place → IsOneBroken (call b e asked p) place) (gone : (number : ℕ) → IsGone (way b e asked p) last number → file_of number m.files ≡ None)
      (laid : (ours theirs : KeyView) (h : AreAllSame (way b e asked p) last p.doing.made ours theirs) → Leases m ours h.f.layout × Leases m theirs h.v.layout) where
    -- a lease was broken
    was_broken : (place : ℕ) → Says (reply.Broken place) → TakesFileIn (call b e asked p) e.reply
    was_broken place told = so (reply.Broken place) told.0 (one_broken place (sym told.0))

    module _ (ours theirs : KeyView) where
      -- it kept an answer
      kept_by : (kept : Reply) → IsFound (way b e asked p) last p.doing.made ours theirs kept → (a c : KeyState) → state_of m.leases ours ≡ a → state_of m.leases theirs ≡ c → Says (kept_answer kept a c) → TakesFileIn (call b e asked p) e.reply
      kept_by kept found (Broken step) c ea ec told = was_broken step told
      kept_by kept found Held (Broken step) ea ec told = was_broken step told
      kept_by kept found Held Held ea ec told = so kept told.0 (found_told b e asked p sound ours theirs ea ec last kept (sym told.1) found)

      -- it takes the victim in
      taken_alone : (f v : File) (a c : Option ℕ) → file_of ours.file m.files ≡ Some f → file_of theirs.file m.files ≡ Some v → state_of m.leases ours ≡ Held → state_of m.leases theirs ≡ Held → AreAllSame (way b e asked p) last p.doing.made ours theirs
          → FixesAnswer (ends_merge k b.shared (merge_ends_alone ours theirs m f v a c)) e.reply e.takes → TakesFileIn (call b e asked p) e.reply
      taken_alone f v (Some holder) c ef ev ea ec h told = absurd told
      taken_alone f v None (Some holder) ef ev ea ec h told = absurd told
      taken_alone f v None None ef ev ea ec h told =
          let layouts = laid ours theirs h in
          let our_layout : f.layout ≡ h.f.layout = layouts.0 ea f ef in
          let their_layout : v.layout ≡ h.v.layout = layouts.1 ec v ev in
          so (reply.Merged (merged_ids v.layout f.layout)) told.0 (sym told.1, (h.f, h.v, same_told b e asked p sound ours theirs ea ec last h, (λ j. merged_ids (their_layout j) (our_layout j))))

      taken_files : (x y : Option File) → file_of ours.file m.files ≡ x → file_of theirs.file m.files ≡ y → state_of m.leases ours ≡ Held → state_of m.leases theirs ≡ Held → EndsSo (way b e asked p) last p.doing.made ours theirs None
          → FixesAnswer (ends_merge k b.shared (merge_ends_files ours theirs m x y)) e.reply e.takes → TakesFileIn (call b e asked p) e.reply
      taken_files None y ex ey ea ec h told = was_broken 0 told
      taken_files (Some f) None ex ey ea ec h told = was_broken 0 told
      taken_files (Some f) (Some v) ex ey ea ec (inl h) told = taken_alone f v (lowest_but ours.client f.lock) (lowest_but ours.client v.lock) ex ey ea ec h told
      taken_files (Some f) (Some v) ex ey ea ec (inr (inl h)) told = let both : None ≡ Some f = sym (gone ours.file h) ∙ ex in absurd (cc)
      taken_files (Some f) (Some v) ex ey ea ec (inr (inr h)) told = let both : None ≡ Some v = sym (gone theirs.file h) ∙ ey in absurd (cc)

      taken_by : (a c : KeyState) → state_of m.leases ours ≡ a → state_of m.leases theirs ≡ c → EndsSo (way b e asked p) last p.doing.made ours theirs None → FixesAnswer (ends_merge k b.shared (merge_ends_by ours theirs m a c)) e.reply e.takes
          → TakesFileIn (call b e asked p) e.reply
      taken_by (Broken step) c ea ec h told = was_broken step told
      taken_by Held (Broken step) ea ec h told = was_broken step told
      taken_by Held Held ea ec h told = taken_files (file_of ours.file m.files) (file_of theirs.file m.files) refl refl ea ec h told

    -- the steps before answer nothing
    fence_none : (x : ComparingView) (next : ℕ) (o : ObjectId) (a : CallAnswer) → FixesAnswer (merge_fences_object k b.shared x next o a) e.reply e.takes → ⊥
    fence_none x next o answer.Ok h = h
    fence_none x next o (answer.Old kept) h = h
    fence_none x next o answer.Failed h = h

    settle_none : (x : ComparingView) (o : Option (ℕ × Range)) (next : MergeStage) → FixesAnswer (merge_settles k b.shared x o next) e.reply e.takes → ⊥
    settle_none x (Some told) next h = h
    settle_none x None next h = h

    ours_none : (q : Pair) (r : Piece) (a : CallAnswer) → FixesAnswer (takes_ours k b.shared q r a) e.reply e.takes → ⊥
    ours_none q r answer.Ok h = h
    ours_none q r (answer.Old kept) h = h
    ours_none q r answer.Failed h = h

    theirs_none : (q : Pair) (bytes : Option (List ℕ)) (r : Piece) (a : CallAnswer) → FixesAnswer (takes_theirs k b.shared q bytes r a) e.reply e.takes → ⊥
    theirs_none q bytes r answer.Ok h = h
    theirs_none q bytes r (answer.Old kept) h = h
    theirs_none q bytes r answer.Failed h = h

    -- whatever the last step answers
    pub answer_told : (next : MergeStage) → MergeKnows (way b e asked p) last p.doing.made next → FixesAnswer (merge_stage_at next k b.shared) e.reply e.takes → TakesFileIn (call b e asked p) e.reply
    answer_told (merge.Fence x next) knows h = absurd (fence_none x next (object_at (merge_fences x) next).object (fence_answer (target_of b.shared (object_at (merge_fences x) next).object)) h)
    answer_told (merge.Settle x) knows h = absurd (settle_none x (first_writer b.shared.locks k.client (merge_fences x)) (merge_settled x (size_of x.ours.file m) (size_of x.theirs.file m)) h)
    answer_told (merge.TakeOurs q) knows h = absurd (ours_none q (our_piece q) (read_answer (target_of b.shared (object_of (our_piece q)))) h)
    answer_told (merge.TakeTheirs q bytes) knows h = absurd (theirs_none q bytes (their_piece q) (read_answer (target_of b.shared (object_of (their_piece q)))) h)
    answer_told (merge.Done ours theirs (Some kept)) knows h = kept_by ours theirs kept knows (state_of m.leases ours) (state_of m.leases theirs) refl refl h
    answer_told (merge.Done ours theirs None) knows h = taken_by ours theirs (state_of m.leases ours) (state_of m.leases theirs) refl refl knows h
