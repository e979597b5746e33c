-- A step of a copy changes the bytes of one object at most: it empties an object, or puts a chunk.
use Rattle.std.proofs.Common.{◌≡◌, ℕ, ◌<◌, Bool, true, false, Option, Some, None, List, [], length, inl, inr, refl, ap, get_or}
use Rattle.std.specs.Prelude.{Contains, slice_get, unwrap_or}
use Rattle.std.proofs.lemmas.Option.{get_or_from_slice_get, slice_get_within}
use Rattle.flr_base.specs.declared.reply.Left.{Left}
use Rattle.flr_base.specs.declared.reply.ObjectId.{ObjectId}
use Rattle.flr_base.specs.declared.reply.Range.{Range}
use Rattle.flr_base.specs.declared.reply.Reply.{Reply}
use Rattle.stripe_map.specs.Places.{place_of}
use Rattle.composite_layout.specs.declared.component.Component.{Component}
use Rattle.layout_lease.specs.Leases.{KeyView}
use Rattle.mirror_select.specs.declared.types.Piece.{Piece}
use Rattle.mirror_select.proofs.Least.{to_contains}
use Rattle.object_target.specs.declared.call.CallAnswer.{CallAnswer}
use Rattle.object_target.specs.declared.call.CallAnswer.TheVariants as answer
use Rattle.object_target.specs.Calls.{after_fence, after_reset, after_write, fence_answer, has_effect, is_old, next_fail, read_answer, reset_answer, write_answer}
use Rattle.meta_server.specs.declared.answers.Begun.{Begun}
use Rattle.meta_server.specs.declared.answers.Begun.TheVariants as begun_as
use Rattle.meta_server.specs.Beginning.{copy_begins}
use Rattle.meta_server.specs.Closing.{size_of}
use Rattle.meta_server.specs.Ending.{copy_ends, merge_ends}
use Rattle.meta_server.specs.Outcomes.{Ending, Ends, Breaks, Holds, Gives, Refuses, Waits}
use Rattle.meta_server.specs.Outcomes as meta
use Rattle.call_steps.specs.Pieces.{object_of}
use Rattle.call_steps.specs.Servers.{AreThere, Servers}
use Rattle.resync_copy.specs.declared.merge_phase.MergeStage.{MergeStage}
use Rattle.resync_copy.specs.declared.merge_phase.MergeStage.TheVariants as merge
use Rattle.resync_copy.specs.declared.merge_phase.Pair.{Pair}
use Rattle.resync_copy.specs.declared.parts.CopyObject.{CopyObject}
use Rattle.resync_copy.specs.declared.phase.Chunk.{Chunk}
use Rattle.resync_copy.specs.declared.phase.CopyAt.{CopyAt}
use Rattle.resync_copy.specs.declared.phase.CopyAt.TheVariants as at
use Rattle.resync_copy.specs.declared.phase.CopyStage.{CopyStage}
use Rattle.resync_copy.specs.declared.phase.CopyStage.TheVariants as stage
use Rattle.resync_copy.specs.Calls.{CopyView}
use Rattle.resync_copy.specs.Chunks.{piece_in}
use Rattle.resync_copy.specs.Comparing.{ComparingView, merge_fences, version_at}
use Rattle.resync_copy.specs.Copies.{bytes_of, emptied, ends_copy, fenced, fences_object, first_writer, object_at, piece_from, piece_put, piece_to, puts_chunk, resets_object, settled_objects, settles, stage_at, takes_chunk, target_of}
use Rattle.resync_copy.specs.Merges.{ends_merge, merge_ends_with, merge_fenced, merge_fences_object, merge_settled, merge_settles, merge_stage_at, our_piece, takes_ours, takes_theirs, their_piece}
use Rattle.resync_copy.specs.Parts.{with_id}
use Rattle.resync_copy.specs.Steps.{begins, copy_at}
use Rattle.resync_copy.specs.Views.{CopyingView, fences_of, resets_of}
use Rattle.resync_copy.proofs.PartLaws.{named, with_id_in}
use Rattle.flr_numbers.specs.Copies.{IsListed, IsListedAt}
use Rattle.flr_sole.proofs.Targets.{effect_new}
use Rattle.flr_steps.specs.declared.client.Running.TheVariants as running
use Rattle.flr_bytes.specs.Writing.{HoldsStill, Writes}
use Rattle.flr_bytes.proofs.Contents.{fence_bytes, reset_none, same_content, write_none}
use Rattle.flr_bytes.proofs.Held.{reset_lands, write_lands}
use Rattle.flr_honest.proofs.Landed.Writing.{StepWrites, took}

-- the object to which a chunk is put is on a target that is there; where nobody has the chunk it would be the first target
put_there : (s : Servers) (h : Chunk) → AreThere s.targets h.copying.side.layout.components → 0 < length s.targets → (object_of (piece_to h)).target < length s.targets
put_there s h there some = by (with_id cs (get_or h.copying.ids h.place 0)) refl
  where
    cs : List Component
    cs = h.copying.side.layout.components

    in_objects : (os : List ObjectId) (i : ℕ) (o : ObjectId) → slice_get os i ≡ Some o → Contains os o
    in_objects os i o e = (i, slice_get_within os i o e, get_or_from_slice_get os i o o e)

    of_piece : (o : Option ObjectId) → ((x : ObjectId) → o ≡ Some x → x.target < length s.targets) → (unwrap_or o (record { target = 0; number = 0 })).target < length s.targets
    of_piece (Some x) f = f x refl
    of_piece None f = some

    by : (d : Option Component) → with_id cs (get_or h.copying.ids h.place 0) ≡ d → (object_of (piece_in d (bytes_of h))).target < length s.targets
    by (Some c) e =
        of_piece (slice_get c.objects (place_of (bytes_of h).start c.stripe).index)
        (λ o i. there c o (to_contains cs c (with_id_in cs (get_or h.copying.ids h.place 0) c e)) (in_objects c.objects (place_of (bytes_of h).start c.stripe).index o i))
    by None e = some

module _ (s : Servers) (k : CopyView) where
  -- ---- begin

  begins_so : (o : meta.Outcome Begun) → StepWrites s (running.Copy k) (begins k s o)
  begins_so (Gives begun_as.Nothing after) = inl (λ o. refl)
  begins_so (Gives (begun_as.Copy side ids) after) = inl (λ o. refl)
  begins_so (Gives (begun_as.Merge ours theirs) after) = inl (λ o. refl)
  begins_so (Refuses refusal) = inl (λ o. refl)
  begins_so (Waits holder) = tt

  -- ---- a copy of one file

  fences_so : (x : CopyingView) (next : ℕ) (o : CopyObject) (came : CallAnswer) → StepWrites s (running.Copy k) (fences_object k s x next o came)
  fences_so x next o came = by came
    where
      one : HoldsStill s (fenced s x o.object)
      one = same_content s o.object.target (after_fence (target_of s o.object) o.object.number x.side.layout.generation) (fence_bytes (target_of s o.object) o.object.number x.side.layout.generation)

      by : (came : CallAnswer) → StepWrites s (running.Copy k) (fences_object k s x next o came)
      by answer.Ok = inl one
      by (answer.Old kept) = inl one
      by answer.Failed = inl one

  resets_so : (x : CopyingView) (next : ℕ) → k.at ≡ at.Copy (stage.Reset x next) → next < length (resets_of x) → AreThere s.targets x.side.layout.components → (came : CallAnswer)
      → StepWrites s (running.Copy k) (resets_object k s x next (object_at (resets_of x) next) came)
  resets_so x next at within there came = by came
    where
      o : ObjectId
      o = (object_at (resets_of x) next).object

      g : ℕ
      g = x.side.layout.generation

      on : o.target < length s.targets
      on = let n = named x.side.layout.components x.ids next (object_at [] 0) within in there n.0 o n.1 n.2

      either : (b : Bool) → has_effect (next_fail (target_of s o)) (is_old (target_of s o) o.number g) ≡ b → Writes s (emptied s x o) (running.Copy k)
      either true e = inr (inr (inr (inl (record {
        asked = k;
        copies = refl;
        copying = x;
        next = next;
        at = at;
        within = within;
        admitted = effect_new (next_fail (target_of s o)) (is_old (target_of s o) o.number g) e;
        new = reset_lands s o g on e;
      }))))
      either false e = inl (same_content s o.target (after_reset (target_of s o) o.number g) (reset_none (target_of s o) o.number g e))

      one : Writes s (emptied s x o) (running.Copy k)
      one = either (has_effect (next_fail (target_of s o)) (is_old (target_of s o) o.number g)) refl

      by : (came : CallAnswer) → StepWrites s (running.Copy k) (resets_object k s x next (object_at (resets_of x) next) came)
      by answer.Ok = one
      by (answer.Old kept) = one
      by answer.Failed = one

  settles_so : (x : CopyingView) (w : Option (ℕ × Range)) (size : Option ℕ) → StepWrites s (running.Copy k) (settles k s x w size)
  settles_so x (Some told) size = tt
  settles_so x None size = inl (λ o. refl)

  takes_so : (g : Chunk) (p : Piece) (came : CallAnswer) → StepWrites s (running.Copy k) (takes_chunk k s g p came)
  takes_so g p answer.Ok = inl (took s p)
  takes_so g p (answer.Old kept) = inl (took s p)
  takes_so g p answer.Failed = inl (took s p)

  puts_so : (c : Chunk) (bytes : List ℕ) → k.at ≡ at.Copy (stage.Put c bytes) → AreThere s.targets c.copying.side.layout.components → 0 < length s.targets → (came : CallAnswer)
      → StepWrites s (running.Copy k) (puts_chunk k s c bytes (piece_to c) came)
  puts_so c bytes at there some came = by came
    where
      o : ObjectId
      o = object_of (piece_to c)

      g : ℕ
      g = c.copying.side.layout.generation

      either : (b : Bool) → has_effect (next_fail (target_of s o)) (is_old (target_of s o) o.number g) ≡ b → Writes s (piece_put s c (piece_to c) bytes) (running.Copy k)
      either true e = inr (inr (inr (inr (record {
        asked = k;
        copies = refl;
        chunk = c;
        bytes = bytes;
        at = at;
        admitted = effect_new (next_fail (target_of s o)) (is_old (target_of s o) o.number g) e;
        new = write_lands s o g (put_there s c there some) e (piece_to c).offset bytes;
      }))))
      either false e = inl (same_content s o.target (after_write (target_of s o) o.number (piece_to c).offset bytes g) (write_none (target_of s o) o.number g (piece_to c).offset bytes e))

      one : Writes s (piece_put s c (piece_to c) bytes) (running.Copy k)
      one = either (has_effect (next_fail (target_of s o)) (is_old (target_of s o) o.number g)) refl

      by : (came : CallAnswer) → StepWrites s (running.Copy k) (puts_chunk k s c bytes (piece_to c) came)
      by answer.Ok = one
      by (answer.Old kept) = one
      by answer.Failed = one

  ends_so : (cleared : List ℕ) (left : List Left) (e : Ending (Unit {0})) → StepWrites s (running.Copy k) (ends_copy k s cleared left e)
  ends_so cleared left (Ends done after) = inl (λ o. refl)
  ends_so cleared left (Breaks step after) = inl (λ o. refl)
  ends_so cleared left (Holds holder) = tt

  -- ---- a copy by a victim

  merge_fences_so : (x : ComparingView) (next : ℕ) (o : ObjectId) (came : CallAnswer) → StepWrites s (running.Copy k) (merge_fences_object k s x next o came)
  merge_fences_so x next o came = by came
    where
      one : HoldsStill s (merge_fenced s o (version_at x next))
      one = same_content s o.target (after_fence (target_of s o) o.number (version_at x next)) (fence_bytes (target_of s o) o.number (version_at x next))

      by : (came : CallAnswer) → StepWrites s (running.Copy k) (merge_fences_object k s x next o came)
      by answer.Ok = inl one
      by (answer.Old kept) = inl one
      by answer.Failed = inl one

  merge_settles_so : (x : ComparingView) (w : Option (ℕ × Range)) (next : MergeStage) → StepWrites s (running.Copy k) (merge_settles k s x w next)
  merge_settles_so x (Some told) next = tt
  merge_settles_so x None next = inl (λ o. refl)

  ours_so : (p : Pair) (q : Piece) (came : CallAnswer) → StepWrites s (running.Copy k) (takes_ours k s p q came)
  ours_so p q answer.Ok = inl (took s q)
  ours_so p q (answer.Old kept) = inl (took s q)
  ours_so p q answer.Failed = inl (took s q)

  theirs_so : (p : Pair) (ours : Option (List ℕ)) (q : Piece) (came : CallAnswer) → StepWrites s (running.Copy k) (takes_theirs k s p ours q came)
  theirs_so p ours q answer.Ok = inl (took s q)
  theirs_so p ours q (answer.Old kept) = inl (took s q)
  theirs_so p ours q answer.Failed = inl (took s q)

  merge_ends_so : (e : Ending (List ℕ)) → StepWrites s (running.Copy k) (ends_merge k s e)
  merge_ends_so (Ends ids after) = inl (λ o. refl)
  merge_ends_so (Breaks step after) = inl (λ o. refl)
  merge_ends_so (Holds holder) = tt

  done_so : (ours theirs : KeyView) (refusal : Option Reply) → StepWrites s (running.Copy k) (merge_ends_with k s ours theirs refusal)
  done_so ours theirs (Some kept) = inl (λ o. refl)
  done_so ours theirs None = merge_ends_so (merge_ends ours theirs s.meta)

  -- ---- each stage

  stage_writes : (a : CopyStage) → k.at ≡ at.Copy a → IsListed a → ((x : CopyingView) (next : ℕ) → a ≡ stage.Reset x next → AreThere s.targets x.side.layout.components) → ((c : Chunk) (bytes : List ℕ) → a ≡ stage.Put c bytes → AreThere s.targets c.copying.side.layout.components) → 0 < length s.targets
      → StepWrites s (running.Copy k) (stage_at a k s)
  stage_writes (stage.Fence x place) at listed resets puts some = fences_so x place (object_at (fences_of x) place) (fence_answer (target_of s (object_at (fences_of x) place).object))
  stage_writes (stage.Reset x place) at listed resets puts some =
      resets_so x place at listed (resets x place refl) (reset_answer (target_of s (object_at (resets_of x) place).object) (object_at (resets_of x) place).object.number x.side.layout.generation)
  stage_writes (stage.Settle x) at listed resets puts some = settles_so x (first_writer s.locks k.client (settled_objects x)) (size_of x.side.file s.meta)
  stage_writes (stage.Take g) at listed resets puts some = takes_so g (piece_from g) (read_answer (target_of s (object_of (piece_from g))))
  stage_writes (stage.Put g bytes) at listed resets puts some =
      puts_so g bytes at (puts g bytes refl) some (write_answer (target_of s (object_of (piece_to g))) (object_of (piece_to g)).number g.copying.side.layout.generation)
  stage_writes (stage.Done key cleared left) at listed resets puts some = ends_so cleared left (copy_ends key cleared s.meta)

  merge_writes : (a : MergeStage) → StepWrites s (running.Copy k) (merge_stage_at a k s)
  merge_writes (merge.Fence x place) = merge_fences_so x place (object_at (merge_fences x) place).object (fence_answer (target_of s (object_at (merge_fences x) place).object))
  merge_writes (merge.Settle x) = merge_settles_so x (first_writer s.locks k.client (merge_fences x)) (merge_settled x (size_of x.ours.file s.meta) (size_of x.theirs.file s.meta))
  merge_writes (merge.TakeOurs p) = ours_so p (our_piece p) (read_answer (target_of s (object_of (our_piece p))))
  merge_writes (merge.TakeTheirs p ours) = theirs_so p ours (their_piece p) (read_answer (target_of s (object_of (their_piece p))))
  merge_writes (merge.Done ours theirs refusal) = done_so ours theirs refusal

  -- a copy changes the object that it empties, or to which it puts
  pub copy_writes : (a : CopyAt) → k.at ≡ a → IsListedAt a → ((x : CopyingView) (next : ℕ) → a ≡ at.Copy (stage.Reset x next) → AreThere s.targets x.side.layout.components) → ((c : Chunk) (bytes : List ℕ) → a ≡ at.Copy (stage.Put c bytes) → AreThere s.targets c.copying.side.layout.components) → 0 < length s.targets
      → StepWrites s (running.Copy k) (copy_at a k s)
  copy_writes at.Begin now listed resets puts some = begins_so (copy_begins k.client k.name k.what s.meta)
  copy_writes (at.Copy a) now listed resets puts some = stage_writes a now listed (λ x next e. resets x next (ap at.Copy e)) (λ c bytes e. puts c bytes (ap at.Copy e)) some
  copy_writes (at.Merge a) now listed resets puts some = merge_writes a
