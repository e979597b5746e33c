-- What the steps of a resync and of an extend pay.
use Rattle.std.proofs.Common.{◌≡◌, ℕ, ◌+◌, ◌-◌, ◌*◌, ◌≤◌, ◌<◌, false, Option, Some, None, List, [], ◌∷◌, ◌++◌, length, drop, refl, sym, ap, subst, arith}
use Rattle.flr_base.specs.declared.reply.FailedCall.{FailedCall}
use Rattle.flr_base.specs.declared.reply.Left.{Left}
use Rattle.flr_base.specs.declared.reply.Range.{Range}
use Rattle.layout_lease.specs.Leases.{KeyView}
use Rattle.mirror_select.specs.declared.types.Piece.{Piece}
use Rattle.object_target.specs.declared.call.CallAnswer.{CallAnswer}
use Rattle.object_target.specs.declared.call.CallAnswer.TheVariants as answer
use Rattle.object_target.specs.declared.fail.Fail.{Fail}
use Rattle.object_target.specs.Calls.{after_fence, after_read, after_reset, after_write, fence_answer, next_fail, read_answer, reset_answer, write_answer}
use Rattle.meta_server.specs.Closing.{size_of}
use Rattle.meta_server.specs.Ending.{copy_ends}
use Rattle.meta_server.specs.Files.{MetaView}
use Rattle.meta_server.specs.Outcomes.{Breaks, Ending, Ends, Holds}
use Rattle.meta_laws.specs.Calls.{CopyDone, left_at}
use Rattle.call_steps.specs.Pieces.{length_of, object_of}
use Rattle.call_steps.specs.Servers.{Servers, next_call_on}
use Rattle.resync_copy.specs.declared.parts.CopyObject.{CopyObject}
use Rattle.resync_copy.specs.declared.phase.Chunk.{Chunk}
use Rattle.resync_copy.specs.declared.phase.CopyStage.{CopyStage}
use Rattle.resync_copy.specs.declared.phase.CopyStage.TheVariants as stage
use Rattle.resync_copy.specs.Calls.{CopyView}
use Rattle.resync_copy.specs.Copies.{again, clears_none, copy_on, emptied, ends_copy, fenced, fences_object, first_writer, leaves_at, leaves_over, leaves_with, object_at, piece_from, piece_put, piece_read, piece_to, puts_chunk, resets_object, settled_objects, settles, stage_at, takes_chunk, target_of}
use Rattle.resync_copy.specs.Views.{CopyingView, fences_of, resets_of}
use Rattle.flr_work.specs.Known.{KnownCopy, KnownStage, chunks_of}
use Rattle.flr_work.specs.Left.{IsInHand, OwnsCopy, chunks_left, copy_left, stage_left}
use Rattle.flr_work.specs.Paying.{AreListed, Fares, Goes, Leaves, dues}
use Rattle.flr_work.proofs.Chunks.{IsWithin, chunks_within, fences_within, from_within, left_ahead, resets_within}
use Rattle.flr_work.proofs.Costs.{called_due, failed_due, leaves_by, never_old}
use Rattle.flr_work.proofs.Held.{HeldIn}

module _ (c cost : ℕ) (fails : List Fail) (v : CopyView) (s : Servers) (base stripes room : ℕ) (client : v.client ≡ c) (listed : AreListed fails s.targets) (some : 1 ≤ cost) where
  abbrev Known : CopyView → Servers → Type 0
  Known next after = KnownCopy stripes room after next.at

  abbrev CallLeft : CopyView → MetaView → ℕ
  CallLeft next m = copy_left base room next.at

  stay : Leaves c s.meta s.meta
  stay number cookie other h = h

  -- a stage that comes next, within this, after a call that leaves so much due
  goes_on : (budget most : ℕ) (next : CopyStage) (after : Servers) → after.meta ≡ s.meta → IsWithin room most next → (most + 1) + dues cost fails after.targets ≤ budget + dues cost fails s.targets → Goes CopyView (OwnsCopy c) Known CallLeft c cost fails s budget (copy_on v next) after
  goes_on budget most next after same within less = record {
    leaves = λ number cookie other h. subst (λ (m : MetaView). HeldIn number cookie m.files) (sym same) h;
    own = record { client = client; phase = within.hand };
    pays = λ known. (let left = within.left in omega (arith, left, less));
  }

  done_within : (x : CopyingView) → IsWithin room 1 (clears_none x)
  done_within x = record { left = omega arith; hand = tt }

  -- ---- fences

  fences : (x : CopyingView) (next : ℕ) (o : CopyObject) (a : CallAnswer) → next < length (fences_of x) → Fares CopyView (OwnsCopy c) Known CallLeft c cost fails s (stage_left room (stage.Fence x next)) (fences_object v s x next o a)
  fences x next o a lt = by a
    where
      after : Servers
      after = fenced s x o.object

      due : dues cost fails (fenced s x o.object).targets ≤ dues cost fails s.targets
      due = called_due cost fails s o.object.target (after_fence (target_of s o.object) o.object.number x.side.layout.generation) _ refl

      most : ℕ
      most = (((length (fences_of x) - (next + 1)) + length (resets_of x)) + 2) + room

      failed : Fares CopyView (OwnsCopy c) Known CallLeft c cost fails s (stage_left room (stage.Fence x next)) (fences_object v s x next o answer.Failed)
      failed = goes_on (stage_left room (stage.Fence x next)) most _ after refl (fences_within room (leaves_over x o.extent (next_call_on s.targets o.object.target)) (next + 1)) (omega (arith, due, lt))

      by : (a : CallAnswer) → Fares CopyView (OwnsCopy c) Known CallLeft c cost fails s (stage_left room (stage.Fence x next)) (fences_object v s x next o a)
      by answer.Ok = goes_on (stage_left room (stage.Fence x next)) most _ after refl (fences_within room x (next + 1)) (omega (arith, due, lt))
      by (answer.Old kept) = failed
      by answer.Failed = failed

  -- ---- resets

  resets : (x : CopyingView) (next : ℕ) (o : CopyObject) (a : CallAnswer) → next < length (resets_of x) → Fares CopyView (OwnsCopy c) Known CallLeft c cost fails s (stage_left room (stage.Reset x next)) (resets_object v s x next o a)
  resets x next o a lt = by a
    where
      after : Servers
      after = emptied s x o.object

      due : dues cost fails (emptied s x o.object).targets ≤ dues cost fails s.targets
      due = called_due cost fails s o.object.target (after_reset (target_of s o.object) o.object.number x.side.layout.generation) _ refl

      most : ℕ
      most = ((length (resets_of x) - (next + 1)) + 2) + room

      by : (a : CallAnswer) → Fares CopyView (OwnsCopy c) Known CallLeft c cost fails s (stage_left room (stage.Reset x next)) (resets_object v s x next o a)
      by answer.Ok = goes_on (stage_left room (stage.Reset x next)) most _ after refl (resets_within room x (next + 1)) (omega (arith, due, lt))
      by (answer.Old kept) = goes_on (stage_left room (stage.Reset x next)) 1 _ after refl (done_within x) (omega (arith, due, lt))
      by answer.Failed = goes_on (stage_left room (stage.Reset x next)) most _ after refl (resets_within room (leaves_with x o.component (next_call_on s.targets o.object.target)) (next + 1)) (omega (arith, due, lt))

  -- ---- settle

  settling : (x : CopyingView) (o : Option (ℕ × Range)) (size : Option ℕ) → ((k : ℕ) → size ≡ Some k → 2 * chunks_of k x.destinations ≤ room) → Fares CopyView (OwnsCopy c) Known CallLeft c cost fails s (2 + room) (settles v s x o size)
  settling x (Some told) size known = tt
  settling x None (Some size) known = let few = known size refl in goes_on (2 + room) (2 * chunks_of size x.destinations + 1) _ s refl (from_within room size 0 x) (omega (arith, few))
  settling x None None known = goes_on (2 + room) 1 _ s refl (done_within x) (omega arith)

  -- ---- takes and puts

  takes : (h : Chunk) (p : Piece) (a : CallAnswer) → read_answer (target_of s (object_of p)) ≡ a → IsInHand (stage.Take h) → Fares CopyView (OwnsCopy c) Known CallLeft c cost fails s (2 * chunks_left h + 1) (takes_chunk v s h p a)
  takes h p a e hand = by a e
    where
      due : dues cost fails (piece_read s p).targets ≤ dues cost fails s.targets
      due = called_due cost fails s (object_of p).target (after_read (target_of s (object_of p)) (object_of p).number p.offset (length_of p)) _ refl

      by : (a : CallAnswer) → read_answer (target_of s (object_of p)) ≡ a → Fares CopyView (OwnsCopy c) Known CallLeft c cost fails s (2 * chunks_left h + 1) (takes_chunk v s h p a)
      by answer.Ok e = goes_on (2 * chunks_left h + 1) (2 * chunks_left h) _ (piece_read s p) refl (record { left = omega arith; hand = hand }) (omega (arith, due))
      by (answer.Old kept) e = absurd (never_old (next_fail (target_of s (object_of p))) kept e)
      by answer.Failed e =
          let met = failed_due cost fails s (object_of p).target (after_read (target_of s (object_of p)) (object_of p).number p.offset (length_of p)) _ refl listed false 0 e in
          goes_on (2 * chunks_left h + 1) (2 * chunks_left h + 1) (again h p.component (next_call_on s.targets (object_of p).target)) (piece_read s p) refl
          (chunks_within room h.size h.place (h.failed ++ p.component ∷ []) (Some (next_call_on s.targets (object_of p).target)) h.number h.copying) (omega (arith, met, some))

  puts : (h : Chunk) (bytes : List ℕ) (p : Piece) (a : CallAnswer) → IsInHand (stage.Put h bytes) → Fares CopyView (OwnsCopy c) Known CallLeft c cost fails s (2 * chunks_left h) (puts_chunk v s h bytes p a)
  puts h bytes p a hand = by a
    where
      after : Servers
      after = piece_put s h p bytes

      due : dues cost fails (piece_put s h p bytes).targets ≤ dues cost fails s.targets
      due = called_due cost fails s (object_of p).target (after_write (target_of s (object_of p)) (object_of p).number p.offset bytes h.copying.side.layout.generation) _ refl

      by : (a : CallAnswer) → Fares CopyView (OwnsCopy c) Known CallLeft c cost fails s (2 * chunks_left h) (puts_chunk v s h bytes p a)
      by answer.Ok = goes_on (2 * chunks_left h) _ _ after refl (chunks_within room h.size h.place h.failed h.last (h.number + 1) h.copying) (omega (arith, due, hand))
      by (answer.Old kept) = goes_on (2 * chunks_left h) 1 _ after refl (done_within h.copying) (omega (arith, due, hand))
      by answer.Failed =
          let call : FailedCall = next_call_on s.targets (object_of p).target in
          let ahead = left_ahead h.copying h.place call in
          let w = from_within room h.size (h.place + 1) (leaves_at h.copying h.place call) in
          let same : chunks_of h.size (drop (h.place + 1) (leaves_at h.copying h.place call).destinations) ≡ chunks_of h.size (drop (h.place + 1) h.copying.destinations) = ap (chunks_of h.size) ahead in
          goes_on (2 * chunks_left h) _ _ after refl w (omega (arith, due, hand, same))

  -- ---- done

  ends : (key : KeyView) (cleared : List ℕ) (left : List Left) (o : Ending (Unit {0})) → copy_ends key cleared s.meta ≡ o → Fares CopyView (OwnsCopy c) Known CallLeft c cost fails s 1 (ends_copy v s cleared left o)
  ends key cleared left (Ends done after) e = record { leaves = leaves_by c (CopyDone key cleared) s.meta after (sym (ap (λ (o : Ending (Unit {0})). left_at o s.meta) e)) (λ number cookie other. tt); pays = omega arith }
  ends key cleared left (Breaks step after) e = record { leaves = leaves_by c (CopyDone key cleared) s.meta after (sym (ap (λ (o : Ending (Unit {0})). left_at o s.meta) e)) (λ number cookie other. tt); pays = omega arith }
  ends key cleared left (Holds holder) e = tt

  pub by_stage : (next : CopyStage) → IsInHand next → KnownStage stripes room s next → Fares CopyView (OwnsCopy c) Known CallLeft c cost fails s (stage_left room next) (stage_at next v s)
  by_stage (stage.Fence x next) hand known = fences x next (object_at (fences_of x) next) (fence_answer (target_of s (object_at (fences_of x) next).object)) hand
  by_stage (stage.Reset x next) hand known = resets x next (object_at (resets_of x) next) (reset_answer (target_of s (object_at (resets_of x) next).object) (object_at (resets_of x) next).object.number x.side.layout.generation) hand
  by_stage (stage.Settle x) hand known = settling x (first_writer s.locks v.client (settled_objects x)) (size_of x.side.file s.meta) known
  by_stage (stage.Take h) hand known = takes h (piece_from h) (read_answer (target_of s (object_of (piece_from h)))) refl hand
  by_stage (stage.Put h bytes) hand known = puts h bytes (piece_to h) (write_answer (target_of s (object_of (piece_to h))) (object_of (piece_to h)).number h.copying.side.layout.generation) hand
  by_stage (stage.Done key cleared left) hand known = ends key cleared left (copy_ends key cleared s.meta) refl
