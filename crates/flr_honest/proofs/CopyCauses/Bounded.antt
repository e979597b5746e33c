-- The chunk that a copy of one file takes or puts has a byte of its destination and of the file, and as many bytes are put as it has.
use Rattle.std.proofs.Common.{◌≡◌, ℕ, suc, ◌+◌, ◌-◌, ◌<◌, ◌==◌, nat_lt, Bool, true, false, not, cond, List, [], ◌∷◌, ◌++◌, length, drop, Option, None, Some, refl, sym, ap, subst, ◌∙◌}
use Rattle.std.specs.Prelude.{unwrap_or}
use Rattle.flr_base.proofs.Bytes.{length-piece}
use Rattle.flr_base.specs.declared.reply.FailedCall.{FailedCall}
use Rattle.flr_base.specs.declared.reply.Left.{Left}
use Rattle.flr_base.specs.declared.reply.Range.{Range}
use Rattle.composite_layout.specs.declared.component.Component.{Component}
use Rattle.composite_layout.specs.declared.spec.MirrorSpec.{MirrorSpec}
use Rattle.composite_layout.specs.Making.{part_count}
use Rattle.layout_lease.specs.Leases.{holder_of}
use Rattle.layout_lease.specs.Shares.{lowest_but}
use Rattle.layout_state.specs.declared.error.StateError.{StateError}
use Rattle.layout_state.specs.Mirroring.{excess}
use Rattle.layout_state.specs.Selecting.{absent_of, selected_of}
use Rattle.mirror_select.specs.Candidates.{chosen}
use Rattle.mirror_select.specs.declared.types.Piece.{Piece}
use Rattle.object_target.specs.Calls.{fence_answer, read_answer, reset_answer, write_answer}
use Rattle.object_target.specs.declared.call.CallAnswer.{CallAnswer}
use Rattle.object_target.specs.declared.call.CallAnswer.TheVariants as answer
use Rattle.object_target.specs.TargetState.{bytes_at}
use Rattle.meta_server.specs.declared.answers.Begun.{Begun}
use Rattle.meta_server.specs.declared.answers.Begun.TheVariants as begun_as
use Rattle.meta_server.specs.declared.answers.CopyWhat.{CopyWhat}
use Rattle.meta_server.specs.declared.answers.CopyWhat.TheVariants.{Resync, Extend, Victim}
use Rattle.meta_server.specs.Beginning.{copy_begins, copy_begins_file, extend_alone, extend_begins, extend_leased, extend_wanted, resync_alone, resync_begins, resync_leased, resync_wanted}
use Rattle.meta_server.specs.Closing.{size_of}
use Rattle.meta_server.specs.Ending.{copy_ends}
use Rattle.meta_server.specs.Files.{File, MetaView, file_named, with_layout}
use Rattle.meta_server.specs.Layouts.{extended, new_ids}
use Rattle.meta_server.specs.Outcomes.{Ending, Ends, Breaks, Holds, Gives, Refuses, Waits}
use Rattle.meta_server.specs.Outcomes as meta
use Rattle.call_steps.specs.Pieces.{length_of, object_of}
use Rattle.call_steps.specs.Runs.{goes_on}
use Rattle.call_steps.specs.Servers.{Servers, next_call_on}
use Rattle.resync_copy.specs.declared.parts.CopyObject.{CopyObject}
use Rattle.resync_copy.specs.declared.parts.Destination.{Destination}
use Rattle.resync_copy.specs.declared.phase.Chunk.{Chunk}
use Rattle.resync_copy.specs.declared.phase.CopyAt.{CopyAt}
use Rattle.resync_copy.specs.declared.phase.CopyAt.TheVariants as at
use Rattle.resync_copy.specs.declared.phase.CopyStage.{CopyStage}
use Rattle.resync_copy.specs.declared.phase.CopyStage.TheVariants as stage
use Rattle.resync_copy.specs.Calls.{CopyView}
use Rattle.resync_copy.specs.Chunks.{chunk_of, chunk_start, chunks_between, first_solid, is_hole, piece_in}
use Rattle.resync_copy.specs.Copies.{bytes_in, bytes_of, chunks_from, clears, copies_chunks, copies_each, copies_from, copies_solid, destination_of, end_of, ends_copy, fences_from, fences_object, first_writer, leaves_at, leaves_over, leaves_with, next_reset, no_call, object_at, piece_from, piece_to, puts_chunk, resets_at, resets_from, resets_object, settled_from, settled_objects, settles, settles_from, stage_at, takes_chunk, takes_from, target_of}
use Rattle.resync_copy.specs.Fitting.{HasSource}
use Rattle.resync_copy.specs.Parts.{all_left, destination_at, is_kept, left_at}
use Rattle.resync_copy.specs.Steps.{begins, copy_at}
use Rattle.resync_copy.specs.Views.{CopyingView, begun_copy, fences_of, resets_of}
use Rattle.copy_laws.proofs.Finds.{found_below}
use Rattle.copy_laws.proofs.Going.{drop_first, drop_left, drop_next}
use Rattle.flr_bytes.specs.Fitting.{IsFitAt, IsFitStage}
use Rattle.flr_honest.specs.Legal.Sentences.{TakesInNone}

-- the chunk has a byte of its destination and of the file
abbrev pub HasByte : Chunk → Type 0
HasByte h = chunk_start h.number < end_of h.size (destination_of h)

-- so it is at a stage, and as many bytes are put as the chunk has
abbrev pub IsBounded : CopyStage → Type 0
IsBounded (stage.Fence x next) = Unit {0}
IsBounded (stage.Reset x next) = Unit {0}
IsBounded (stage.Settle x) = Unit {0}
IsBounded (stage.Take h) = HasByte h
IsBounded (stage.Put h bytes) = HasByte h × (length bytes ≡ (bytes_of h).end - (bytes_of h).start)
IsBounded (stage.Done key cleared left) = Unit {0}

-- and the copy is no merge
abbrev pub IsBoundedAt : CopyAt → Type 0
IsBoundedAt at.Begin = Unit {0}
IsBoundedAt (at.Copy next) = IsBounded next
IsBoundedAt (at.Merge next) = ⊥

-- a call of a copy of one file that goes on
abbrev pub IsBoundedCall : Option CopyView → Type 0
IsBoundedCall None = Unit {0}
IsBoundedCall (Some v) = TakesInNone v.what × IsBoundedAt v.at

-- ---- what comes next

module _ (size place : ℕ) (failed : List ℕ) (last : Option FailedCall) (others : CopyingView → CopyStage) (x : CopyingView) where
  chunks_bounded : (number : ℕ) → IsBounded (others x) → ((call : FailedCall) → IsBounded (others (leaves_at x place call)))
      → IsBounded (copies_chunks size place failed last others x (chunks_between number (end_of size (destination_at x.destinations place))))
  chunks_bounded number more less = by (first_solid x.side.layout.components failed (chunks_between number end)) refl
    where
      end : ℕ
      end = end_of size (destination_at x.destinations place)

      taken : (j : ℕ) → chunk_start j < end → (o : Option Component) → IsBounded (takes_from size place failed last others x j o)
      taken j below (Some c) = below
      taken j below None = less (unwrap_or last no_call)

      by : (o : Option ℕ) → first_solid x.side.layout.components failed (chunks_between number end) ≡ o → IsBounded (copies_solid size place failed last others x o)
      by (Some j) e = taken j (found_below (λ (chunk : ℕ). not (is_hole x.side.layout.components failed chunk)) number end j e) (chosen x.side.layout.components failed (chunk_start j))
      by None e = more

each_bounded : (size : ℕ) (ds : List Destination) (place : ℕ) (x : CopyingView) → ds ≡ drop place x.destinations → IsBounded (copies_each size place ds x)
each_bounded size [] place x e = tt
each_bounded size (d ∷ ds) place x e = by (λ y more. each_bounded size ds (place + 1) y more) (is_kept d)
  where
    parts : (place < length x.destinations) × (destination_at x.destinations place ≡ d) × (ds ≡ drop (suc place) x.destinations)
    parts = drop_first x.destinations place d ds e

    by : ((y : CopyingView) → ds ≡ drop (place + 1) y.destinations → IsBounded (copies_each size (place + 1) ds y))
        → (b : Bool) → IsBounded (cond b (copies_chunks size place [] None (copies_each size (place + 1) ds) x (chunks_between (chunk_of d.extent.start) (end_of size d))) (copies_each size (place + 1) ds x))
    by others true =
        subst (λ (g : Destination). IsBounded (copies_chunks size place [] None (copies_each size (place + 1) ds) x (chunks_between (chunk_of d.extent.start) (end_of size g)))) parts.1
        (chunks_bounded size place [] None (copies_each size (place + 1) ds) x (chunk_of d.extent.start) (others x (parts.2 ∙ drop_next place x.destinations))
        (λ call. others (leaves_at x place call) (parts.2 ∙ sym (drop_left place call x.destinations) ∙ drop_next place (left_at place call x.destinations))))
    by others false = others x (parts.2 ∙ drop_next place x.destinations)

copies_bounded : (size place : ℕ) (x : CopyingView) → IsBounded (copies_from size place x)
copies_bounded size place x = each_bounded size (drop place x.destinations) place x refl

from_bounded : (size place : ℕ) (failed : List ℕ) (last : Option FailedCall) (number : ℕ) (x : CopyingView) → IsBounded (chunks_from size place failed last number x)
from_bounded size place failed last number x =
    chunks_bounded size place failed last (copies_from size (place + 1)) x number (copies_bounded size (place + 1) x) (λ call. copies_bounded size (place + 1) (leaves_at x place call))

settles_bounded : (x : CopyingView) → IsBounded (settles_from x)
settles_bounded x = by (all_left x.destinations)
  where
    by : (b : Bool) → IsBounded (cond b (clears x) (stage.Settle x))
    by true = tt
    by false = tt

resets_bounded : (x : CopyingView) (place : ℕ) → IsBounded (resets_from x place)
resets_bounded x place = by (next_reset x place)
  where
    by : (o : Option ℕ) → IsBounded (resets_at x o)
    by (Some next) = tt
    by None = settles_bounded x

fences_bounded : (x : CopyingView) (next : ℕ) → IsBounded (fences_from x next)
fences_bounded x next = by (nat_lt next (length (fences_of x)))
  where
    by : (b : Bool) → IsBounded (cond b (stage.Fence x next) (resets_from x 0))
    by true = tt
    by false = resets_bounded x 0

settled_bounded : (x : CopyingView) (size : Option ℕ) → IsBounded (settled_from x size)
settled_bounded x (Some size) = copies_bounded size 0 x
settled_bounded x None = tt

-- ---- begin

-- the begin is no merge's
abbrev BeginsNoMerge : meta.Outcome Begun → Type 0
BeginsNoMerge (Gives (begun_as.Merge ours theirs) after) = ⊥
BeginsNoMerge other = Unit {0}

module _ (client : ℕ) (m : MetaView) where
  resync_alone_none : (f : File) (ids : List ℕ) (o : Option ℕ) → BeginsNoMerge (resync_alone client m f ids o)
  resync_alone_none f ids (Some holder) = tt
  resync_alone_none f ids None = tt

  resync_wanted_none : (f : File) (ids : List ℕ) (b : Bool) → BeginsNoMerge (resync_wanted client m f ids b)
  resync_wanted_none f ids true = tt
  resync_wanted_none f ids false = resync_alone_none f ids (lowest_but client f.lock)

  resync_leased_none : (only : Option (List ℕ)) (f : File) (o : Option ℕ) → BeginsNoMerge (resync_leased client m only f o)
  resync_leased_none only f (Some holder) = tt
  resync_leased_none only f None = resync_wanted_none f (selected_of only f.layout.components) (length (selected_of only f.layout.components) == 0)

  resync_none : (only : Option (List ℕ)) (f : File) (o : Option ℕ) → BeginsNoMerge (resync_begins client m only f o)
  resync_none only f (Some id) = tt
  resync_none only f None = resync_leased_none only f (holder_of m.leases f.number)

  extend_wanted_none : (g : File) (ids : List ℕ) (b : Bool) → BeginsNoMerge (extend_wanted client m g ids b)
  extend_wanted_none g ids true = tt
  extend_wanted_none g ids false = tt

  extend_alone_none : (mirrors : List MirrorSpec) (f : File) (o : Option ℕ) → BeginsNoMerge (extend_alone client m mirrors f o)
  extend_alone_none mirrors f (Some holder) = tt
  extend_alone_none mirrors f None =
      let l = extended mirrors (length m.nexts) f.layout in
      let ids : List ℕ = selected_of (Some (new_ids mirrors f.layout)) l.components in
      extend_wanted_none (with_layout l f) ids (length ids == 0)

  extend_leased_none : (mirrors : List MirrorSpec) (f : File) (o : Option ℕ) → BeginsNoMerge (extend_leased client m mirrors f o)
  extend_leased_none mirrors f (Some holder) = tt
  extend_leased_none mirrors f None = extend_alone_none mirrors f (lowest_but client f.lock)

  extend_none : (mirrors : List MirrorSpec) (f : File) (o : Option StateError) → BeginsNoMerge (extend_begins client m mirrors f o)
  extend_none mirrors f (Some error) = tt
  extend_none mirrors f None = extend_leased_none mirrors f (holder_of m.leases f.number)

  begins_none : (name : List ℕ) (what : CopyWhat) → TakesInNone what → (o : Option File) → BeginsNoMerge (copy_begins_file client m name what o)
  begins_none name what none None = tt
  begins_none name (Resync only) none (Some f) = resync_none only f (absent_of only f.layout.components)
  begins_none name (Extend mirrors) none (Some f) = extend_none mirrors f (excess f.layout (length mirrors) (part_count mirrors) m.most)
  begins_none name (Victim victim) none (Some f) = absurd none

-- ---- each step

module _ (c : CopyView) (s : Servers) (none : TakesInNone c.what) where
  begun_bounded : (o : meta.Outcome Begun) → BeginsNoMerge o → IsBoundedCall (goes_on (begins c s o))
  begun_bounded (Gives begun_as.Nothing after) k = tt
  begun_bounded (Gives (begun_as.Copy side ids) after) k = (none, fences_bounded (begun_copy side ids) 0)
  begun_bounded (Gives (begun_as.Merge ours theirs) after) k = absurd k
  begun_bounded (Refuses refusal) k = tt
  begun_bounded (Waits holder) k = tt

  fence_bounded : (x : CopyingView) (next : ℕ) (o : CopyObject) (a : CallAnswer) → IsBoundedCall (goes_on (fences_object c s x next o a))
  fence_bounded x next o answer.Ok = (none, fences_bounded x (next + 1))
  fence_bounded x next o (answer.Old kept) = (none, fences_bounded (leaves_over x o.extent (next_call_on s.targets o.object.target)) (next + 1))
  fence_bounded x next o answer.Failed = (none, fences_bounded (leaves_over x o.extent (next_call_on s.targets o.object.target)) (next + 1))

  reset_bounded : (x : CopyingView) (next : ℕ) (o : CopyObject) (a : CallAnswer) → IsBoundedCall (goes_on (resets_object c s x next o a))
  reset_bounded x next o answer.Ok = (none, resets_bounded x (next + 1))
  reset_bounded x next o (answer.Old kept) = (none, tt)
  reset_bounded x next o answer.Failed = (none, resets_bounded (leaves_with x o.component (next_call_on s.targets o.object.target)) (next + 1))

  settle_bounded : (x : CopyingView) (o : Option (ℕ × Range)) (size : Option ℕ) → IsBoundedCall (goes_on (settles c s x o size))
  settle_bounded x (Some told) size = tt
  settle_bounded x None size = (none, settled_bounded x size)

  -- so many bytes are read as the chunk has
  as_many_read : (h : Chunk) → HasSource h → length (bytes_in s (piece_from h)) ≡ (bytes_of h).end - (bytes_of h).start
  as_many_read h source =
      let p : Piece = piece_from h in
      let long = length-piece (bytes_at (target_of s (object_of p)) (object_of p).number) p.offset (length_of p) in
      long ∙ ap (λ (o : Option Component). length_of (piece_in o (bytes_of h))) source.1

  take_bounded : (h : Chunk) → HasByte h → HasSource h → (a : CallAnswer) → IsBoundedCall (goes_on (takes_chunk c s h (piece_from h) a))
  take_bounded h byte source answer.Ok = (none, (byte, as_many_read h source))
  take_bounded h byte source (answer.Old kept) = (none, from_bounded h.size h.place (h.failed ++ (piece_from h).component ∷ []) (Some (next_call_on s.targets (object_of (piece_from h)).target)) h.number h.copying)
  take_bounded h byte source answer.Failed = (none, from_bounded h.size h.place (h.failed ++ (piece_from h).component ∷ []) (Some (next_call_on s.targets (object_of (piece_from h)).target)) h.number h.copying)

  put_bounded : (h : Chunk) (bytes : List ℕ) (p : Piece) (a : CallAnswer) → IsBoundedCall (goes_on (puts_chunk c s h bytes p a))
  put_bounded h bytes p answer.Ok = (none, from_bounded h.size h.place h.failed h.last (h.number + 1) h.copying)
  put_bounded h bytes p (answer.Old kept) = (none, tt)
  put_bounded h bytes p answer.Failed = (none, copies_bounded h.size (h.place + 1) (leaves_at h.copying h.place (next_call_on s.targets (object_of p).target)))

  done_bounded : (cleared : List ℕ) (left : List Left) (o : Ending (Unit {0})) → IsBoundedCall (goes_on (ends_copy c s cleared left o))
  done_bounded cleared left (Ends done after) = tt
  done_bounded cleared left (Breaks step after) = tt
  done_bounded cleared left (Holds holder) = tt

  stage_bounded : (next : CopyStage) → IsBounded next → IsFitStage next → IsBoundedCall (goes_on (stage_at next c s))
  stage_bounded (stage.Fence x next) k f = fence_bounded x next (object_at (fences_of x) next) (fence_answer (target_of s (object_at (fences_of x) next).object))
  stage_bounded (stage.Reset x next) k f = reset_bounded x next (object_at (resets_of x) next) (reset_answer (target_of s (object_at (resets_of x) next).object) (object_at (resets_of x) next).object.number x.side.layout.generation)
  stage_bounded (stage.Settle x) k f = settle_bounded x (first_writer s.locks c.client (settled_objects x)) (size_of x.side.file s.meta)
  stage_bounded (stage.Take h) k f = take_bounded h k f.1 (read_answer (target_of s (object_of (piece_from h))))
  stage_bounded (stage.Put h bytes) k f = put_bounded h bytes (piece_to h) (write_answer (target_of s (object_of (piece_to h))) (object_of (piece_to h)).number h.copying.side.layout.generation)
  stage_bounded (stage.Done key cleared left) k f = done_bounded cleared left (copy_ends key cleared s.meta)

  -- a copy of one file stays so
  pub step_bounded : (a : CopyAt) → IsBoundedAt a → IsFitAt a → IsBoundedCall (goes_on (copy_at a c s))
  step_bounded at.Begin k f = begun_bounded (copy_begins c.client c.name c.what s.meta) (begins_none c.client s.meta c.name c.what none (file_named c.name s.meta.files))
  step_bounded (at.Copy next) k f = stage_bounded next k f
  step_bounded (at.Merge next) k f = absurd k
