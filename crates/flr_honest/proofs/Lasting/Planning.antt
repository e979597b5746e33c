-- What copies and merges have in hand, by what they do next.
use Rattle.std.proofs.Common.{◌≡◌, ℕ, ◌+◌, ◌-◌, ◌<◌, ◌≤◌, ◌==◌, nat_lt, Bool, true, false, not, ◌&&◌, if◌then◌else◌, List, [], ◌∷◌, ◌++◌, length, Option, None, Some, refl, sym, ap, ◌∙◌, arith}
use Rattle.std.specs.Option.{option_map_or}
use Rattle.std.proofs.lemmas.Bool.{false≢true}
use Rattle.flr_base.proofs.Bytes.{length-piece}
use Rattle.flr_base.specs.declared.reply.FailedCall.{FailedCall}
use Rattle.flr_base.specs.declared.reply.Left.{Left}
use Rattle.flr_base.specs.declared.reply.ObjectId.{ObjectId}
use Rattle.flr_base.specs.declared.reply.Range.{Range}
use Rattle.flr_base.specs.declared.reply.Reply.{Reply}
use Rattle.flr_base.specs.declared.reply.Reply.TheVariants as reply
use Rattle.composite_layout.specs.declared.component.Component.{Component}
use Rattle.composite_layout.specs.Layouts.{IsValid}
use Rattle.layout_lease.specs.Leases.{KeyView}
use Rattle.mirror_select.specs.declared.types.Piece.{Piece}
use Rattle.mirror_select.proofs.Least.{found_in}
use Rattle.object_target.specs.Calls.{fence_answer, read_answer, reset_answer, write_answer}
use Rattle.object_target.specs.declared.call.CallAnswer.{CallAnswer}
use Rattle.object_target.specs.declared.call.CallAnswer.TheVariants as answer
use Rattle.object_target.specs.TargetState.{bytes_at}
use Rattle.meta_server.specs.Beginning.{copy_begins}
use Rattle.meta_server.specs.Closing.{size_of}
use Rattle.meta_server.specs.declared.answers.Begun.{Begun}
use Rattle.meta_server.specs.declared.answers.Begun.TheVariants as begun_as
use Rattle.meta_server.specs.declared.answers.Side.{Side}
use Rattle.meta_server.specs.Ending.{copy_ends, merge_ends}
use Rattle.meta_server.specs.Files.{MetaView, file_named}
use Rattle.flr_base.specs.Limits.{most_bytes}
use Rattle.meta_server.specs.Outcomes.{Ending, Ends, Breaks, Holds, Gives, Refuses, Waits}
use Rattle.meta_server.specs.Outcomes as meta
use Rattle.call_steps.specs.Pieces.{length_of, object_of}
use Rattle.call_steps.specs.Servers.{Servers, next_call_on}
use Rattle.call_steps.specs.Steps.{Outcome}
use Rattle.resync_copy.specs.Calls.{CopyView}
use Rattle.resync_copy.specs.declared.merge_phase.MergeStage.{MergeStage}
use Rattle.resync_copy.specs.declared.merge_phase.MergeStage.TheVariants as merge
use Rattle.resync_copy.specs.declared.merge_phase.Pair.{Pair}
use Rattle.resync_copy.specs.declared.parts.CopyObject.{CopyObject}
use Rattle.resync_copy.specs.declared.parts.Destination.{Destination}
use Rattle.resync_copy.specs.declared.phase.Chunk.{Chunk}
use Rattle.resync_copy.specs.declared.phase.CopyAt.{CopyAt}
use Rattle.resync_copy.specs.declared.phase.CopyAt.TheVariants as copying
use Rattle.resync_copy.specs.declared.phase.CopyStage.{CopyStage}
use Rattle.resync_copy.specs.declared.phase.CopyStage.TheVariants as stage
use Rattle.resync_copy.specs.Chunks.{chunk_of, chunk_range, chunks_between, piece_in}
use Rattle.resync_copy.specs.Comparing.{ComparingView, comparing_of, merge_fences}
use Rattle.resync_copy.specs.Copies as copies
use Rattle.resync_copy.specs.MergeFitting.{HasObjects}
use Rattle.resync_copy.specs.Merges as merges
use Rattle.resync_copy.specs.Parts.{all_left, destination_at, is_kept, left_at}
use Rattle.resync_copy.specs.Steps.{begins, copy_at}
use Rattle.resync_copy.specs.Views.{CopyingView, begun_copy, fences_of, resets_of, with_destinations}
use Rattle.resync_copy.proofs.BeginLaws.{begun_sound}
use Rattle.copy_laws.proofs.Begins.{of_file}
use Rattle.flr_steps.proofs.OwnSteps.{AllNext}
use Rattle.flr_bytes.specs.Fitting.{AreFit, IsChunkFit, IsFitAt, IsFitMerge, IsFitStage}
use Rattle.flr_honest.proofs.Lasting.Distinct.{begun_once}
use Rattle.flr_honest.proofs.Lasting.Going.{Goes, chunks_from_go, copies_go}

-- ---- copies

-- the same where other destinations are left
kept : (x : CopyingView) (ds : List Destination) → AreFit x → AreFit (with_destinations x ds)
kept x ds f = record { made = f.made; once = f.once }

-- what holds before a destination is begun, and before a chunk of it
abbrev Ready : ℕ → CopyingView → ℕ → Type 0
Ready size x place = AreFit x × (size ≤ most_bytes)

abbrev At : ℕ → CopyingView → ℕ → ℕ → Type 0
At size x place number = AreFit x × (size ≤ most_bytes) × (place < length x.destinations) × (is_kept (destination_at x.destinations place) ≡ true) × (chunk_of (destination_at x.destinations place).extent.start ≤ number)

goes : (size : ℕ) → Goes IsFitStage size (Ready size) (At size)
goes size = record {
  skips = λ x place number next failed at holes up. (at.0, at.1, at.2, at.3, (let from = at.4 in omega (arith, from, up)));
  ends = λ x place number failed at holes. (at.0, at.1);
  leaves = λ x place number call at. (kept x (left_at place call x.destinations) at.0, at.1);
  passes = λ x place ready left. ready;
  starts = λ x place ready within is. (ready.0, ready.1, within, is, omega arith);
  clears = λ x place ready all. tt;
  takes = λ x place number failed last at c is init. (record { copying = at.0; size = at.1; within = at.2; kept = at.3; from = at.4 }, (c, is, init));
}

at_chunk : (h : Chunk) → IsChunkFit h → At h.size h.copying h.place h.number
at_chunk h f = (f.copying, f.size, f.within, f.kept, f.from)

settles_fit : (x : CopyingView) → AreFit x → IsFitStage (copies.settles_from x)
settles_fit x f = by (all_left x.destinations)
  where
    by : (b : Bool) → IsFitStage (if b then copies.clears x else stage.Settle x)
    by true = tt
    by false = f

resets_fit : (x : CopyingView) (place : ℕ) → AreFit x → IsFitStage (copies.resets_from x place)
resets_fit x place f = by (copies.next_reset x place)
  where
    by : (o : Option ℕ) → IsFitStage (copies.resets_at x o)
    by (Some next) = f
    by None = settles_fit x f

pub fences_fit : (x : CopyingView) (next : ℕ) → AreFit x → IsFitStage (copies.fences_from x next)
fences_fit x next f = by (nat_lt next (length (fences_of x)))
  where
    by : (b : Bool) → IsFitStage (if b then stage.Fence x next else copies.resets_from x 0)
    by true = f
    by false = resets_fit x 0 f

-- a chunk has no more than so many bytes
few_bytes : (s : Servers) (h : Chunk) → length (copies.bytes_in s (copies.piece_from h)) ≤ 65536
few_bytes s h =
    let p : Piece = copies.piece_from h in
    let long = length-piece (bytes_at (copies.target_of s (object_of p)) (object_of p).number) p.offset (length_of p) in
    let few = piece_few (copies.source_of h) (copies.bytes_of h) (chunk_few h.number (copies.end_of h.size (copies.destination_of h))) in
    omega (arith, long, few)
  where
    chunk_few : (n end : ℕ) → (chunk_range n end).end - (chunk_range n end).start ≤ 65536
    chunk_few n end = omega arith

    piece_few : (c : Option Component) (r : Range) → r.end - r.start ≤ 65536 → length_of (piece_in c r) ≤ 65536
    piece_few None r few = few
    piece_few (Some c) r few = few

-- ---- merges

-- a source that has its objects
solid : (o : Option Component) → merges.is_solid o ≡ Some true → HasObjects o
solid None e = absurd (cc e)
solid (Some c) e = (c, refl, (let both : c.flags.init ≡ true = cc e in both))

starts_fit : (p : Pair) → p.size ≤ most_bytes → (o t : Option Component) → merges.our_source p ≡ o → merges.their_source p ≡ t → not (option_map_or (λ (d : Component). not d.flags.init) o false && option_map_or (λ (d : Component). not d.flags.init) t false) ≡ true
    → IsFitMerge (merges.starts_pair p (merges.is_solid o) (merges.is_solid t))
starts_fit p small None t ours theirs some = tt
starts_fit p small (Some c) t ours theirs some = mine c.flags.init refl
  where
    other : (d : Option Component) → merges.their_source p ≡ d → not (true && option_map_or (λ (e : Component). not e.flags.init) d false) ≡ true → IsFitMerge (merges.starts_theirs p (merges.is_solid d))
    other None is e = tt
    other (Some d) is e = (small, (d, is, made d.flags.init e))
      where
        made : (b : Bool) → not (true && not b) ≡ true → b ≡ true
        made true e = refl
        made false e = absurd (false≢true e)

    mine : (b : Bool) → c.flags.init ≡ b → IsFitMerge (merges.starts_pair p (Some b) (merges.is_solid t))
    mine true init = (small, (c, ours, init))
    mine false init = other t theirs (sym (ap (λ (b : Bool). not (not b && option_map_or (λ (d : Component). not d.flags.init) t false)) init) ∙ some)

pairs_fit : (p : Pair) → p.size ≤ most_bytes → IsFitMerge (merges.pairs_from p)
pairs_fit p small = by (merges.next_pair p) refl
  where
    by : (o : Option ℕ) → merges.next_pair p ≡ o → IsFitMerge (merges.pairs_at p o)
    by None e = tt
    by (Some number) e =
        let q : Pair = merges.pair_at p number in
        starts_fit q small (merges.our_source q) (merges.their_source q) refl refl (found_in (λ chunk. not (merges.are_holes p chunk)) (chunks_between p.number p.size) number e).1

compares_fit : (p : Pair) (ours theirs : Option (List ℕ)) → p.size ≤ most_bytes → IsFitMerge (merges.compares p ours theirs)
compares_fit p ours theirs small = by (merges.first_difference ((merges.range_of p).end - (merges.range_of p).start) ours theirs)
  where
    by : (o : Option ℕ) → IsFitMerge (merges.differs p ours theirs o)
    by (Some place) = tt
    by None = pairs_fit (merges.pair_at p (p.number + 1)) small

theirs_fit : (p : Pair) (ours : Option (List ℕ)) → p.size ≤ most_bytes → IsFitMerge (merges.theirs_from p ours)
theirs_fit p ours small = by (merges.is_solid (merges.their_source p)) refl
  where
    by : (o : Option Bool) → merges.is_solid (merges.their_source p) ≡ o → IsFitMerge (merges.theirs_by p ours o)
    by None e = tt
    by (Some true) e = (small, solid (merges.their_source p) e)
    by (Some false) e = compares_fit p ours None small

pub merge_fences_fit : (x : ComparingView) (next : ℕ) → IsFitMerge (merges.merge_fences_from x next)
merge_fences_fit x next = by (nat_lt next (length (merge_fences x)))
  where
    by : (b : Bool) → IsFitMerge (if b then merge.Fence x next else merge.Settle x)
    by true = tt
    by false = tt

merge_settled_fit : (x : ComparingView) (o p : Option ℕ) → ((size : ℕ) → o ≡ Some size → size ≤ most_bytes) → IsFitMerge (merges.merge_settled x o p)
merge_settled_fit x (Some ours) (Some theirs) small = by (ours == theirs)
  where
    by : (b : Bool) → IsFitMerge (if b then merges.pairs_from (merges.first_pair x ours) else merges.merge_done x (Some (reply.Sizes ours theirs)))
    by true = pairs_fit (merges.first_pair x ours) (small ours refl)
    by false = tt
merge_settled_fit x (Some ours) None small = tt
merge_settled_fit x None p small = tt

-- ---- each step

module _ (k : CopyView) (s : Servers) (small : (number size : ℕ) → size_of number s.meta ≡ Some size → size ≤ most_bytes) where
  abbrev Fits : Outcome CopyView → Type 0
  Fits o = AllNext (λ (x : CopyView). IsFitAt x.at) o

  fence_by : (x : CopyingView) (next : ℕ) (o : CopyObject) → AreFit x → (a : CallAnswer) → Fits (copies.fences_object k s x next o a)
  fence_by x next o f answer.Ok = fences_fit x (next + 1) f
  fence_by x next o f (answer.Old version) = fences_fit (copies.leaves_over x o.extent (next_call_on s.targets o.object.target)) (next + 1) (kept x _ f)
  fence_by x next o f answer.Failed = fences_fit (copies.leaves_over x o.extent (next_call_on s.targets o.object.target)) (next + 1) (kept x _ f)

  reset_by : (x : CopyingView) (next : ℕ) (o : CopyObject) → AreFit x → (a : CallAnswer) → Fits (copies.resets_object k s x next o a)
  reset_by x next o f answer.Ok = resets_fit x (next + 1) f
  reset_by x next o f (answer.Old version) = tt
  reset_by x next o f answer.Failed = resets_fit (copies.leaves_with x o.component (next_call_on s.targets o.object.target)) (next + 1) (kept x _ f)

  settle_by : (x : CopyingView) → AreFit x → (o : Option (ℕ × Range)) (size : Option ℕ) → size_of x.side.file s.meta ≡ size → Fits (copies.settles k s x o size)
  settle_by x f (Some told) size e = tt
  settle_by x f None (Some size) e = copies_go IsFitStage size (Ready size) (At size) (goes size) 0 x (f, small x.side.file size e)
  settle_by x f None None e = tt

  again_fit : (h : Chunk) (source : ℕ) (call : FailedCall) → IsChunkFit h → IsFitStage (copies.again h source call)
  again_fit h source call f = chunks_from_go IsFitStage h.size (Ready h.size) (At h.size) (goes h.size) h.copying h.place h.number (h.failed ++ source ∷ []) (Some call) (at_chunk h f)

  take_by : (h : Chunk) → IsChunkFit h → (a : CallAnswer) → Fits (copies.takes_chunk k s h (copies.piece_from h) a)
  take_by h f answer.Ok = (f, few_bytes s h)
  take_by h f (answer.Old version) = again_fit h (copies.piece_from h).component (next_call_on s.targets (object_of (copies.piece_from h)).target) f
  take_by h f answer.Failed = again_fit h (copies.piece_from h).component (next_call_on s.targets (object_of (copies.piece_from h)).target) f

  put_by : (h : Chunk) (bytes : List ℕ) (p : Piece) → IsChunkFit h → (a : CallAnswer) → Fits (copies.puts_chunk k s h bytes p a)
  put_by h bytes p f answer.Ok =
      chunks_from_go IsFitStage h.size (Ready h.size) (At h.size) (goes h.size) h.copying h.place (h.number + 1) h.failed h.last (f.copying, f.size, f.within, f.kept, (let from = f.from in omega (arith, from)))
  put_by h bytes p f (answer.Old version) = tt
  put_by h bytes p f answer.Failed =
      copies_go IsFitStage h.size (Ready h.size) (At h.size) (goes h.size) (h.place + 1) (copies.leaves_at h.copying h.place (next_call_on s.targets (object_of p).target)) (kept h.copying _ f.copying, f.size)

  done_by : (cleared : List ℕ) (left : List Left) (o : Ending (Unit {0})) → Fits (copies.ends_copy k s cleared left o)
  done_by cleared left (Ends done after) = tt
  done_by cleared left (Breaks step after) = tt
  done_by cleared left (Holds holder) = tt

  stage_fits : (next : CopyStage) → IsFitStage next → Fits (copies.stage_at next k s)
  stage_fits (stage.Fence x next) f = let o = copies.object_at (fences_of x) next in fence_by x next o f (fence_answer (copies.target_of s o.object))
  stage_fits (stage.Reset x next) f = let o = copies.object_at (resets_of x) next in reset_by x next o f (reset_answer (copies.target_of s o.object) o.object.number x.side.layout.generation)
  stage_fits (stage.Settle x) f = settle_by x f (copies.first_writer s.locks k.client (copies.settled_objects x)) (size_of x.side.file s.meta) refl
  stage_fits (stage.Take h) f = take_by h f.0 (read_answer (copies.target_of s (object_of (copies.piece_from h))))
  stage_fits (stage.Put h bytes) f = let p = copies.piece_to h in put_by h bytes p f.0 (write_answer (copies.target_of s (object_of p)) (object_of p).number h.copying.side.layout.generation)
  stage_fits (stage.Done key cleared left) f = done_by cleared left (copy_ends key cleared s.meta)

  merge_fence_by : (x : ComparingView) (next : ℕ) (o : ObjectId) (a : CallAnswer) → Fits (merges.merge_fences_object k s x next o a)
  merge_fence_by x next o answer.Ok = merge_fences_fit x (next + 1)
  merge_fence_by x next o (answer.Old version) = tt
  merge_fence_by x next o answer.Failed = tt

  merge_settle_by : (x : ComparingView) (next : MergeStage) → IsFitMerge next → (o : Option (ℕ × Range)) → Fits (merges.merge_settles k s x o next)
  merge_settle_by x next f (Some told) = tt
  merge_settle_by x next f None = f

  ours_by : (p : Pair) (q : Piece) → p.size ≤ most_bytes → (a : CallAnswer) → Fits (merges.takes_ours k s p q a)
  ours_by p q f answer.Ok = theirs_fit p (Some (copies.bytes_in s q)) f
  ours_by p q f (answer.Old version) = pairs_fit (merges.our_again p q.component (next_call_on s.targets (object_of q).target)) f
  ours_by p q f answer.Failed = pairs_fit (merges.our_again p q.component (next_call_on s.targets (object_of q).target)) f

  theirs_by : (p : Pair) (ours : Option (List ℕ)) (q : Piece) → p.size ≤ most_bytes → (a : CallAnswer) → Fits (merges.takes_theirs k s p ours q a)
  theirs_by p ours q f answer.Ok = compares_fit p ours (Some (copies.bytes_in s q)) f
  theirs_by p ours q f (answer.Old version) = theirs_fit (merges.their_again p q.component (next_call_on s.targets (object_of q).target)) ours f
  theirs_by p ours q f answer.Failed = theirs_fit (merges.their_again p q.component (next_call_on s.targets (object_of q).target)) ours f

  merged_by : (o : Ending (List ℕ)) → Fits (merges.ends_merge k s o)
  merged_by (Ends ids after) = tt
  merged_by (Breaks step after) = tt
  merged_by (Holds holder) = tt

  refused_by : (ours theirs : KeyView) (refusal : Option Reply) → Fits (merges.merge_ends_with k s ours theirs refusal)
  refused_by ours theirs (Some answer) = tt
  refused_by ours theirs None = merged_by (merge_ends ours theirs s.meta)

  merge_fits : (next : MergeStage) → IsFitMerge next → Fits (merges.merge_stage_at next k s)
  merge_fits (merge.Fence x next) f = let o = (copies.object_at (merge_fences x) next).object in merge_fence_by x next o (fence_answer (copies.target_of s o))
  merge_fits (merge.Settle x) f =
      let next = merges.merge_settled x (size_of x.ours.file s.meta) (size_of x.theirs.file s.meta) in
      merge_settle_by x next (merge_settled_fit x (size_of x.ours.file s.meta) (size_of x.theirs.file s.meta) (λ size e. small x.ours.file size e)) (copies.first_writer s.locks k.client (merge_fences x))
  merge_fits (merge.TakeOurs p) f = let q = merges.our_piece p in ours_by p q f.0 (read_answer (copies.target_of s (object_of q)))
  merge_fits (merge.TakeTheirs p ours) f = let q = merges.their_piece p in theirs_by p ours q f.0 (read_answer (copies.target_of s (object_of q)))
  merge_fits (merge.Done ours theirs refusal) f = refused_by ours theirs refusal

  begin_by : (o : meta.Outcome Begun) → copy_begins k.client k.name k.what s.meta ≡ o → ((side : Side) (ids : List ℕ) (after : MetaView) → o ≡ Gives (begun_as.Copy side ids) after → AreFit (begun_copy side ids)) → Fits (begins k s o)
  begin_by (Gives begun_as.Nothing after) e fits = tt
  begin_by (Gives (begun_as.Copy side ids) after) e fits = fences_fit (begun_copy side ids) 0 (fits side ids after refl)
  begin_by (Gives (begun_as.Merge ours theirs) after) e fits = merge_fences_fit (comparing_of ours theirs) 0
  begin_by (Refuses refusal) e fits = tt
  begin_by (Waits holder) e fits = tt

  -- a copy at whatever stage is fit after its step
  pub copy_fits : (at : CopyAt) → IsFitAt at → ((side : Side) (ids : List ℕ) (after : MetaView) → copy_begins k.client k.name k.what s.meta ≡ Gives (begun_as.Copy side ids) after → IsValid side.layout) → Fits (copy_at at k s)
  copy_fits copying.Begin f valid = begin_by (copy_begins k.client k.name k.what s.meta) refl (λ side ids after e. begun side ids after e)
    where
      begun : (side : Side) (ids : List ℕ) (after : MetaView) → copy_begins k.client k.name k.what s.meta ≡ Gives (begun_as.Copy side ids) after → AreFit (begun_copy side ids)
      begun side ids after e =
          let sound = begun_sound k.client k.name k.what s.meta after side ids e (valid side ids after e) in
          record { made = sound.0.each; once = begun_once side ids (of_file k.client s.meta side ids after k.name k.what (file_named k.name s.meta.files) e) (valid side ids after e) }
  copy_fits (copying.Copy next) f valid = stage_fits next f
  copy_fits (copying.Merge next) f valid = merge_fits next f
