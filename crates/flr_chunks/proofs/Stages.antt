-- What a copy knows of the chunks that it has to take and to put, at each step.
use Rattle.std.proofs.Common.{ℕ, ◌+◌, ◌-◌, ◌*◌, ◌≤◌, Bool, true, false, cond, nat_eq, nat_lt, Option, Some, None, option_map, position, List, [], ◌∷◌, ◌++◌, length, drop, map, arith}
use Rattle.std.specs.Prelude.{is_none, unwrap_or}
use Rattle.std.specs.Option.{option_or}
use Rattle.flr_base.specs.declared.reply.FailedCall.{FailedCall}
use Rattle.flr_base.specs.declared.reply.Left.{Left}
use Rattle.flr_base.specs.declared.reply.ObjectId.{ObjectId}
use Rattle.flr_base.specs.declared.reply.Range.{Range}
use Rattle.flr_base.specs.declared.reply.Reply.{Reply}
use Rattle.composite_layout.specs.declared.component.Component.{Component}
use Rattle.layout_lease.specs.Leases.{KeyView}
use Rattle.mirror_select.specs.Candidates.{chosen}
use Rattle.mirror_select.specs.declared.types.Piece.{Piece}
use Rattle.object_target.specs.declared.call.CallAnswer.{CallAnswer}
use Rattle.object_target.specs.declared.call.CallAnswer.TheVariants as answer
use Rattle.object_target.specs.Calls.{fence_answer, read_answer, reset_answer, write_answer}
use Rattle.meta_server.specs.Closing.{size_of}
use Rattle.meta_server.specs.Ending.{copy_ends, merge_ends}
use Rattle.meta_server.specs.Outcomes.{Breaks, Ending, Ends, Holds}
use Rattle.meta_server.specs.Sound.{IsSound}
use Rattle.call_steps.specs.Pieces.{object_of}
use Rattle.call_steps.specs.Servers.{Servers, next_call_on}
use Rattle.resync_copy.specs.declared.merge_phase.MergeStage.{MergeStage}
use Rattle.resync_copy.specs.declared.merge_phase.MergeStage.TheVariants as merge
use Rattle.resync_copy.specs.declared.merge_phase.Pair.{Pair}
use Rattle.resync_copy.specs.declared.parts.CopyObject.{CopyObject}
use Rattle.resync_copy.specs.declared.parts.Destination.{Destination}
use Rattle.resync_copy.specs.declared.phase.Chunk.{Chunk}
use Rattle.resync_copy.specs.declared.phase.CopyAt.{CopyAt}
use Rattle.resync_copy.specs.declared.phase.CopyAt.TheVariants as at
use Rattle.resync_copy.specs.declared.phase.CopyStage.{CopyStage}
use Rattle.resync_copy.specs.declared.phase.CopyStage.TheVariants as stage
use Rattle.resync_copy.specs.Calls.{CopyView}
use Rattle.resync_copy.specs.Chunks.{chunk_of, chunk_start, chunks_below, chunks_between, first_solid}
use Rattle.resync_copy.specs.Comparing.{ComparingView, merge_fences}
use Rattle.resync_copy.specs.Copies.{chunks_from, clears, copies_chunks, copies_each, copies_from, copies_solid, end_of, ends_copy, fences_from, fences_object, first_writer, leaves_at, leaves_over, leaves_with, no_call, object_at, piece_from, piece_to, puts_chunk, resets_at, resets_from, resets_object, settled_objects, settles, settles_from, stage_at, takes_chunk, takes_from, target_of}
use Rattle.resync_copy.specs.Merges.{ends_merge, merge_ends_with, merge_fences_object, merge_settled, merge_settles, merge_stage_at, our_piece, takes_ours, takes_theirs, their_piece}
use Rattle.resync_copy.specs.Parts.{all_left, destination_at, is_kept, is_open, left_if, overlap}
use Rattle.resync_copy.specs.Views.{CopyingView, fences_of, resets_of}
use Rattle.flr_work.specs.Known.{chunks_in, chunks_of}
use Rattle.flr_chunks.specs.Sentences.{AreFewMirrors}
use Rattle.flr_chunks.proofs.Leading.{Leads}

-- the destinations that aren't left have no more chunks below any size than a file of that size has in all mirrors but one
abbrev pub HasFewChunks : ℕ → CopyingView → Type 0
HasFewChunks most x = (size : ℕ) → chunks_of size x.destinations ≤ (most - 1) * chunks_below size

-- up to the settle a copy knows that
abbrev pub KnowsStage : ℕ → CopyStage → Type 0
KnowsStage most (stage.Fence x next) = HasFewChunks most x
KnowsStage most (stage.Reset x next) = HasFewChunks most x
KnowsStage most (stage.Settle x) = HasFewChunks most x
KnowsStage most (stage.Take h) = Unit {0}
KnowsStage most (stage.Put h bytes) = Unit {0}
KnowsStage most (stage.Done key cleared left) = Unit {0}

-- and an extend by a victim knows that two mirrors are allowed
abbrev pub KnowsAt : ℕ → CopyAt → Type 0
KnowsAt most at.Begin = Unit {0}
KnowsAt most (at.Copy next) = KnowsStage most next
KnowsAt most (at.Merge next) = 2 ≤ most

-- a copy that goes on knows it where the metadata server is sound and files have few mirrors
abbrev pub CopyWillKnow : ℕ → CopyView → Servers → Type 0
CopyWillKnow most next after = IsSound after.meta → AreFewMirrors most after.meta → KnowsAt most next.at

-- ---- a destination that is left has no chunk

left_less : (size : ℕ) (asked : Bool) (call : FailedCall) (d : Destination) → chunks_in size (left_if asked call d) ≤ chunks_in size d
left_less size false call d = omega arith
left_less size true call d = by d.left
  where
    by : (o : Option FailedCall) → cond (is_none (option_or o (Some call))) (chunks_below (end_of size d) - chunk_of d.extent.start) 0 ≤ cond (is_none o) (chunks_below (end_of size d) - chunk_of d.extent.start) 0
    by None = omega arith
    by (Some other) = omega arith

left_fewer : (size : ℕ) (test : Destination → Bool) (call : FailedCall) (ds : List Destination) → chunks_of size (map (λ (d : Destination). left_if (test d) call d) ds) ≤ chunks_of size ds
left_fewer size test call [] = omega arith
left_fewer size test call (d ∷ ds) = let one = left_less size (test d) call d in let rest = left_fewer size test call ds in omega (arith, one, rest)

module _ (most : ℕ) where
  over_few : (x : CopyingView) (range : Range) (call : FailedCall) → HasFewChunks most x → HasFewChunks most (leaves_over x range call)
  over_few x range call h = λ size. let fewer = left_fewer size (λ (d : Destination). overlap d.extent range) call x.destinations in let few = h size in omega (arith, fewer, few)

  with_few : (x : CopyingView) (id : ℕ) (call : FailedCall) → HasFewChunks most x → HasFewChunks most (leaves_with x id call)
  with_few x id call h = λ size. let fewer = left_fewer size (λ (d : Destination). nat_eq d.component id) call x.destinations in let few = h size in omega (arith, fewer, few)

  -- ---- what comes next

  settles_know : (x : CopyingView) → HasFewChunks most x → KnowsStage most (settles_from x)
  settles_know x h = by (all_left x.destinations)
    where
      by : (b : Bool) → KnowsStage most (cond b (clears x) (stage.Settle x))
      by true = tt
      by false = h

  resets_know : (x : CopyingView) (place : ℕ) → HasFewChunks most x → KnowsStage most (resets_from x place)
  resets_know x place h = by (position (λ (o : CopyObject). is_open x.destinations o.component) (drop place (resets_of x)))
    where
      by : (o : Option ℕ) → KnowsStage most (resets_at x (option_map (λ i. place + i) o))
      by None = settles_know x h
      by (Some i) = h

  pub fences_know : (x : CopyingView) (next : ℕ) → HasFewChunks most x → KnowsStage most (fences_from x next)
  fences_know x next h = by (nat_lt next (length (fences_of x)))
    where
      by : (b : Bool) → KnowsStage most (cond b (stage.Fence x next) (resets_from x 0))
      by true = h
      by false = resets_know x 0 h

  module _ (size place : ℕ) (failed : List ℕ) (last : Option FailedCall) (others : CopyingView → CopyStage) (rest : (y : CopyingView) → KnowsStage most (others y)) where
    takes_know : (x : CopyingView) (number : ℕ) (o : Option Component) → KnowsStage most (takes_from size place failed last others x number o)
    takes_know x number (Some c) = tt
    takes_know x number None = rest (leaves_at x place (unwrap_or last no_call))

    solid_knows : (x : CopyingView) (o : Option ℕ) → KnowsStage most (copies_solid size place failed last others x o)
    solid_knows x (Some number) = takes_know x number (chosen x.side.layout.components failed (chunk_start number))
    solid_knows x None = rest x

    chunks_know : (x : CopyingView) (chunks : List ℕ) → KnowsStage most (copies_chunks size place failed last others x chunks)
    chunks_know x chunks = solid_knows x (first_solid x.side.layout.components failed chunks)

  each_knows : (size : ℕ) (ds : List Destination) (place : ℕ) (x : CopyingView) → KnowsStage most (copies_each size place ds x)
  each_knows size [] place x = tt
  each_knows size (d ∷ ds) place x = by (is_kept d) (λ y. each_knows size ds (place + 1) y)
    where
      by : (b : Bool) → ((y : CopyingView) → KnowsStage most (copies_each size (place + 1) ds y))
          → KnowsStage most (cond b (copies_chunks size place [] None (copies_each size (place + 1) ds) x (chunks_between (chunk_of d.extent.start) (end_of size d))) (copies_each size (place + 1) ds x))
      by true rest = chunks_know size place [] None (copies_each size (place + 1) ds) rest x (chunks_between (chunk_of d.extent.start) (end_of size d))
      by false rest = rest x

  copies_know : (size place : ℕ) (x : CopyingView) → KnowsStage most (copies_from size place x)
  copies_know size place x = each_knows size (drop place x.destinations) place x

  from_knows : (size place : ℕ) (failed : List ℕ) (last : Option FailedCall) (number : ℕ) (x : CopyingView) → KnowsStage most (chunks_from size place failed last number x)
  from_knows size place failed last number x =
      chunks_know size place failed last (copies_from size (place + 1)) (λ y. copies_know size (place + 1) y) x (chunks_between number (end_of size (destination_at x.destinations place)))

  module _ (c : CopyView) (s : Servers) where
    -- ---- a copy

    fences : (x : CopyingView) (next : ℕ) (o : CopyObject) (a : CallAnswer) → HasFewChunks most x → Leads (CopyWillKnow most) (fences_object c s x next o a)
    fences x next o a h = by a
      where
        call : FailedCall
        call = next_call_on s.targets o.object.target

        by : (a : CallAnswer) → Leads (CopyWillKnow most) (fences_object c s x next o a)
        by answer.Ok = λ sound few. fences_know x (next + 1) h
        by (answer.Old kept) = λ sound few. fences_know (leaves_over x o.extent call) (next + 1) (over_few x o.extent call h)
        by answer.Failed = λ sound few. fences_know (leaves_over x o.extent call) (next + 1) (over_few x o.extent call h)

    resets : (x : CopyingView) (next : ℕ) (o : CopyObject) (a : CallAnswer) → HasFewChunks most x → Leads (CopyWillKnow most) (resets_object c s x next o a)
    resets x next o answer.Ok h = λ sound few. resets_know x (next + 1) h
    resets x next o (answer.Old kept) h = λ sound few. tt
    resets x next o answer.Failed h = λ sound few. (let call : FailedCall = next_call_on s.targets o.object.target in resets_know (leaves_with x o.component call) (next + 1) (with_few x o.component call h))

    settling : (x : CopyingView) (o : Option (ℕ × Range)) (size : Option ℕ) → Leads (CopyWillKnow most) (settles c s x o size)
    settling x (Some told) size = tt
    settling x None (Some size) = λ sound few. copies_know size 0 x
    settling x None None = λ sound few. tt

    takes : (k : Chunk) (p : Piece) (a : CallAnswer) → Leads (CopyWillKnow most) (takes_chunk c s k p a)
    takes k p answer.Ok = λ sound few. tt
    takes k p (answer.Old kept) = λ sound few. from_knows k.size k.place (k.failed ++ p.component ∷ []) (Some (next_call_on s.targets (object_of p).target)) k.number k.copying
    takes k p answer.Failed = λ sound few. from_knows k.size k.place (k.failed ++ p.component ∷ []) (Some (next_call_on s.targets (object_of p).target)) k.number k.copying

    puts : (k : Chunk) (bytes : List ℕ) (p : Piece) (a : CallAnswer) → Leads (CopyWillKnow most) (puts_chunk c s k bytes p a)
    puts k bytes p answer.Ok = λ sound few. from_knows k.size k.place k.failed k.last (k.number + 1) k.copying
    puts k bytes p (answer.Old kept) = λ sound few. tt
    puts k bytes p answer.Failed = λ sound few. copies_know k.size (k.place + 1) (leaves_at k.copying k.place (next_call_on s.targets (object_of p).target))

    ends : (cleared : List ℕ) (left : List Left) (o : Ending (Unit {0})) → Leads (CopyWillKnow most) (ends_copy c s cleared left o)
    ends cleared left (Ends done after) = tt
    ends cleared left (Breaks step after) = tt
    ends cleared left (Holds holder) = tt

    pub stage_knows : (next : CopyStage) → KnowsStage most next → Leads (CopyWillKnow most) (stage_at next c s)
    stage_knows (stage.Fence x next) h = fences x next (object_at (fences_of x) next) (fence_answer (target_of s (object_at (fences_of x) next).object)) h
    stage_knows (stage.Reset x next) h = resets x next (object_at (resets_of x) next) (reset_answer (target_of s (object_at (resets_of x) next).object) (object_at (resets_of x) next).object.number x.side.layout.generation) h
    stage_knows (stage.Settle x) h = settling x (first_writer s.locks c.client (settled_objects x)) (size_of x.side.file s.meta)
    stage_knows (stage.Take k) h = takes k (piece_from k) (read_answer (target_of s (object_of (piece_from k))))
    stage_knows (stage.Put k bytes) h = puts k bytes (piece_to k) (write_answer (target_of s (object_of (piece_to k))) (object_of (piece_to k)).number k.copying.side.layout.generation)
    stage_knows (stage.Done key cleared left) h = ends cleared left (copy_ends key cleared s.meta)

    -- ---- an extend by a victim

    module _ (two : 2 ≤ most) where
      fences_both : (x : ComparingView) (next : ℕ) (o : ObjectId) (a : CallAnswer) → Leads (CopyWillKnow most) (merge_fences_object c s x next o a)
      fences_both x next o answer.Ok = λ sound few. two
      fences_both x next o (answer.Old kept) = λ sound few. two
      fences_both x next o answer.Failed = λ sound few. two

      settles_both : (x : ComparingView) (o : Option (ℕ × Range)) (next : MergeStage) → Leads (CopyWillKnow most) (merge_settles c s x o next)
      settles_both x (Some told) next = tt
      settles_both x None next = λ sound few. two

      ours : (p : Pair) (q : Piece) (a : CallAnswer) → Leads (CopyWillKnow most) (takes_ours c s p q a)
      ours p q answer.Ok = λ sound few. two
      ours p q (answer.Old kept) = λ sound few. two
      ours p q answer.Failed = λ sound few. two

      theirs : (p : Pair) (bytes : Option (List ℕ)) (q : Piece) (a : CallAnswer) → Leads (CopyWillKnow most) (takes_theirs c s p bytes q a)
      theirs p bytes q answer.Ok = λ sound few. two
      theirs p bytes q (answer.Old kept) = λ sound few. two
      theirs p bytes q answer.Failed = λ sound few. two

      ends_both : (o : Ending (List ℕ)) → Leads (CopyWillKnow most) (ends_merge c s o)
      ends_both (Ends ids after) = tt
      ends_both (Breaks step after) = tt
      ends_both (Holds holder) = tt

      done_both : (our_key their_key : KeyView) (refusal : Option Reply) → Leads (CopyWillKnow most) (merge_ends_with c s our_key their_key refusal)
      done_both our_key their_key (Some kept) = tt
      done_both our_key their_key None = ends_both (merge_ends our_key their_key s.meta)

      pub merge_knows : (next : MergeStage) → Leads (CopyWillKnow most) (merge_stage_at next c s)
      merge_knows (merge.Fence x next) = fences_both x next (object_at (merge_fences x) next).object (fence_answer (target_of s (object_at (merge_fences x) next).object))
      merge_knows (merge.Settle x) = settles_both x (first_writer s.locks c.client (merge_fences x)) (merge_settled x (size_of x.ours.file s.meta) (size_of x.theirs.file s.meta))
      merge_knows (merge.TakeOurs p) = ours p (our_piece p) (read_answer (target_of s (object_of (our_piece p))))
      merge_knows (merge.TakeTheirs p bytes) = theirs p bytes (their_piece p) (read_answer (target_of s (object_of (their_piece p))))
      merge_knows (merge.Done our_key their_key refusal) = done_both our_key their_key refusal
