-- What each step of a copy leaves: it stays kept off, and the objects of files come from where they stood.
use Rattle.std.proofs.Common.{◌≡◌, ℕ, ◌+◌, Bool, true, false, cond, nat_lt, Option, Some, None, List, [], ◌∷◌, ◌++◌, length, drop, ◌⊎◌, inl, inr, refl, ap, subst, arith}
use Rattle.std.specs.Prelude.{position, unwrap_or, option_map}
use Rattle.flr_base.specs.declared.reply.FailedCall.{FailedCall}
use Rattle.flr_base.specs.declared.reply.Left.{Left}
use Rattle.flr_base.specs.declared.reply.ObjectId.{ObjectId}
use Rattle.flr_base.specs.declared.reply.Range.{Range}
use Rattle.flr_base.specs.declared.reply.Reply.{Reply}
use Rattle.composite_layout.specs.declared.component.Component.{Component}
use Rattle.layout_lease.specs.declared.lease.KeyState.TheVariants.{Held}
use Rattle.layout_lease.specs.Leases.{KeyView, state_of}
use Rattle.layout_state.specs.Marking.{is_named}
use Rattle.mirror_select.specs.declared.types.Piece.{Piece}
use Rattle.mirror_select.specs.Candidates.{chosen}
use Rattle.object_target.specs.declared.call.CallAnswer.{CallAnswer}
use Rattle.object_target.specs.declared.call.CallAnswer.TheVariants as answer
use Rattle.object_target.specs.Calls.{after_fence, after_read, after_reset, after_write, fence_answer, read_answer, reset_answer, write_answer}
use Rattle.object_target.specs.TargetState.{TargetState}
use Rattle.meta_server.specs.declared.answers.Begun.{Begun}
use Rattle.meta_server.specs.declared.answers.Begun.TheVariants as begun_as
use Rattle.meta_server.specs.Beginning.{copy_begins}
use Rattle.meta_server.specs.Closing.{size_of}
use Rattle.meta_server.specs.Conditions.{IsCopyOf}
use Rattle.meta_server.specs.Ending.{copy_ends, with_done, with_merge}
use Rattle.meta_server.specs.Files.{File, MetaView, file_of}
use Rattle.meta_server.specs.Outcomes.{Ending, Gives, Refuses, Waits}
use Rattle.meta_server.specs.Outcomes as meta
use Rattle.meta_server.specs.Sound.{IsSound}
use Rattle.meta_laws.specs.Calls.{BeginCopy, IsCopyable, left_by}
use Rattle.call_steps.specs.Pieces.{length_of, object_of}
use Rattle.call_steps.specs.Servers.{Servers, next_call_on}
use Rattle.call_steps.specs.Steps.{Outcome, Going, Fixed, Ended, Answered, Blocked, widen}
use Rattle.resync_copy.specs.declared.merge_phase.MergeStage.{MergeStage}
use Rattle.resync_copy.specs.declared.merge_phase.MergeStage.TheVariants as merge
use Rattle.resync_copy.specs.declared.merge_phase.Pair.{Pair}
use Rattle.resync_copy.specs.declared.parts.CopyObject.{CopyObject}
use Rattle.resync_copy.specs.declared.parts.Destination.{Destination}
use Rattle.resync_copy.specs.declared.phase.Chunk.{Chunk}
use Rattle.resync_copy.specs.declared.phase.CopyAt.{CopyAt}
use Rattle.resync_copy.specs.declared.phase.CopyAt.TheVariants as at
use Rattle.resync_copy.specs.declared.phase.CopyStage.{CopyStage}
use Rattle.resync_copy.specs.declared.phase.CopyStage.TheVariants as stage
use Rattle.resync_copy.specs.Calls.{CopyView}
use Rattle.resync_copy.specs.Chunks.{chunk_of, chunk_start, chunks_between, first_solid}
use Rattle.resync_copy.specs.Comparing.{ComparingView, merge_fences}
use Rattle.resync_copy.specs.Copies.{chunks_from, clears, copies_chunks, copies_each, copies_from, copies_solid, emptied, end_of, ends_copy, fenced, fences_from, fences_object, first_writer, leaves_at, leaves_over, leaves_with, no_call, object_at, piece_from, piece_put, piece_read, piece_to, puts_chunk, resets_at, resets_from, resets_object, settled_from, settled_objects, settles, settles_from, takes_chunk, takes_from, target_of}
use Rattle.resync_copy.specs.Merges.{ends_merge, merge_ends_with, merge_fences_object, merge_settled, merge_settles, merge_stage_at, our_piece, takes_ours, takes_theirs, their_piece}
use Rattle.resync_copy.specs.Parts.{all_left, destination_at, is_kept, is_open, left_at}
use Rattle.resync_copy.specs.Steps.{begins, copy_at}
use Rattle.resync_copy.specs.Views.{CopyingView, begun_copy, fences_of, resets_of, with_destinations}
use Rattle.flr_numbers.specs.Frames.{IsUnmade}
use Rattle.flr_numbers.specs.Hands.{Fine}
use Rattle.flr_numbers.specs.Sentences.{IsCallOf, hand_of}
use Rattle.flr_numbers.proofs.Coming.{end_cases, merge_cases}
use Rattle.flr_numbers.proofs.Objects.{write_version}
use Rattle.flr_steps.specs.declared.client.Running.TheVariants as running
use Rattle.flr_sole.proofs.Beginning.{Sides, sides_begun}
use Rattle.flr_sole.proofs.Targets.{Grows, alike, fence_grows, grown, reset_grows}
use Rattle.flr_shut.specs.Sentences.{CopyShut, IsKeptOff, OnCopying}
use Rattle.flr_shut.proofs.Beginning.{begun_kept_off}
use Rattle.flr_shut.proofs.Coming.{Came, Comes, call_comes, done_comes, merge_comes, nobody, same}

-- ---- what comes next is of the same copy

module _ (Q : CopyingView → Type 0) (less : (x : CopyingView) (ds : List Destination) → Q x → Q (with_destinations x ds)) where
  settles_next : (x : CopyingView) → Q x → OnCopying Q (settles_from x)
  settles_next x q = by (all_left x.destinations)
    where
      by : (b : Bool) → OnCopying Q (cond b (clears x) (stage.Settle x))
      by true = tt
      by false = q

  resets_next : (x : CopyingView) (place : ℕ) → Q x → OnCopying Q (resets_from x place)
  resets_next x place q = by (position (λ (o : CopyObject). is_open x.destinations o.component) (drop place (resets_of x)))
    where
      by : (o : Option ℕ) → OnCopying Q (resets_at x (option_map (λ i. place + i) o))
      by None = settles_next x q
      by (Some i) = q

  fences_next : (x : CopyingView) (next : ℕ) → Q x → OnCopying Q (fences_from x next)
  fences_next x next q = by (nat_lt next (length (fences_of x)))
    where
      by : (b : Bool) → OnCopying Q (cond b (stage.Fence x next) (resets_from x 0))
      by true = q
      by false = resets_next x 0 q

  module _ (size place : ℕ) (failed : List ℕ) (last : Option FailedCall) (others : CopyingView → CopyStage) (rest : (y : CopyingView) → Q y → OnCopying Q (others y)) where
    takes_next : (x : CopyingView) (number : ℕ) (o : Option Component) → Q x → OnCopying Q (takes_from size place failed last others x number o)
    takes_next x number (Some c) q = q
    takes_next x number None q = rest (leaves_at x place (unwrap_or last no_call)) (less x (left_at place (unwrap_or last no_call) x.destinations) q)

    solid_next : (x : CopyingView) (o : Option ℕ) → Q x → OnCopying Q (copies_solid size place failed last others x o)
    solid_next x (Some number) q = takes_next x number (chosen x.side.layout.components failed (chunk_start number)) q
    solid_next x None q = rest x q

    chunks_next : (x : CopyingView) (chunks : List ℕ) → Q x → OnCopying Q (copies_chunks size place failed last others x chunks)
    chunks_next x chunks q = solid_next x (first_solid x.side.layout.components failed chunks) q

  each_next : (size : ℕ) (ds : List Destination) (place : ℕ) (x : CopyingView) → Q x → OnCopying Q (copies_each size place ds x)
  each_next size [] place x q = tt
  each_next size (d ∷ ds) place x q = by (is_kept d) (λ y r. each_next size ds (place + 1) y r)
    where
      by : (b : Bool) → ((y : CopyingView) → Q y → OnCopying Q (copies_each size (place + 1) ds y))
          → OnCopying Q (cond b (copies_chunks size place [] None (copies_each size (place + 1) ds) x (chunks_between (chunk_of d.extent.start) (end_of size d))) (copies_each size (place + 1) ds x))
      by true rest = chunks_next size place [] None (copies_each size (place + 1) ds) rest x (chunks_between (chunk_of d.extent.start) (end_of size d)) q
      by false rest = rest x q

  copies_next : (size place : ℕ) (x : CopyingView) → Q x → OnCopying Q (copies_from size place x)
  copies_next size place x q = each_next size (drop place x.destinations) place x q

  chunk_next : (size place : ℕ) (failed : List ℕ) (last : Option FailedCall) (number : ℕ) (x : CopyingView) → Q x → OnCopying Q (chunks_from size place failed last number x)
  chunk_next size place failed last number x q = chunks_next size place failed last (copies_from size (place + 1)) (λ y r. copies_next size (place + 1) y r) x (chunks_between number (end_of size (destination_at x.destinations place))) q

  settled_next : (x : CopyingView) (size : Option ℕ) → Q x → OnCopying Q (settled_from x size)
  settled_next x (Some size) q = copies_next size 0 x q
  settled_next x None q = tt

-- versions don't fall
pub kept_off_up : (m : MetaView) (old new : List TargetState) (x : CopyingView) → Grows old new → IsKeptOff m old x → IsKeptOff m new x
kept_off_up m old new x up k = (λ o at fresh r. (let low = k.0 o at fresh r in let more = up o in omega (arith, low, more)), k.1, k.2)

-- ---- what a done clears

-- what this stage is to clear in the file of its key, while the lease stands
abbrev pub clears_at : MetaView → CopyAt → ℕ → Component → Type 0
clears_at m at.Begin n d = ⊥
clears_at m (at.Copy (stage.Done key cleared left)) n d = (state_of m.leases key ≡ Held) × (n ≡ key.file) × (is_named cleared d ≡ true)
clears_at m (at.Copy other) n d = ⊥
clears_at m (at.Merge next) n d = ⊥

-- nothing need be excepted
pub excepting : (m new : MetaView) (except : ℕ → Component → Type 0) → Comes m nobody new → Comes m except new
excepting m new except all n f d o there i has = by (all n f d o there i has)
  where
    at : (w : Came m nobody n f d o) → (w.old.component.flags.stale ≡ false) ⊎ nobody w.old.number w.old.component → (w.old.component.flags.stale ≡ false) ⊎ except w.old.number w.old.component
    at w (inl e) = inl e
    at w (inr never) = absurd never

    by : IsUnmade m o ⊎ Came m nobody n f d o → IsUnmade m o ⊎ Came m except n f d o
    by (inl late) = inl late
    by (inr w) = inr (record { old = w.old; risen = w.risen; fresh = λ e. at w (w.fresh e) })

-- ---- each step

module _ (s : Servers) (h : IsSound s.meta) (client : ℕ) (c : CopyView) (except : ℕ → Component → Type 0) where
  abbrev pub OnCopy : Outcome CopyView → Type 0
  OnCopy (Going next after) = Comes s.meta except after.meta × CopyShut after.meta after.targets next.at
  OnCopy (Fixed next reply takes after) = Comes s.meta except after.meta × CopyShut after.meta after.targets next.at
  OnCopy (Ended after) = Comes s.meta except after.meta
  OnCopy (Answered reply takes after) = Comes s.meta except after.meta
  OnCopy (Blocked holder) = Unit {0}

  stays : Comes s.meta except s.meta
  stays = excepting s.meta s.meta except (same s.meta)

  -- the targets alone change
  goes : (targets : List TargetState) (x : CopyingView) → Grows s.targets targets → IsKeptOff s.meta s.targets x → IsKeptOff s.meta targets x
  goes targets x up k = kept_off_up s.meta s.targets targets x up k

  begun_by : IsCopyOf c.name c.what → IsCopyable c.what → (o : meta.Outcome Begun) → copy_begins c.client c.name c.what s.meta ≡ o → Sides o → Fine client hand_of (IsCallOf client) s (widen running.Copy (begins c s o)) → OnCopy (begins c s o)
  begun_by copy able (Gives begun_as.Nothing after) e sides fine = excepting s.meta after except (subst (Comes s.meta nobody) (ap (λ (o : meta.Outcome Begun). left_by o s.meta) e) (call_comes s.meta h (BeginCopy c.client c.name c.what) (copy, able)))
  begun_by copy able (Gives (begun_as.Copy side ids) after) e sides fine = (
    excepting s.meta after except (subst (Comes s.meta nobody) (ap (λ (o : meta.Outcome Begun). left_by o s.meta) e) (call_comes s.meta h (BeginCopy c.client c.name c.what) (copy, able))),
    fences_next (IsKeptOff after s.targets) (λ x ds k. k) (begun_copy side ids) 0 (begun_kept_off c.client c.name c.what s.meta after s.targets side ids h e sides fine.0.servers.sound fine.0.servers.once),
  )
  begun_by copy able (Gives (begun_as.Merge ours theirs) after) e sides fine = (excepting s.meta after except (subst (Comes s.meta nobody) (ap (λ (o : meta.Outcome Begun). left_by o s.meta) e) (call_comes s.meta h (BeginCopy c.client c.name c.what) (copy, able))), tt)
  begun_by copy able (Refuses refusal) e sides fine = stays
  begun_by copy able (Waits holder) e sides fine = tt

  -- ---- a copy

  module _ (x : CopyingView) (k : IsKeptOff s.meta s.targets x) where
    fence_up : (o : ObjectId) → Grows s.targets (fenced s x o).targets
    fence_up o = grown s.targets o.target (after_fence (target_of s o) o.number x.side.layout.generation) (λ n. fence_grows (target_of s o) o.number x.side.layout.generation n)

    reset_up : (o : ObjectId) → Grows s.targets (emptied s x o).targets
    reset_up o = grown s.targets o.target (after_reset (target_of s o) o.number x.side.layout.generation) (λ n. reset_grows (target_of s o) o.number x.side.layout.generation n)

    fences : (next : ℕ) (o : CopyObject) (a : CallAnswer) → OnCopy (fences_object c s x next o a)
    fences next o answer.Ok = (stays, fences_next (IsKeptOff s.meta (fenced s x o.object).targets) (λ y ds q. q) x (next + 1) (goes (fenced s x o.object).targets x (fence_up o.object) k))
    fences next o (answer.Old kept) = (stays, fences_next (IsKeptOff s.meta (fenced s x o.object).targets) (λ y ds q. q) (leaves_over x o.extent (next_call_on s.targets o.object.target)) (next + 1) (goes (fenced s x o.object).targets x (fence_up o.object) k))
    fences next o answer.Failed = (stays, fences_next (IsKeptOff s.meta (fenced s x o.object).targets) (λ y ds q. q) (leaves_over x o.extent (next_call_on s.targets o.object.target)) (next + 1) (goes (fenced s x o.object).targets x (fence_up o.object) k))

    resets : (next : ℕ) (o : CopyObject) (a : CallAnswer) → OnCopy (resets_object c s x next o a)
    resets next o answer.Ok = (stays, resets_next (IsKeptOff s.meta (emptied s x o.object).targets) (λ y ds q. q) x (next + 1) (goes (emptied s x o.object).targets x (reset_up o.object) k))
    resets next o (answer.Old kept) = (stays, tt)
    resets next o answer.Failed = (stays, resets_next (IsKeptOff s.meta (emptied s x o.object).targets) (λ y ds q. q) (leaves_with x o.component (next_call_on s.targets o.object.target)) (next + 1) (goes (emptied s x o.object).targets x (reset_up o.object) k))

    settling : (o : Option (ℕ × Range)) (size : Option ℕ) → OnCopy (settles c s x o size)
    settling (Some told) size = tt
    settling None size = (stays, settled_next (IsKeptOff s.meta s.targets) (λ y ds q. q) x size k)

  read_up : (p : Piece) → Grows s.targets (piece_read s p).targets
  read_up p = alike s.targets (object_of p).target (after_read (target_of s (object_of p)) (object_of p).number p.offset (length_of p)) (λ n. refl)

  module _ (g : Chunk) (k : IsKeptOff s.meta s.targets g.copying) where
    takes : (p : Piece) (a : CallAnswer) → OnCopy (takes_chunk c s g p a)
    takes p answer.Ok = (stays, goes (piece_read s p).targets g.copying (read_up p) k)
    takes p (answer.Old kept) = (stays, chunk_next (IsKeptOff s.meta (piece_read s p).targets) (λ y ds q. q) g.size g.place (g.failed ++ p.component ∷ []) (Some (next_call_on s.targets (object_of p).target)) g.number g.copying (goes (piece_read s p).targets g.copying (read_up p) k))
    takes p answer.Failed = (stays, chunk_next (IsKeptOff s.meta (piece_read s p).targets) (λ y ds q. q) g.size g.place (g.failed ++ p.component ∷ []) (Some (next_call_on s.targets (object_of p).target)) g.number g.copying (goes (piece_read s p).targets g.copying (read_up p) k))

    put_up : (bytes : List ℕ) (p : Piece) → Grows s.targets (piece_put s g p bytes).targets
    put_up bytes p = alike s.targets (object_of p).target (after_write (target_of s (object_of p)) (object_of p).number p.offset bytes g.copying.side.layout.generation) (λ n. write_version (target_of s (object_of p)) (object_of p).number p.offset bytes g.copying.side.layout.generation n)

    puts : (bytes : List ℕ) (p : Piece) (a : CallAnswer) → OnCopy (puts_chunk c s g bytes p a)
    puts bytes p answer.Ok = (stays, chunk_next (IsKeptOff s.meta (piece_put s g p bytes).targets) (λ y ds q. q) g.size g.place g.failed g.last (g.number + 1) g.copying (goes (piece_put s g p bytes).targets g.copying (put_up bytes p) k))
    puts bytes p (answer.Old kept) = (stays, tt)
    puts bytes p answer.Failed = (stays, copies_next (IsKeptOff s.meta (piece_put s g p bytes).targets) (λ y ds q. q) g.size (g.place + 1) (leaves_at g.copying g.place (next_call_on s.targets (object_of p).target)) (goes (piece_put s g p bytes).targets g.copying (put_up bytes p) k))

  ends : (key : KeyView) (cleared : List ℕ) (left : List Left) → ((n : ℕ) (d : Component) → state_of s.meta.leases key ≡ Held → n ≡ key.file → is_named cleared d ≡ true → except n d) → OnCopy (ends_copy c s cleared left (copy_ends key cleared s.meta))
  ends key cleared left excepts = end_cases (λ (o : Ending (Unit {0})). OnCopy (ends_copy c s cleared left o)) key cleared s.meta (record {
    waits = λ holder. tt;
    breaks = λ step. stays;
    done = λ f held e alone. cleared_comes f held e;
  })
    where
      cleared_comes : (f : File) → state_of s.meta.leases key ≡ Held → file_of key.file s.meta.files ≡ Some f → Comes s.meta except (with_done key cleared f s.meta)
      cleared_comes f held e n g d o there i has = by (done_comes s.meta key cleared f e n g d o there i has)
        where
          at : (w : Came s.meta (λ j b. (j ≡ key.file) × (is_named cleared b ≡ true)) n g d o) → (w.old.component.flags.stale ≡ false) ⊎ ((w.old.number ≡ key.file) × (is_named cleared w.old.component ≡ true)) → (w.old.component.flags.stale ≡ false) ⊎ except w.old.number w.old.component
          at w (inl fresh) = inl fresh
          at w (inr e) = inr (excepts w.old.number w.old.component held e.0 e.1)

          by : IsUnmade s.meta o ⊎ Came s.meta (λ j b. (j ≡ key.file) × (is_named cleared b ≡ true)) n g d o → IsUnmade s.meta o ⊎ Came s.meta except n g d o
          by (inl late) = inl late
          by (inr w) = inr (record { old = w.old; risen = w.risen; fresh = λ fresh. at w (w.fresh fresh) })

  -- ---- a file is taken in

  merge_fencing : (x : ComparingView) (next : ℕ) (o : ObjectId) (a : CallAnswer) → OnCopy (merge_fences_object c s x next o a)
  merge_fencing x next o answer.Ok = (stays, tt)
  merge_fencing x next o (answer.Old kept) = (stays, tt)
  merge_fencing x next o answer.Failed = (stays, tt)

  merge_settling : (x : ComparingView) (o : Option (ℕ × Range)) (next : MergeStage) → OnCopy (merge_settles c s x o next)
  merge_settling x (Some told) next = tt
  merge_settling x None next = (stays, tt)

  taking_ours : (p : Pair) (q : Piece) (a : CallAnswer) → OnCopy (takes_ours c s p q a)
  taking_ours p q answer.Ok = (stays, tt)
  taking_ours p q (answer.Old kept) = (stays, tt)
  taking_ours p q answer.Failed = (stays, tt)

  taking_theirs : (p : Pair) (ours : Option (List ℕ)) (q : Piece) (a : CallAnswer) → OnCopy (takes_theirs c s p ours q a)
  taking_theirs p ours q answer.Ok = (stays, tt)
  taking_theirs p ours q (answer.Old kept) = (stays, tt)
  taking_theirs p ours q answer.Failed = (stays, tt)

  merge_done : (ours theirs : KeyView) (refusal : Option Reply) → OnCopy (merge_ends_with c s ours theirs refusal)
  merge_done ours theirs (Some kept) = stays
  merge_done ours theirs None = merge_cases (λ (o : Ending (List ℕ)). OnCopy (ends_merge c s o)) ours theirs s.meta (record {
    waits = λ holder. tt;
    breaks = λ step. stays;
    merges = λ f v held held_too e k alone alone_too. excepting s.meta (with_merge ours theirs s.meta f v) except (merge_comes s.meta ours theirs f v e k);
  })

  by_merge : (next : MergeStage) → OnCopy (merge_stage_at next c s)
  by_merge (merge.Fence x next) = merge_fencing x next (object_at (merge_fences x) next).object (fence_answer (target_of s (object_at (merge_fences x) next).object))
  by_merge (merge.Settle x) = merge_settling x (first_writer s.locks c.client (merge_fences x)) (merge_settled x (size_of x.ours.file s.meta) (size_of x.theirs.file s.meta))
  by_merge (merge.TakeOurs p) = taking_ours p (our_piece p) (read_answer (target_of s (object_of (our_piece p))))
  by_merge (merge.TakeTheirs p ours) = taking_theirs p ours (their_piece p) (read_answer (target_of s (object_of (their_piece p))))
  by_merge (merge.Done ours theirs refusal) = merge_done ours theirs refusal

-- what it clears is excepted
module _ (s : Servers) (h : IsSound s.meta) (client : ℕ) (c : CopyView) where
  pub copy_on : IsCopyOf c.name c.what → IsCopyable c.what → (a : CopyAt) → Fine client hand_of (IsCallOf client) s (widen running.Copy (copy_at a c s)) → CopyShut s.meta s.targets a → OnCopy s h client c (clears_at s.meta a) (copy_at a c s)
  copy_on copy able at.Begin fine shut = begun_by s h client c (clears_at s.meta at.Begin) copy able (copy_begins c.client c.name c.what s.meta) refl (sides_begun s.meta h c.client c.name c.what copy able) fine
  copy_on copy able (at.Copy (stage.Fence x next)) fine shut = fences s h client c (clears_at s.meta (at.Copy (stage.Fence x next))) x shut next (object_at (fences_of x) next) (fence_answer (target_of s (object_at (fences_of x) next).object))
  copy_on copy able (at.Copy (stage.Reset x next)) fine shut = resets s h client c (clears_at s.meta (at.Copy (stage.Reset x next))) x shut next (object_at (resets_of x) next) (reset_answer (target_of s (object_at (resets_of x) next).object) (object_at (resets_of x) next).object.number x.side.layout.generation)
  copy_on copy able (at.Copy (stage.Settle x)) fine shut = settling s h client c (clears_at s.meta (at.Copy (stage.Settle x))) x shut (first_writer s.locks c.client (settled_objects x)) (size_of x.side.file s.meta)
  copy_on copy able (at.Copy (stage.Take g)) fine shut = takes s h client c (clears_at s.meta (at.Copy (stage.Take g))) g shut (piece_from g) (read_answer (target_of s (object_of (piece_from g))))
  copy_on copy able (at.Copy (stage.Put g bytes)) fine shut = puts s h client c (clears_at s.meta (at.Copy (stage.Put g bytes))) g shut bytes (piece_to g) (write_answer (target_of s (object_of (piece_to g))) (object_of (piece_to g)).number g.copying.side.layout.generation)
  copy_on copy able (at.Copy (stage.Done key cleared left)) fine shut = ends s h client c (clears_at s.meta (at.Copy (stage.Done key cleared left))) key cleared left (λ n d held own named. (held, own, named))
  copy_on copy able (at.Merge next) fine shut = by_merge s h client c (clears_at s.meta (at.Merge next)) next
