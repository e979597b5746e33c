-- Each step of a resync or an extend by copy, once it has begun.
use Rattle.std.proofs.Common.{◌≡◌, ℕ, ◌+◌, ◌<◌, false, Option, Some, None, List, [], ◌∷◌, ◌++◌, length, ◌⊎◌, inl, inr, refl, sym, ap, subst, ◌∙◌, length-set}
use Rattle.flr_base.specs.declared.reply.Left.{Left}
use Rattle.flr_base.specs.declared.reply.ObjectId.{ObjectId}
use Rattle.flr_base.specs.declared.reply.Range.{Range}
use Rattle.composite_layout.specs.Layouts.{Composite}
use Rattle.extent_lock.specs.declared.lock.Lock.{Lock}
use Rattle.layout_lease.specs.declared.lease.KeyState.TheVariants.{Held}
use Rattle.layout_lease.specs.Leases.{KeyView, given, hand_of, state_of}
use Rattle.layout_lease.specs.Shares.{lowest_but}
use Rattle.layout_lease.proofs.Hands.{given_last}
use Rattle.mirror_select.specs.declared.types.Piece.{Piece}
use Rattle.object_target.specs.declared.call.CallAnswer.{CallAnswer}
use Rattle.object_target.specs.declared.call.CallAnswer.TheVariants as answer
use Rattle.object_target.specs.Calls.{after_fence, after_read, after_reset, after_write, fence_answer, read_answer, reset_answer, write_answer}
use Rattle.object_target.specs.TargetState.{TargetState}
use Rattle.meta_server.specs.Closing.{size_of}
use Rattle.meta_server.specs.Ending.{copy_ends, with_done}
use Rattle.meta_server.specs.Files.{File, MetaView, file_of, with_given, with_layout}
use Rattle.meta_server.specs.Layouts.{finished}
use Rattle.meta_server.specs.Outcomes.{Ending}
use Rattle.meta_server.proofs.Placing.{number_found}
use Rattle.meta_laws.specs.Calls.{CopyDone, left_at}
use Rattle.flr_numbers.specs.Frames.{Leaves, Stands}
use Rattle.flr_numbers.proofs.Coming.{end_cases}
use Rattle.flr_numbers.proofs.Leaving.{LeaseChange, given_change, given_leaves, laid}
use Rattle.flr_numbers.proofs.Standing.{finished_rises}
use Rattle.call_steps.specs.Pieces.{length_of, object_of}
use Rattle.call_steps.specs.Servers.{Servers, next_call_on}
use Rattle.resync_copy.specs.declared.parts.CopyObject.{CopyObject}
use Rattle.resync_copy.specs.declared.phase.Chunk.{Chunk}
use Rattle.resync_copy.specs.declared.phase.CopyStage.{CopyStage}
use Rattle.resync_copy.specs.declared.phase.CopyStage.TheVariants as stage
use Rattle.resync_copy.specs.Calls.{CopyView}
use Rattle.resync_copy.specs.Copies.{again, chunks_from, clears_none, copies_from, copy_on, emptied, ends_copy, fenced, fences_from, fences_object, first_writer, leaves_at, leaves_over, leaves_with, object_at, piece_from, piece_put, piece_read, piece_to, puts_chunk, resets_from, resets_object, settled_from, settled_objects, settles, stage_at, takes_chunk, target_of}
use Rattle.resync_copy.specs.Parts.{destinations_in, fenced_ids}
use Rattle.resync_copy.specs.Views.{CopyingView, fences_of, resets_of}
use Rattle.resync_copy.proofs.PartLaws.{named}
use Rattle.flr_numbers.specs.Hands.{AreServers, Fine, Good, Hand, Has, HasRoom, nothing}
use Rattle.flr_numbers.proofs.Handing.{bare_has, changed_backs}
use Rattle.flr_numbers.proofs.Metas.{called, good_meta, good_targets}
use Rattle.flr_numbers.proofs.Objects.{fence_version, named_stands, raised_versions, reset_version, write_version}
use Rattle.flr_numbers.proofs.Serving.{Kept, kept_by, raised_servers}
use Rattle.flr_numbers.specs.Copies.{IsCopyOfClient, IsListed, copying, ending, hand_of_copy, stage_hand}
use Rattle.flr_numbers.proofs.Nexts.{IsNext, chunk_next, copies_next, fences_next, none_next, resets_next, settled_next}
use Rattle.meta_server.specs.Conditions.{IsCopyOf}
use Rattle.meta_laws.specs.Calls.{IsCopyable}

-- who has the key of a copy has it at its end
pub ends_has : (c : ℕ) (m : MetaView) (held : List Lock) (key : KeyView) (l : Composite) → Has c m held (copying key l) → Has c m held (ending key)
ends_has c m held key l has = record { cookies = has.cookies; keys = has.keys; own = has.own; locks = has.locks; opened = λ o e. absurd (cc); made = tt; behind = tt; merges = λ pair e. absurd (cc) }

-- the object that is fenced or reset next stands in the layout
fence_stands : (x : CopyingView) (next : ℕ) → next < length (fences_of x) → Stands (object_at (fences_of x) next).object x.side.layout
fence_stands x next within = named_stands (object_at (fences_of x) next).object x.side.layout.components (named x.side.layout.components (fenced_ids x.side.layout.components (destinations_in x.side.layout.components x.ids)) next _ within)

reset_stands : (x : CopyingView) (next : ℕ) → next < length (resets_of x) → Stands (object_at (resets_of x) next).object x.side.layout
reset_stands x next within = named_stands (object_at (resets_of x) next).object x.side.layout.components (named x.side.layout.components x.ids next _ within)

module _ (k : CopyView) (s : Servers) (room : HasRoom s.meta) (h : AreServers s.meta s.targets) (asked : IsCopyOf k.name k.what) (able : IsCopyable k.what) where
  -- the copy goes on with this
  goes_on : (x : CopyingView) (next : CopyStage) (targets : List TargetState) → AreServers s.meta targets → Has k.client s.meta s.locks (copying x.side.key x.side.layout) → IsNext x next
      → Good k.client s (stage_hand next) (record s { targets = targets }) × IsCopyOfClient k.client (copy_on k next)
  goes_on x next targets servers has is = (by is.0, (refl, asked, able, is.1))
    where
      by : (stage_hand next ≡ copying x.side.key x.side.layout) ⊎ (stage_hand next ≡ ending x.side.key) → Good k.client s (stage_hand next) (record s { targets = targets })
      by (inl same) = subst (λ (j : Hand). Good k.client s j (record s { targets = targets })) (sym same) (good_targets k.client s (copying x.side.key x.side.layout) targets servers has)
      by (inr last) = subst (λ (j : Hand). Good k.client s j (record s { targets = targets })) (sym last) (good_targets k.client s (ending x.side.key) targets servers (ends_has k.client s.meta s.locks x.side.key x.side.layout has))

  module _ (x : CopyingView) (has : Has k.client s.meta s.locks (copying x.side.key x.side.layout)) where
    -- an object of the layout that is fenced or reset
    fenced_servers : (o : ObjectId) → Stands o x.side.layout → AreServers s.meta (fenced s x o).targets
    fenced_servers o stands =
        raised_servers s.meta s.targets (fenced s x o).targets o x.side.layout.generation (length-set s.targets o.target _)
        (raised_versions s.targets o x.side.layout.generation (after_fence (target_of s o) o.number x.side.layout.generation) (λ n. fence_version (target_of s o) o.number x.side.layout.generation n))
        (has.made.0 o stands) (λ number f e t. has.behind.0 number f o e t stands) h

    emptied_servers : (o : ObjectId) → Stands o x.side.layout → AreServers s.meta (emptied s x o).targets
    emptied_servers o stands =
        raised_servers s.meta s.targets (emptied s x o).targets o x.side.layout.generation (length-set s.targets o.target _)
        (raised_versions s.targets o x.side.layout.generation (after_reset (target_of s o) o.number x.side.layout.generation) (λ n. reset_version (target_of s o) o.number x.side.layout.generation n))
        (has.made.0 o stands) (λ number f e t. has.behind.0 number f o e t stands) h

    fences_fine : (next : ℕ) (o : CopyObject) (came : CallAnswer) → Stands o.object x.side.layout → Fine k.client hand_of_copy (IsCopyOfClient k.client) s (fences_object k s x next o came)
    fences_fine next o answer.Ok stands = goes_on x (fences_from x (next + 1)) (fenced s x o.object).targets (fenced_servers o.object stands) has (fences_next x (next + 1))
    fences_fine next o (answer.Old kept) stands =
        let y : CopyingView = leaves_over x o.extent (next_call_on s.targets o.object.target) in goes_on x (fences_from y (next + 1)) (fenced s x o.object).targets (fenced_servers o.object stands) has (fences_next y (next + 1))
    fences_fine next o answer.Failed stands =
        let y : CopyingView = leaves_over x o.extent (next_call_on s.targets o.object.target) in goes_on x (fences_from y (next + 1)) (fenced s x o.object).targets (fenced_servers o.object stands) has (fences_next y (next + 1))

    resets_fine : (next : ℕ) (o : CopyObject) (came : CallAnswer) → Stands o.object x.side.layout → Fine k.client hand_of_copy (IsCopyOfClient k.client) s (resets_object k s x next o came)
    resets_fine next o answer.Ok stands = goes_on x (resets_from x (next + 1)) (emptied s x o.object).targets (emptied_servers o.object stands) has (resets_next x (next + 1))
    resets_fine next o (answer.Old kept) stands = goes_on x (clears_none x) (emptied s x o.object).targets (emptied_servers o.object stands) has (none_next x)
    resets_fine next o answer.Failed stands =
        let y : CopyingView = leaves_with x o.component (next_call_on s.targets o.object.target) in goes_on x (resets_from y (next + 1)) (emptied s x o.object).targets (emptied_servers o.object stands) has (resets_next y (next + 1))

    settles_fine : (w : Option (ℕ × Range)) (size : Option ℕ) → Fine k.client hand_of_copy (IsCopyOfClient k.client) s (settles k s x w size)
    settles_fine (Some told) size = tt
    settles_fine None size = goes_on x (settled_from x size) s.targets h has (settled_next x size)

  module _ (g : Chunk) (has : Has k.client s.meta s.locks (copying g.copying.side.key g.copying.side.layout)) where
    read_servers : (p : Piece) → AreServers s.meta (piece_read s p).targets
    read_servers p = called s (object_of p).target (after_read (target_of s (object_of p)) (object_of p).number p.offset (length_of p)) (λ n. refl) h

    takes_fine : (p : Piece) (came : CallAnswer) → Fine k.client hand_of_copy (IsCopyOfClient k.client) s (takes_chunk k s g p came)
    takes_fine p answer.Ok = (good_targets k.client s (copying g.copying.side.key g.copying.side.layout) (piece_read s p).targets (read_servers p) has, (refl, asked, able, tt))
    takes_fine p (answer.Old kept) = goes_on g.copying (again g p.component (next_call_on s.targets (object_of p).target)) (piece_read s p).targets (read_servers p) has (chunk_next g.size g.place (g.failed ++ p.component ∷ []) (Some (next_call_on s.targets (object_of p).target)) g.number g.copying)
    takes_fine p answer.Failed = goes_on g.copying (again g p.component (next_call_on s.targets (object_of p).target)) (piece_read s p).targets (read_servers p) has (chunk_next g.size g.place (g.failed ++ p.component ∷ []) (Some (next_call_on s.targets (object_of p).target)) g.number g.copying)

    put_servers : (p : Piece) (bytes : List ℕ) → AreServers s.meta (piece_put s g p bytes).targets
    put_servers p bytes =
        called s (object_of p).target (after_write (target_of s (object_of p)) (object_of p).number p.offset bytes g.copying.side.layout.generation)
        (λ n. write_version (target_of s (object_of p)) (object_of p).number p.offset bytes g.copying.side.layout.generation n) h

    puts_fine : (bytes : List ℕ) (p : Piece) (came : CallAnswer) → Fine k.client hand_of_copy (IsCopyOfClient k.client) s (puts_chunk k s g bytes p came)
    puts_fine bytes p answer.Ok = goes_on g.copying (chunks_from g.size g.place g.failed g.last (g.number + 1) g.copying) (piece_put s g p bytes).targets (put_servers p bytes) has (chunk_next g.size g.place g.failed g.last (g.number + 1) g.copying)
    puts_fine bytes p (answer.Old kept) = goes_on g.copying (clears_none g.copying) (piece_put s g p bytes).targets (put_servers p bytes) has (none_next g.copying)
    puts_fine bytes p answer.Failed =
        let y : CopyingView = leaves_at g.copying g.place (next_call_on s.targets (object_of p).target) in
        goes_on g.copying (copies_from g.size (g.place + 1) y) (piece_put s g p bytes).targets (put_servers p bytes) has (copies_next g.size (g.place + 1) y)

  -- ---- the end

  module _ (key : KeyView) (own : key.client ≡ k.client) (has : Has k.client s.meta s.locks (ending key)) where
    one : hand_of key.client s.meta.leases ≡ key ∷ []
    one = ap (λ n. hand_of n s.meta.leases) own ∙ has.keys

    none : hand_of k.client (given key s.meta.leases) ≡ []
    none = ap (λ n. hand_of n (given key s.meta.leases)) (sym own) ∙ given_last key s.meta.leases one

    given_good : Kept s.meta (with_given key s.meta) → Good k.client s nothing (record s { meta = with_given key s.meta })
    given_good kept =
        good_meta k.client s nothing (with_given key s.meta) kept (subst (λ n. Leaves n s.meta (with_given key s.meta)) own (given_leaves key s.meta)) h
        (bare_has k.client (with_given key s.meta) s.locks false (λ number cookie l mine is. has.cookies number cookie l mine (record { file = is.file; there = is.there; held = is.held; layout = is.layout })) none has.locks)

    done_good : (cleared : List ℕ) (f : File) → state_of s.meta.leases key ≡ Held → file_of key.file s.meta.files ≡ Some f → lowest_but key.client f.lock ≡ None → Kept s.meta (with_done key cleared f s.meta) → Good k.client s nothing (record s { meta = with_done key cleared f s.meta })
    done_good cleared f held e alone kept =
        let l : Composite = finished cleared f.layout in
        let number : f.number ≡ key.file = number_found key.file s.meta.files f e in
        let there : file_of f.number s.meta.files ≡ Some f = ap (λ n. file_of n s.meta.files) number ∙ e in
        let change : LeaseChange key.client f.number s.meta.leases (given key s.meta.leases) = subst (λ n. LeaseChange key.client n s.meta.leases (given key s.meta.leases)) (sym number) (given_change key s.meta.leases h.sound.leases held) in
        let leaves : Leaves key.client s.meta (with_done key cleared f s.meta) = laid key.client s.meta f.number f l (given key s.meta.leases) s.meta.nexts there alone (finished_rises s.meta.nexts f.layout cleared) change in
        let back = changed_backs s.meta (with_done key cleared f s.meta) f.number (with_layout l) (λ y. refl) (λ y cookie is. is) refl in
        good_meta k.client s nothing (with_done key cleared f s.meta) kept (subst (λ n. Leaves n s.meta (with_done key cleared f s.meta)) own leaves) h
        (bare_has k.client (with_done key cleared f s.meta) s.locks false (λ number cookie l mine is. (let before = back number cookie l is in has.cookies number cookie before.0 mine before.1)) none has.locks)

    ends_fine : (cleared : List ℕ) (left : List Left) → Fine k.client hand_of_copy (IsCopyOfClient k.client) s (ends_copy k s cleared left (copy_ends key cleared s.meta))
    ends_fine cleared left =
        end_cases (λ (e : Ending (Unit {0})). Kept s.meta (left_at e s.meta) → Fine k.client hand_of_copy (IsCopyOfClient k.client) s (ends_copy k s cleared left e)) key cleared s.meta
        (record { waits = λ holder kept. tt; breaks = λ step kept. given_good kept; done = λ f held e alone kept. done_good cleared f held e alone kept })
        (kept_by (CopyDone key cleared) s.meta h.sound h.once room.generations)

  -- ---- each stage

  pub stage_fine : (a : CopyStage) → Has k.client s.meta s.locks (stage_hand a) → IsListed a → Fine k.client hand_of_copy (IsCopyOfClient k.client) s (stage_at a k s)
  stage_fine (stage.Fence x next) has listed = fences_fine x has next (object_at (fences_of x) next) (fence_answer (target_of s (object_at (fences_of x) next).object)) (fence_stands x next listed)
  stage_fine (stage.Reset x next) has listed =
      resets_fine x has next (object_at (resets_of x) next) (reset_answer (target_of s (object_at (resets_of x) next).object) (object_at (resets_of x) next).object.number x.side.layout.generation) (reset_stands x next listed)
  stage_fine (stage.Settle x) has listed = settles_fine x has (first_writer s.locks k.client (settled_objects x)) (size_of x.side.file s.meta)
  stage_fine (stage.Take g) has listed = takes_fine g has (piece_from g) (read_answer (target_of s (object_of (piece_from g))))
  stage_fine (stage.Put g bytes) has listed = puts_fine g has bytes (piece_to g) (write_answer (target_of s (object_of (piece_to g))) (object_of (piece_to g)).number g.copying.side.layout.generation)
  stage_fine (stage.Done key cleared left) has listed = ends_fine key has.own.0 has cleared left
