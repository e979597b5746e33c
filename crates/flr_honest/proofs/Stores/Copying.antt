-- Names and sizes of files after each step of a copy.
use Rattle.std.proofs.Common.{◌≡◌, ℕ, ◌==◌, Bool, true, false, Option, Some, None, List, [], length, map, refl, sym, ap, ◌∙◌, subst}
use Rattle.flr_base.specs.declared.reply.Left.{Left}
use Rattle.flr_base.specs.declared.reply.ObjectId.{ObjectId}
use Rattle.flr_base.specs.declared.reply.Range.{Range}
use Rattle.flr_base.specs.declared.reply.Reply.{Reply}
use Rattle.flr_base.specs.declared.reply.Reply.TheVariants as reply
use Rattle.composite_layout.specs.declared.spec.MirrorSpec.{MirrorSpec}
use Rattle.composite_layout.specs.LookUps.{mirror_ids}
use Rattle.composite_layout.specs.Making.{part_count}
use Rattle.layout_lease.specs.declared.lease.KeyState.{KeyState}
use Rattle.layout_lease.specs.declared.lease.KeyState.TheVariants.{Held, Broken}
use Rattle.layout_lease.specs.Leases.{KeyView, holder_of, state_of}
use Rattle.layout_lease.specs.Shares.{lowest_but}
use Rattle.layout_state.specs.declared.error.StateError.{StateError}
use Rattle.layout_state.specs.declared.error.StateError.TheVariants as errors
use Rattle.layout_state.specs.Mirroring.{excess}
use Rattle.layout_state.specs.Selecting.{absent_of, selected_of}
use Rattle.mirror_select.specs.declared.types.Piece.{Piece}
use Rattle.object_target.specs.declared.call.CallAnswer.{CallAnswer}
use Rattle.object_target.specs.declared.call.CallAnswer.TheVariants as answer
use Rattle.object_target.specs.Calls.{fence_answer, read_answer, reset_answer, write_answer}
use Rattle.meta_server.specs.declared.answers.Begun.{Begun}
use Rattle.meta_server.specs.declared.answers.Begun.TheVariants as begun_as
use Rattle.meta_server.specs.declared.answers.CopyWhat.{CopyWhat}
use Rattle.meta_server.specs.declared.answers.CopyWhat.TheVariants.{Resync, Extend, Victim}
use Rattle.meta_server.specs.Beginning.{copy_begins, copy_begins_file, copy_begins_on, extend_alone, extend_begins, extend_leased, extend_wanted, merge_alone, merge_begins, merge_fits, merge_leased, merge_readable, resync_alone, resync_begins, resync_leased, resync_wanted, with_begin}
use Rattle.meta_server.specs.Closing.{size_of}
use Rattle.meta_server.specs.Ending.{copy_ends_alone, copy_ends_by, copy_ends_file, merge_ends_alone, merge_ends_by, merge_ends_files}
use Rattle.meta_server.specs.Files.{File, MetaView, changed, file_named, file_of, with_layout, without_file}
use Rattle.meta_server.specs.Layouts.{begun, extended, finished, merged, new_ids, offline_byte}
use Rattle.meta_server.specs.Outcomes.{Breaks, Ending, Ends, Gives, Holds, Refuses, Waits, refusal_of}
use Rattle.meta_server.specs.Outcomes as meta
use Rattle.meta_server.specs.Sound.{IsSound}
use Rattle.meta_server.proofs.Placing.{number_found}
use Rattle.call_steps.specs.Pieces.{object_of}
use Rattle.call_steps.specs.Servers.{Servers}
use Rattle.resync_copy.specs.declared.merge_phase.MergeStage.{MergeStage}
use Rattle.resync_copy.specs.declared.merge_phase.MergeStage.TheVariants as merge
use Rattle.resync_copy.specs.declared.merge_phase.Pair.{Pair}
use Rattle.resync_copy.specs.declared.parts.CopyObject.{CopyObject}
use Rattle.resync_copy.specs.declared.phase.Chunk.{Chunk}
use Rattle.resync_copy.specs.declared.phase.CopyAt.{CopyAt}
use Rattle.resync_copy.specs.declared.phase.CopyAt.TheVariants as at
use Rattle.resync_copy.specs.declared.phase.CopyStage.{CopyStage}
use Rattle.resync_copy.specs.declared.phase.CopyStage.TheVariants as stage
use Rattle.resync_copy.specs.Calls.{CopyView}
use Rattle.resync_copy.specs.Comparing.{ComparingView, merge_fences}
use Rattle.resync_copy.specs.Copies.{ends_copy, fences_object, first_writer, object_at, piece_from, piece_to, puts_chunk, resets_object, settled_objects, settles, stage_at, takes_chunk, target_of}
use Rattle.resync_copy.specs.Merges.{ends_merge, kept_answer, merge_ends_with, merge_fences_object, merge_settled, merge_settles, merge_stage_at, our_piece, takes_ours, takes_theirs, their_piece}
use Rattle.resync_copy.specs.Steps.{begins, copy_at}
use Rattle.resync_copy.specs.Views.{CopyingView, fences_of, resets_of}
use Rattle.plain_files.specs.Effects.{taken_in}
use Rattle.plain_files.specs.Files.{Plain}
use Rattle.flr_bytes.specs.Files.{AreSized}
use Rattle.flr_bytes.specs.Victims.{CopyHas, IsKept, IsRefusal, IsVictim, MergeHas}
use Rattle.flr_honest.proofs.Stores.Outcomes.{AreAlike, OnFiles}
use Rattle.flr_honest.proofs.Stores.Sizing.{changed_alike, shape_of, sized_alike, sized_without, without_changed}

-- ---- begin

-- a copy begins without a change of names and sizes, or is refused
abbrev pub OnBeginning : MetaView → meta.Outcome Begun → Type 0
OnBeginning m (Gives given after) = AreAlike m after
OnBeginning m (Refuses answer) = IsRefusal answer
OnBeginning m (Waits holder) = Unit {0}

-- the answer to a refused change
refused : (error : StateError) → IsRefusal (refusal_of error)
refused (errors.NoPrimary range) = tt
refused (errors.LastFresh mirror) = tt
refused (errors.NoMirrorId id) = tt
refused (errors.NoComponent id) = tt
refused errors.TooManyMirrors = tt
refused errors.TooManyComponents = tt
refused errors.NoMemory = tt

module _ (client : ℕ) (m : MetaView) where
  begun_alike : (ids : List ℕ) (f : File) (n : MetaView) → AreAlike n (with_begin client ids f n)
  begun_alike ids f n = changed_alike f.number (with_layout (begun ids f.number n.nexts f.layout)) n.files (λ x. refl)

  resync_alone_by : (f : File) (ids : List ℕ) (o : Option ℕ) → OnBeginning m (resync_alone client m f ids o)
  resync_alone_by f ids (Some holder) = tt
  resync_alone_by f ids None = begun_alike ids f m

  resync_wanted_by : (f : File) (ids : List ℕ) (b : Bool) → OnBeginning m (resync_wanted client m f ids b)
  resync_wanted_by f ids true = refl
  resync_wanted_by f ids false = resync_alone_by f ids (lowest_but client f.lock)

  resync_leased_by : (f : File) (only : Option (List ℕ)) (o : Option ℕ) → OnBeginning m (resync_leased client m only f o)
  resync_leased_by f only (Some holder) = tt
  resync_leased_by f only None = let ids = selected_of only f.layout.components in resync_wanted_by f ids (length ids == 0)

  resync_by : (f : File) (only : Option (List ℕ)) (o : Option ℕ) → OnBeginning m (resync_begins client m only f o)
  resync_by f only (Some id) = tt
  resync_by f only None = resync_leased_by f only (holder_of m.leases f.number)

  extend_wanted_by : (f : File) (ids : List ℕ) (b : Bool) → OnBeginning m (extend_wanted client m f ids b)
  extend_wanted_by f ids true = changed_alike f.number (with_layout f.layout) m.files (λ x. refl)
  extend_wanted_by f ids false = begun_alike ids f m

  extend_alone_by : (mirrors : List MirrorSpec) (f : File) (o : Option ℕ) → OnBeginning m (extend_alone client m mirrors f o)
  extend_alone_by mirrors f (Some holder) = tt
  extend_alone_by mirrors f None =
      let l = extended mirrors (length m.nexts) f.layout in
      let ids : List ℕ = selected_of (Some (new_ids mirrors f.layout)) l.components in
      extend_wanted_by (with_layout l f) ids (length ids == 0)

  extend_leased_by : (mirrors : List MirrorSpec) (f : File) (o : Option ℕ) → OnBeginning m (extend_leased client m mirrors f o)
  extend_leased_by mirrors f (Some holder) = tt
  extend_leased_by mirrors f None = extend_alone_by mirrors f (lowest_but client f.lock)

  extend_by : (mirrors : List MirrorSpec) (f : File) (o : Option StateError) → OnBeginning m (extend_begins client m mirrors f o)
  extend_by mirrors f (Some error) = refused error
  extend_by mirrors f None = extend_leased_by mirrors f (holder_of m.leases f.number)

  merge_alone_by : (f v : File) (a b : Option ℕ) → OnBeginning m (merge_alone client m f v a b)
  merge_alone_by f v (Some holder) b = tt
  merge_alone_by f v None (Some holder) = tt
  merge_alone_by f v None None = begun_alike [] v (with_begin client [] f m) ∙ begun_alike [] f m

  merge_readable_by : (f v : File) (a b : Option ℕ) → OnBeginning m (merge_readable client m f v a b)
  merge_readable_by f v (Some byte) b = tt
  merge_readable_by f v None (Some byte) = tt
  merge_readable_by f v None None = merge_alone_by f v (lowest_but client f.lock) (lowest_but client v.lock)

  merge_leased_by : (f v : File) (a b : Option ℕ) → OnBeginning m (merge_leased client m f v a b)
  merge_leased_by f v (Some holder) b = tt
  merge_leased_by f v None (Some holder) = tt
  merge_leased_by f v None None = merge_readable_by f v (offline_byte f.layout) (offline_byte v.layout)

  merge_fits_by : (f v : File) (o : Option StateError) → OnBeginning m (merge_fits client m f v o)
  merge_fits_by f v (Some error) = refused error
  merge_fits_by f v None = merge_leased_by f v (holder_of m.leases f.number) (holder_of m.leases v.number)

  merge_by : (victim : List ℕ) (f : File) (o : Option File) → OnBeginning m (merge_begins client m victim f o)
  merge_by victim f None = tt
  merge_by victim f (Some v) = merge_fits_by f v (excess f.layout (length (mirror_ids v.layout.components)) (length v.layout.components) m.most)

  begin_on : (f : File) (what : CopyWhat) → OnBeginning m (copy_begins_on client m f what)
  begin_on f (Resync only) = resync_by f only (absent_of only f.layout.components)
  begin_on f (Extend mirrors) = extend_by mirrors f (excess f.layout (length mirrors) (part_count mirrors) m.most)
  begin_on f (Victim victim) = merge_by victim f (file_named victim m.files)

  begin_by : (name : List ℕ) (what : CopyWhat) (o : Option File) → OnBeginning m (copy_begins_file client m name what o)
  begin_by name what None = tt
  begin_by name what (Some f) = begin_on f what

-- ---- each step

-- what a copy's answer leaves, by what it is for
abbrev pub taken_by : CopyWhat → Reply → List Plain → List Plain
taken_by (Victim name) answer store = taken_in name answer store
taken_by (Resync only) answer store = store
taken_by (Extend mirrors) answer store = store

-- an answer that isn't that a file was taken in leaves the plain files
still_in : (name : List ℕ) (answer : Reply) (store : List Plain) → IsRefusal answer → taken_in name answer store ≡ store
still_in name (reply.Merged ids) store is = absurd is
still_in name answer store is = refl

still_by : (what : CopyWhat) (answer : Reply) (store : List Plain) → IsRefusal answer → taken_by what answer store ≡ store
still_by (Victim name) answer store is = still_in name answer store is
still_by (Resync only) answer store is = refl
still_by (Extend mirrors) answer store is = refl

module _ (c : CopyView) (s : Servers) (store : List Plain) (h : AreSized s.meta.files store) (sound : IsSound s.meta) where
  -- what an answer to the copy leaves
  abbrev left : Reply → List Plain
  left answer = taken_by c.what answer store

  answered : (answer : Reply) (after : MetaView) → IsRefusal answer → AreAlike s.meta after → AreSized after.files (left answer)
  answered answer after is alike = subst (AreSized after.files) (sym (still_by c.what answer store is)) (sized_alike s.meta.files after.files store alike h)

  begun_by : (o : meta.Outcome Begun) → OnBeginning s.meta o → OnFiles left store (begins c s o)
  begun_by (Gives begun_as.Nothing after) k = answered (reply.Copied [] []) after tt k
  begun_by (Gives (begun_as.Copy side ids) after) k = sized_alike s.meta.files after.files store k h
  begun_by (Gives (begun_as.Merge ours theirs) after) k = sized_alike s.meta.files after.files store k h
  begun_by (Refuses refusal) k = answered refusal s.meta k refl
  begun_by (Waits holder) k = tt

  -- ---- a copy

  fences : (x : CopyingView) (next : ℕ) (o : CopyObject) (a : CallAnswer) → OnFiles left store (fences_object c s x next o a)
  fences x next o answer.Ok = h
  fences x next o (answer.Old kept) = h
  fences x next o answer.Failed = h

  resets : (x : CopyingView) (next : ℕ) (o : CopyObject) (a : CallAnswer) → OnFiles left store (resets_object c s x next o a)
  resets x next o answer.Ok = h
  resets x next o (answer.Old kept) = h
  resets x next o answer.Failed = h

  settling : (x : CopyingView) (o : Option (ℕ × Range)) (size : Option ℕ) → OnFiles left store (settles c s x o size)
  settling x (Some told) size = tt
  settling x None size = h

  takes : (k : Chunk) (p : Piece) (a : CallAnswer) → OnFiles left store (takes_chunk c s k p a)
  takes k p answer.Ok = h
  takes k p (answer.Old kept) = h
  takes k p answer.Failed = h

  puts : (k : Chunk) (bytes : List ℕ) (p : Piece) (a : CallAnswer) → OnFiles left store (puts_chunk c s k bytes p a)
  puts k bytes p answer.Ok = h
  puts k bytes p (answer.Old kept) = h
  puts k bytes p answer.Failed = h

  ends_alone : (key : KeyView) (cleared : List ℕ) (left_out : List Left) (f : File) (o : Option ℕ) → OnFiles left store (ends_copy c s cleared left_out (copy_ends_alone key cleared s.meta f o))
  ends_alone key cleared left_out f (Some holder) = tt
  ends_alone key cleared left_out f None =
      answered (reply.Copied cleared left_out) (record s.meta { files = changed f.number (with_layout (finished cleared f.layout)) s.meta.files }) tt (changed_alike f.number (with_layout (finished cleared f.layout)) s.meta.files (λ x. refl))

  ends_file : (key : KeyView) (cleared : List ℕ) (left_out : List Left) (o : Option File) → OnFiles left store (ends_copy c s cleared left_out (copy_ends_file key cleared s.meta o))
  ends_file key cleared left_out None = answered (reply.Broken 0) s.meta tt refl
  ends_file key cleared left_out (Some f) = ends_alone key cleared left_out f (lowest_but key.client f.lock)

  ends_by : (key : KeyView) (cleared : List ℕ) (left_out : List Left) (k : KeyState) → OnFiles left store (ends_copy c s cleared left_out (copy_ends_by key cleared s.meta k))
  ends_by key cleared left_out (Broken step) = answered (reply.Broken step) s.meta tt refl
  ends_by key cleared left_out Held = ends_file key cleared left_out (file_of key.file s.meta.files)

  by_stage : (next : CopyStage) → OnFiles left store (stage_at next c s)
  by_stage (stage.Fence x next) = fences x next (object_at (fences_of x) next) (fence_answer (target_of s (object_at (fences_of x) next).object))
  by_stage (stage.Reset x next) = resets x next (object_at (resets_of x) next) (reset_answer (target_of s (object_at (resets_of x) next).object) (object_at (resets_of x) next).object.number x.side.layout.generation)
  by_stage (stage.Settle x) = settling x (first_writer s.locks c.client (settled_objects x)) (size_of x.side.file s.meta)
  by_stage (stage.Take k) = takes k (piece_from k) (read_answer (target_of s (object_of (piece_from k))))
  by_stage (stage.Put k bytes) = puts k bytes (piece_to k) (write_answer (target_of s (object_of (piece_to k))) (object_of (piece_to k)).number k.copying.side.layout.generation)
  by_stage (stage.Done key cleared left_out) = ends_by key cleared left_out (state_of s.meta.leases key)

  -- ---- a file is taken in

  merge_fencing : (x : ComparingView) (next : ℕ) (o : ObjectId) (a : CallAnswer) → OnFiles left store (merge_fences_object c s x next o a)
  merge_fencing x next o answer.Ok = h
  merge_fencing x next o (answer.Old kept) = h
  merge_fencing x next o answer.Failed = h

  merge_settling : (x : ComparingView) (o : Option (ℕ × Range)) (next : MergeStage) → OnFiles left store (merge_settles c s x o next)
  merge_settling x (Some told) next = tt
  merge_settling x None next = h

  taking_ours : (p : Pair) (q : Piece) (a : CallAnswer) → OnFiles left store (takes_ours c s p q a)
  taking_ours p q answer.Ok = h
  taking_ours p q (answer.Old kept) = h
  taking_ours p q answer.Failed = h

  taking_theirs : (p : Pair) (ours : Option (List ℕ)) (q : Piece) (a : CallAnswer) → OnFiles left store (takes_theirs c s p ours q a)
  taking_theirs p ours q answer.Ok = h
  taking_theirs p ours q (answer.Old kept) = h
  taking_theirs p ours q answer.Failed = h

  -- the victim goes, and so does its plain file
  taken : (ours theirs : KeyView) (what : CopyWhat) (f v : File) (ids : List ℕ) → IsVictim s.meta what theirs → file_of theirs.file s.meta.files ≡ Some v
      → AreSized (without_file v.number (changed f.number (with_layout (merged v.layout f.layout)) s.meta.files)) (taken_by what (reply.Merged ids) store)
  taken ours theirs (Resync only) f v ids victim there = absurd victim
  taken ours theirs (Extend mirrors) f v ids victim there = absurd victim
  taken ours theirs (Victim name) f v ids victim there =
      let own : v.number ≡ theirs.file = number_found theirs.file s.meta.files v there in
      let found : file_of v.number s.meta.files ≡ Some v = subst (λ (n : ℕ). file_of n s.meta.files ≡ Some v) (sym own) there in
      let g : File → File = with_layout (merged v.layout f.layout) in
      let kept = sized_without v.number name v (victim.named v there) s.meta.files store sound.named sound.ascending found h in
      sized_alike (without_file v.number s.meta.files) (without_file v.number (changed f.number g s.meta.files)) (taken_in name (reply.Merged ids) store)
      (ap (λ (fs : List File). map shape_of fs) (without_changed v.number f.number g s.meta.files (λ x. refl)) ∙ changed_alike f.number g (without_file v.number s.meta.files) (λ x. refl)) kept

  merge_ended : (ours theirs : KeyView) (f v : File) (a b : Option ℕ) → IsVictim s.meta c.what theirs → file_of theirs.file s.meta.files ≡ Some v → OnFiles left store (ends_merge c s (merge_ends_alone ours theirs s.meta f v a b))
  merge_ended ours theirs f v (Some holder) b victim there = tt
  merge_ended ours theirs f v None (Some holder) victim there = tt
  merge_ended ours theirs f v None None victim there = taken ours theirs c.what f v _ victim there

  merge_files : (ours theirs : KeyView) (a b : Option File) → IsVictim s.meta c.what theirs → file_of theirs.file s.meta.files ≡ b → OnFiles left store (ends_merge c s (merge_ends_files ours theirs s.meta a b))
  merge_files ours theirs None b victim there = answered (reply.Broken 0) s.meta tt refl
  merge_files ours theirs (Some f) None victim there = answered (reply.Broken 0) s.meta tt refl
  merge_files ours theirs (Some f) (Some v) victim there = merge_ended ours theirs f v (lowest_but ours.client f.lock) (lowest_but ours.client v.lock) victim there

  merge_keys : (ours theirs : KeyView) (a b : KeyState) → IsVictim s.meta c.what theirs → OnFiles left store (ends_merge c s (merge_ends_by ours theirs s.meta a b))
  merge_keys ours theirs (Broken step) b victim = answered (reply.Broken step) s.meta tt refl
  merge_keys ours theirs Held (Broken step) victim = answered (reply.Broken step) s.meta tt refl
  merge_keys ours theirs Held Held victim = merge_files ours theirs (file_of ours.file s.meta.files) (file_of theirs.file s.meta.files) victim refl

  refusal_kept : (kept : Reply) (a b : KeyState) → IsRefusal kept → IsRefusal (kept_answer kept a b)
  refusal_kept kept (Broken step) b is = tt
  refusal_kept kept Held (Broken step) is = tt
  refusal_kept kept Held Held is = is

  merge_done : (ours theirs : KeyView) (refusal : Option Reply) → IsVictim s.meta c.what theirs → IsKept refusal → OnFiles left store (merge_ends_with c s ours theirs refusal)
  merge_done ours theirs (Some kept) victim is =
      answered (kept_answer kept (state_of s.meta.leases ours) (state_of s.meta.leases theirs)) s.meta (refusal_kept kept (state_of s.meta.leases ours) (state_of s.meta.leases theirs) is) refl
  merge_done ours theirs None victim is = merge_keys ours theirs (state_of s.meta.leases ours) (state_of s.meta.leases theirs) victim

  by_merge : (next : MergeStage) → MergeHas s.meta c.what next → OnFiles left store (merge_stage_at next c s)
  by_merge (merge.Fence x next) k = merge_fencing x next (object_at (merge_fences x) next).object (fence_answer (target_of s (object_at (merge_fences x) next).object))
  by_merge (merge.Settle x) k = merge_settling x (first_writer s.locks c.client (merge_fences x)) (merge_settled x (size_of x.ours.file s.meta) (size_of x.theirs.file s.meta))
  by_merge (merge.TakeOurs p) k = taking_ours p (our_piece p) (read_answer (target_of s (object_of (our_piece p))))
  by_merge (merge.TakeTheirs p ours) k = taking_theirs p ours (their_piece p) (read_answer (target_of s (object_of (their_piece p))))
  by_merge (merge.Done ours theirs refusal) k = merge_done ours theirs refusal k.0 k.1

  -- each step of a copy
  pub copy_sized : (a : CopyAt) → CopyHas s.meta c.what a → OnFiles left store (copy_at a c s)
  copy_sized at.Begin k = begun_by (copy_begins c.client c.name c.what s.meta) (begin_by c.client s.meta c.name c.what (file_named c.name s.meta.files))
  copy_sized (at.Copy next) k = by_stage next
  copy_sized (at.Merge next) k = by_merge next k
