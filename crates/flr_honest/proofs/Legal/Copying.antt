-- What a copy answers is what plain files allow: a merge answers so only where both files are there, and takes one in that has the same bytes.
use Rattle.std.proofs.Common.{◌≡◌, ℕ, ◌==◌, Bool, true, false, Option, Some, None, List, [], length, inl, inr, refl, sym, ◌∙◌}
use Rattle.flr_base.specs.declared.reply.Left.{Left}
use Rattle.flr_base.specs.declared.reply.ObjectId.{ObjectId}
use Rattle.flr_base.specs.declared.reply.Range.{Range}
use Rattle.flr_base.specs.declared.reply.Reply.{Reply}
use Rattle.flr_base.specs.declared.reply.Reply.TheVariants as reply
use Rattle.composite_layout.specs.declared.spec.MirrorSpec.{MirrorSpec}
use Rattle.composite_layout.specs.LookUps.{mirror_ids}
use Rattle.composite_layout.specs.Making.{part_count}
use Rattle.layout_lease.specs.declared.lease.KeyState.{KeyState}
use Rattle.layout_lease.specs.declared.lease.KeyState.TheVariants.{Held, Broken}
use Rattle.layout_lease.specs.Leases.{KeyView, holder_of, state_of}
use Rattle.layout_lease.specs.Shares.{lowest_but}
use Rattle.layout_state.specs.declared.error.StateError.{StateError}
use Rattle.layout_state.specs.declared.error.StateError.TheVariants as errors
use Rattle.layout_state.specs.Mirroring.{excess}
use Rattle.layout_state.specs.Selecting.{absent_of, selected_of}
use Rattle.mirror_select.specs.declared.types.Piece.{Piece}
use Rattle.object_target.specs.declared.call.CallAnswer.{CallAnswer}
use Rattle.object_target.specs.declared.call.CallAnswer.TheVariants as answer
use Rattle.object_target.specs.Calls.{fence_answer, read_answer, reset_answer, write_answer}
use Rattle.meta_server.specs.declared.answers.Begun.{Begun}
use Rattle.meta_server.specs.declared.answers.Begun.TheVariants as begun_as
use Rattle.meta_server.specs.declared.answers.CopyWhat.{CopyWhat}
use Rattle.meta_server.specs.declared.answers.CopyWhat.TheVariants.{Resync, Extend, Victim}
use Rattle.meta_server.specs.Beginning.{copy_begins, copy_begins_file, copy_begins_on, extend_alone, extend_begins, extend_leased, extend_wanted, merge_alone, merge_begins, merge_fits, merge_leased, merge_readable, resync_alone, resync_begins, resync_leased, resync_wanted}
use Rattle.meta_server.specs.Closing.{size_of}
use Rattle.meta_server.specs.Ending.{copy_ends_alone, copy_ends_by, copy_ends_file, merge_ends_alone, merge_ends_by, merge_ends_files}
use Rattle.meta_server.specs.Files.{File, MetaView, file_named, file_of, with_layout}
use Rattle.meta_server.specs.Layouts.{extended, new_ids, offline_byte}
use Rattle.meta_server.specs.Outcomes.{Breaks, Ending, Ends, Gives, Holds, Refuses, Waits, refusal_of}
use Rattle.meta_server.specs.Outcomes as meta
use Rattle.meta_server.specs.Sound.{IsSound}
use Rattle.call_steps.specs.Pieces.{object_of}
use Rattle.call_steps.specs.Servers.{Servers}
use Rattle.resync_copy.specs.declared.merge_phase.MergeStage.{MergeStage}
use Rattle.resync_copy.specs.declared.merge_phase.MergeStage.TheVariants as merge
use Rattle.resync_copy.specs.declared.merge_phase.Pair.{Pair}
use Rattle.resync_copy.specs.declared.parts.CopyObject.{CopyObject}
use Rattle.resync_copy.specs.declared.phase.Chunk.{Chunk}
use Rattle.resync_copy.specs.declared.phase.CopyAt.{CopyAt}
use Rattle.resync_copy.specs.declared.phase.CopyAt.TheVariants as at
use Rattle.resync_copy.specs.declared.phase.CopyStage.{CopyStage}
use Rattle.resync_copy.specs.declared.phase.CopyStage.TheVariants as stage
use Rattle.resync_copy.specs.Calls.{CopyView}
use Rattle.resync_copy.specs.Comparing.{ComparingView, merge_fences}
use Rattle.resync_copy.specs.Copies.{ends_copy, fences_object, first_writer, object_at, piece_from, piece_to, puts_chunk, resets_object, settled_objects, settles, stage_at, takes_chunk, target_of}
use Rattle.resync_copy.specs.Merges.{ends_merge, kept_answer, merge_ends_with, merge_fences_object, merge_settled, merge_settles, merge_stage_at, our_piece, takes_ours, takes_theirs, their_piece}
use Rattle.resync_copy.specs.Steps.{begins, copy_at}
use Rattle.resync_copy.specs.Views.{CopyingView, fences_of, resets_of}
use Rattle.plain_files.specs.Effects.{AllowsCopy, AllowsMerge}
use Rattle.plain_files.specs.Files.{AreSameBytes, IsPresent, Plain, bytes_of}
use Rattle.flr_bytes.specs.Calls.{AreEqual, CopySays}
use Rattle.flr_bytes.specs.Files.{AreSized}
use Rattle.flr_bytes.specs.Sentences.{byte_of}
use Rattle.flr_bytes.specs.Victims.{CopyHas, IsNamed, IsVictim}
use Rattle.flr_honest.specs.Legal.Sentences.{IfFixed, IsOfItsFile, Keeps, TakesInNone, TellsOfBoth}
use Rattle.flr_honest.proofs.Legal.Files.{absent, held_present, numbered_byte, numbered_present, present}
use Rattle.flr_honest.proofs.Legal.Outcomes.{weaker}
use Rattle.flr_honest.proofs.Legal.Refusals.{IsPlain, plain_excess}

-- what plain files allow a copy, by what it is for
abbrev pub AllowsFor : List ℕ → CopyWhat → List Plain → Reply → Type 0
AllowsFor name (Resync only) store answer = AllowsCopy name store answer
AllowsFor name (Extend mirrors) store answer = AllowsCopy name store answer
AllowsFor name (Victim victim) store answer = AllowsMerge name victim store answer

-- a copy that takes in no file
for_copy : (name : List ℕ) (what : CopyWhat) (store : List Plain) → TakesInNone what → (answer : Reply) → AllowsCopy name store answer → AllowsFor name what store answer
for_copy name (Resync only) store none answer h = h
for_copy name (Extend mirrors) store none answer h = h
for_copy name (Victim victim) store none answer h = absurd none

-- ---- begin

-- where a begin is refused, or has nothing to copy, the answer passes the test
abbrev MayBegin : (Reply → Type 0) → meta.Outcome Begun → Type 0
MayBegin may (Gives begun_as.Nothing after) = may (reply.Copied [] [])
MayBegin may (Gives (begun_as.Copy side ids) after) = Unit {0}
MayBegin may (Gives (begun_as.Merge ours theirs) after) = Unit {0}
MayBegin may (Refuses answer) = may answer
MayBegin may (Waits holder) = Unit {0}

refused_copy : (name : List ℕ) (store : List Plain) (error : StateError) → IsPlain error → IsPresent store name → AllowsCopy name store (refusal_of error)
refused_copy name store (errors.NoPrimary range) plain there = there
refused_copy name store (errors.LastFresh mirror) plain there = there
refused_copy name store (errors.NoMirrorId id) plain there = there
refused_copy name store (errors.NoComponent id) plain there = there
refused_copy name store errors.TooManyMirrors plain there = there
refused_copy name store errors.TooManyComponents plain there = there
refused_copy name store errors.NoMemory plain there = absurd plain

refused_merge : (name victim : List ℕ) (store : List Plain) (error : StateError) → IsPlain error → IsPresent store name × IsPresent store victim → AllowsMerge name victim store (refusal_of error)
refused_merge name victim store (errors.NoPrimary range) plain both = both
refused_merge name victim store (errors.LastFresh mirror) plain both = both
refused_merge name victim store (errors.NoMirrorId id) plain both = both
refused_merge name victim store (errors.NoComponent id) plain both = both
refused_merge name victim store errors.TooManyMirrors plain both = both
refused_merge name victim store errors.TooManyComponents plain both = both
refused_merge name victim store errors.NoMemory plain both = absurd plain

module _ (client : ℕ) (m : MetaView) (store : List Plain) (h : AreSized m.files store) (name : List ℕ) (f : File) (there : IsPresent store name) where
  abbrev may : Reply → Type 0
  may answer = AllowsCopy name store answer

  resync_alone_by : (ids : List ℕ) (o : Option ℕ) → MayBegin may (resync_alone client m f ids o)
  resync_alone_by ids (Some holder) = tt
  resync_alone_by ids None = tt

  resync_wanted_by : (ids : List ℕ) (b : Bool) → MayBegin may (resync_wanted client m f ids b)
  resync_wanted_by ids true = there
  resync_wanted_by ids false = resync_alone_by ids (lowest_but client f.lock)

  resync_leased_by : (only : Option (List ℕ)) (o : Option ℕ) → MayBegin may (resync_leased client m only f o)
  resync_leased_by only (Some holder) = there
  resync_leased_by only None = let ids = selected_of only f.layout.components in resync_wanted_by ids (length ids == 0)

  resync_by : (only : Option (List ℕ)) (o : Option ℕ) → MayBegin may (resync_begins client m only f o)
  resync_by only (Some id) = there
  resync_by only None = resync_leased_by only (holder_of m.leases f.number)

  extend_wanted_by : (g : File) (ids : List ℕ) (b : Bool) → MayBegin may (extend_wanted client m g ids b)
  extend_wanted_by g ids true = there
  extend_wanted_by g ids false = tt

  extend_alone_by : (mirrors : List MirrorSpec) (o : Option ℕ) → MayBegin may (extend_alone client m mirrors f o)
  extend_alone_by mirrors (Some holder) = tt
  extend_alone_by mirrors None =
      let l = extended mirrors (length m.nexts) f.layout in
      let ids : List ℕ = selected_of (Some (new_ids mirrors f.layout)) l.components in
      extend_wanted_by (with_layout l f) ids (length ids == 0)

  extend_leased_by : (mirrors : List MirrorSpec) (o : Option ℕ) → MayBegin may (extend_leased client m mirrors f o)
  extend_leased_by mirrors (Some holder) = there
  extend_leased_by mirrors None = extend_alone_by mirrors (lowest_but client f.lock)

  extend_by : (mirrors : List MirrorSpec) (o : Option StateError) → excess f.layout (length mirrors) (part_count mirrors) m.most ≡ o → MayBegin may (extend_begins client m mirrors f o)
  extend_by mirrors (Some error) e = refused_copy name store error (plain_excess f.layout (length mirrors) (part_count mirrors) m.most error e) there
  extend_by mirrors None e = extend_leased_by mirrors (holder_of m.leases f.number)

  module _ (victim : List ℕ) where
    abbrev may_merge : Reply → Type 0
    may_merge answer = AllowsMerge name victim store answer

    module _ (v : File) (both : IsPresent store name × IsPresent store victim) where
      merge_alone_by : (a b : Option ℕ) → MayBegin may_merge (merge_alone client m f v a b)
      merge_alone_by (Some holder) b = tt
      merge_alone_by None (Some holder) = tt
      merge_alone_by None None = tt

      merge_readable_by : (a b : Option ℕ) → MayBegin may_merge (merge_readable client m f v a b)
      merge_readable_by (Some byte) b = both
      merge_readable_by None (Some byte) = both
      merge_readable_by None None = merge_alone_by (lowest_but client f.lock) (lowest_but client v.lock)

      merge_leased_by : (a b : Option ℕ) → MayBegin may_merge (merge_leased client m f v a b)
      merge_leased_by (Some holder) b = both
      merge_leased_by None (Some holder) = both
      merge_leased_by None None = merge_readable_by (offline_byte f.layout) (offline_byte v.layout)

      merge_fits_by : (o : Option StateError) → excess f.layout (length (mirror_ids v.layout.components)) (length v.layout.components) m.most ≡ o → MayBegin may_merge (merge_fits client m f v o)
      merge_fits_by (Some error) e = refused_merge name victim store error (plain_excess f.layout (length (mirror_ids v.layout.components)) (length v.layout.components) m.most error e) both
      merge_fits_by None e = merge_leased_by (holder_of m.leases f.number) (holder_of m.leases v.number)

    merge_by : (o : Option File) → file_named victim m.files ≡ o → MayBegin may_merge (merge_begins client m victim f o)
    merge_by None e = inr (refl, there, absent victim m.files store h e)
    merge_by (Some v) e = merge_fits_by v (there, present victim m.files store v h e) (excess f.layout (length (mirror_ids v.layout.components)) (length v.layout.components) m.most) refl

  begin_on : (what : CopyWhat) → MayBegin (AllowsFor name what store) (copy_begins_on client m f what)
  begin_on (Resync only) = resync_by only (absent_of only f.layout.components)
  begin_on (Extend mirrors) = extend_by mirrors (excess f.layout (length mirrors) (part_count mirrors) m.most) refl
  begin_on (Victim victim) = merge_by victim (file_named victim m.files) refl

module _ (client : ℕ) (m : MetaView) (store : List Plain) (h : AreSized m.files store) (name : List ℕ) where
  not_there : (what : CopyWhat) → file_named name m.files ≡ None → AllowsFor name what store (reply.NoFile name)
  not_there (Resync only) e = (refl, absent name m.files store h e)
  not_there (Extend mirrors) e = (refl, absent name m.files store h e)
  not_there (Victim victim) e = inl (refl, absent name m.files store h e)

  begin_by : (what : CopyWhat) (o : Option File) → file_named name m.files ≡ o → MayBegin (AllowsFor name what store) (copy_begins_file client m name what o)
  begin_by what None e = not_there what e
  begin_by what (Some f) e = begin_on client m store h name f (present name m.files store f h e) what

-- ---- each step

module _ (c : CopyView) (s : Servers) (store : List Plain) (h : AreSized s.meta.files store) (sound : IsSound s.meta) where
  -- what plain files allow the copy
  abbrev pub may_copy : Reply → Type 0
  may_copy answer = AllowsFor c.name c.what store answer

  begun_by : (o : meta.Outcome Begun) → MayBegin may_copy o → IfFixed may_copy (begins c s o)
  begun_by (Gives begun_as.Nothing after) k = k
  begun_by (Gives (begun_as.Copy side ids) after) k = tt
  begun_by (Gives (begun_as.Merge ours theirs) after) k = tt
  begun_by (Refuses refusal) k = k
  begun_by (Waits holder) k = tt

  -- ---- a copy

  fences : (x : CopyingView) (next : ℕ) (o : CopyObject) (a : CallAnswer) → IfFixed may_copy (fences_object c s x next o a)
  fences x next o answer.Ok = tt
  fences x next o (answer.Old kept) = tt
  fences x next o answer.Failed = tt

  resets : (x : CopyingView) (next : ℕ) (o : CopyObject) (a : CallAnswer) → IfFixed may_copy (resets_object c s x next o a)
  resets x next o answer.Ok = tt
  resets x next o (answer.Old kept) = tt
  resets x next o answer.Failed = tt

  settling : (x : CopyingView) (o : Option (ℕ × Range)) (size : Option ℕ) → IfFixed may_copy (settles c s x o size)
  settling x (Some told) size = tt
  settling x None size = tt

  takes : (t : Chunk) (p : Piece) (a : CallAnswer) → IfFixed may_copy (takes_chunk c s t p a)
  takes t p answer.Ok = tt
  takes t p (answer.Old kept) = tt
  takes t p answer.Failed = tt

  puts : (t : Chunk) (bytes : List ℕ) (p : Piece) (a : CallAnswer) → IfFixed may_copy (puts_chunk c s t bytes p a)
  puts t bytes p answer.Ok = tt
  puts t bytes p (answer.Old kept) = tt
  puts t bytes p answer.Failed = tt

  module _ (key : KeyView) (cleared : List ℕ) (left : List Left) (k : IsNamed s.meta c.name key) where
    abbrev ends_so : Ending (Unit {0}) → Type 0
    ends_so o = IfFixed (AllowsCopy c.name store) (ends_copy c s cleared left o)

    ends_alone : (f : File) (o : Option ℕ) → IsPresent store c.name → ends_so (copy_ends_alone key cleared s.meta f o)
    ends_alone f (Some holder) there = tt
    ends_alone f None there = there

    ends_file : (o : Option File) → file_of key.file s.meta.files ≡ o → ends_so (copy_ends_file key cleared s.meta o)
    ends_file None e = tt
    ends_file (Some f) e = ends_alone f (lowest_but key.client f.lock) (numbered_present s.meta store sound h key.file c.name f e (k.named f e))

    ends_by : (a : KeyState) → ends_so (copy_ends_by key cleared s.meta a)
    ends_by (Broken step) = tt
    ends_by Held = ends_file (file_of key.file s.meta.files) refl

  by_stage : (next : CopyStage) → IsOfItsFile s.meta c.name c.what (at.Copy next) → IfFixed may_copy (stage_at next c s)
  by_stage (stage.Fence x next) k = fences x next (object_at (fences_of x) next) (fence_answer (target_of s (object_at (fences_of x) next).object))
  by_stage (stage.Reset x next) k = resets x next (object_at (resets_of x) next) (reset_answer (target_of s (object_at (resets_of x) next).object) (object_at (resets_of x) next).object.number x.side.layout.generation)
  by_stage (stage.Settle x) k = settling x (first_writer s.locks c.client (settled_objects x)) (size_of x.side.file s.meta)
  by_stage (stage.Take t) k = takes t (piece_from t) (read_answer (target_of s (object_of (piece_from t))))
  by_stage (stage.Put t bytes) k = puts t bytes (piece_to t) (write_answer (target_of s (object_of (piece_to t))) (object_of (piece_to t)).number t.copying.side.layout.generation)
  by_stage (stage.Done key cleared left) k =
      weaker (AllowsCopy c.name store) may_copy (stage_at (stage.Done key cleared left) c s) (for_copy c.name c.what store k.1) (ends_by key cleared left k.0 (state_of s.meta.leases key))

  -- ---- a merge

  merge_fencing : (x : ComparingView) (next : ℕ) (o : ObjectId) (a : CallAnswer) → IfFixed may_copy (merge_fences_object c s x next o a)
  merge_fencing x next o answer.Ok = tt
  merge_fencing x next o (answer.Old kept) = tt
  merge_fencing x next o answer.Failed = tt

  merge_settling : (x : ComparingView) (o : Option (ℕ × Range)) (next : MergeStage) → IfFixed may_copy (merge_settles c s x o next)
  merge_settling x (Some told) next = tt
  merge_settling x None next = tt

  taking_ours : (p : Pair) (q : Piece) (a : CallAnswer) → IfFixed may_copy (takes_ours c s p q a)
  taking_ours p q answer.Ok = tt
  taking_ours p q (answer.Old kept) = tt
  taking_ours p q answer.Failed = tt

  taking_theirs : (p : Pair) (ours : Option (List ℕ)) (q : Piece) (a : CallAnswer) → IfFixed may_copy (takes_theirs c s p ours q a)
  taking_theirs p ours q answer.Ok = tt
  taking_theirs p ours q (answer.Old kept) = tt
  taking_theirs p ours q answer.Failed = tt

  -- at the last step, with the keys of both files
  module _ (victim : List ℕ) (ours theirs : KeyView) (k : IsNamed s.meta c.name ours) (v : IsNamed s.meta victim theirs) where
    abbrev may_take : Reply → Type 0
    may_take answer = AllowsMerge c.name victim store answer

    -- while both leases stand both plain files are there
    both_there : state_of s.meta.leases ours ≡ Held → state_of s.meta.leases theirs ≡ Held → IsPresent store c.name × IsPresent store victim
    both_there a b = (held_present s.meta store sound h c.name ours k a, held_present s.meta store sound h victim theirs v b)

    tells : (kept : Reply) → TellsOfBoth kept → IsPresent store c.name × IsPresent store victim → may_take kept
    tells (reply.CopyFault call) is both = both
    tells (reply.Sizes a b) is both = both
    tells (reply.DifferAt offset a b) is both = both
    tells other is both = absurd is

    kept_by : (kept : Reply) (a b : KeyState) → state_of s.meta.leases ours ≡ a → state_of s.meta.leases theirs ≡ b → TellsOfBoth kept → may_take (kept_answer kept a b)
    kept_by kept (Broken step) b ea eb is = tt
    kept_by kept Held (Broken step) ea eb is = tt
    kept_by kept Held Held ea eb is = tells kept is (both_there ea eb)

    module _ (equal : AreEqual s.meta (byte_of s.meta.files store) ours theirs) where
      -- the plain files have the same bytes
      same_bytes : (f g : File) → file_of ours.file s.meta.files ≡ Some f → file_of theirs.file s.meta.files ≡ Some g → state_of s.meta.leases ours ≡ Held → state_of s.meta.leases theirs ≡ Held → AreSameBytes (bytes_of store c.name) (bytes_of store victim)
      same_bytes f g ef eg a b y =
          sym (numbered_byte s.meta store sound h ours.file c.name f y ef (k.named f ef)) ∙ equal a b y ∙ numbered_byte s.meta store sound h theirs.file victim g y eg (v.named g eg)

      taken_alone : (f g : File) (a b : Option ℕ) → IsPresent store c.name → IsPresent store victim → AreSameBytes (bytes_of store c.name) (bytes_of store victim) → IfFixed may_take (ends_merge c s (merge_ends_alone ours theirs s.meta f g a b))
      taken_alone f g (Some holder) b one two same = tt
      taken_alone f g None (Some holder) one two same = tt
      taken_alone f g None None one two same = (one, two, same)

      taken_files : (a b : Option File) → file_of ours.file s.meta.files ≡ a → file_of theirs.file s.meta.files ≡ b → state_of s.meta.leases ours ≡ Held → state_of s.meta.leases theirs ≡ Held → IfFixed may_take (ends_merge c s (merge_ends_files ours theirs s.meta a b))
      taken_files None b ef eg x y = tt
      taken_files (Some f) None ef eg x y = tt
      taken_files (Some f) (Some g) ef eg x y =
          let both = both_there x y in taken_alone f g (lowest_but ours.client f.lock) (lowest_but ours.client g.lock) both.0 both.1 (same_bytes f g ef eg x y)

      taken_by : (a b : KeyState) → state_of s.meta.leases ours ≡ a → state_of s.meta.leases theirs ≡ b → IfFixed may_take (ends_merge c s (merge_ends_by ours theirs s.meta a b))
      taken_by (Broken step) b ea eb = tt
      taken_by Held (Broken step) ea eb = tt
      taken_by Held Held ea eb = taken_files (file_of ours.file s.meta.files) (file_of theirs.file s.meta.files) refl refl ea eb

    last : (refusal : Option Reply) → Keeps refusal → CopySays s (byte_of s.meta.files store) (at.Merge (merge.Done ours theirs refusal)) → IfFixed may_take (merge_ends_with c s ours theirs refusal)
    last (Some kept) is says = kept_by kept (state_of s.meta.leases ours) (state_of s.meta.leases theirs) refl refl is
    last None is says = taken_by says (state_of s.meta.leases ours) (state_of s.meta.leases theirs) refl refl

  done : (what : CopyWhat) (ours theirs : KeyView) (refusal : Option Reply) → IsNamed s.meta c.name ours → IsVictim s.meta what theirs → Keeps refusal → CopySays s (byte_of s.meta.files store) (at.Merge (merge.Done ours theirs refusal))
      → IfFixed (AllowsFor c.name what store) (merge_ends_with c s ours theirs refusal)
  done (Resync only) ours theirs refusal k v is says = absurd v
  done (Extend mirrors) ours theirs refusal k v is says = absurd v
  done (Victim victim) ours theirs refusal k v is says = last victim ours theirs k v refusal is says

  by_merge : (next : MergeStage) → IsOfItsFile s.meta c.name c.what (at.Merge next) → CopyHas s.meta c.what (at.Merge next) → CopySays s (byte_of s.meta.files store) (at.Merge next) → IfFixed may_copy (merge_stage_at next c s)
  by_merge (merge.Fence x next) k v says = merge_fencing x next (object_at (merge_fences x) next).object (fence_answer (target_of s (object_at (merge_fences x) next).object))
  by_merge (merge.Settle x) k v says = merge_settling x (first_writer s.locks c.client (merge_fences x)) (merge_settled x (size_of x.ours.file s.meta) (size_of x.theirs.file s.meta))
  by_merge (merge.TakeOurs p) k v says = taking_ours p (our_piece p) (read_answer (target_of s (object_of (our_piece p))))
  by_merge (merge.TakeTheirs p ours) k v says = taking_theirs p ours (their_piece p) (read_answer (target_of s (object_of (their_piece p))))
  by_merge (merge.Done ours theirs refusal) k v says = done c.what ours theirs refusal k.0 v.0 k.1 says

  -- each step of a copy
  pub copy_allowed : (a : CopyAt) → IsOfItsFile s.meta c.name c.what a → CopyHas s.meta c.what a → CopySays s (byte_of s.meta.files store) a → IfFixed may_copy (copy_at a c s)
  copy_allowed at.Begin k v says = begun_by (copy_begins c.client c.name c.what s.meta) (begin_by c.client s.meta store h c.name c.what (file_named c.name s.meta.files) refl)
  copy_allowed (at.Copy next) k v says = by_stage next k
  copy_allowed (at.Merge next) k v says = by_merge next k v says
