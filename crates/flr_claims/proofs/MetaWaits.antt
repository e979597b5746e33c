-- Whom calls of the metadata server wait for.
use Rattle.std.proofs.Common.{◌≡◌, ℕ, Bool, true, false, not, ◌&&◌, ◌==◌, List, [], ◌∷◌, length, refl}
use Rattle.std.specs.Prelude.{Option, Some, None, is_none, is_some, option_map}
use Rattle.std.specs.Option.{option_or}
use Rattle.flr_base.specs.declared.reply.Range.{Range}
use Rattle.flr_base.specs.declared.reply.Reply.{Reply}
use Rattle.flr_base.specs.declared.reply.Reply.TheVariants as reply
use Rattle.composite_layout.specs.Choices.{is_ready}
use Rattle.composite_layout.specs.declared.spec.MirrorSpec.{MirrorSpec}
use Rattle.composite_layout.specs.FlagChanges.{FlagSets}
use Rattle.composite_layout.specs.LookUps.{mirror_ids, wholly_fresh}
use Rattle.composite_layout.specs.Making.{part_count}
use Rattle.layout_lease.specs.declared.lease.KeyState.{KeyState}
use Rattle.layout_lease.specs.declared.lease.KeyState.TheVariants.{Broken, Held}
use Rattle.layout_lease.specs.Leases.{KeyView, holder_of}
use Rattle.layout_lease.specs.Shares.{lowest_but}
use Rattle.layout_state.specs.Choosing.{primary_of}
use Rattle.layout_state.specs.declared.error.StateError.{StateError}
use Rattle.layout_state.specs.Marking.{flags_refusal}
use Rattle.layout_state.specs.Mirroring.{excess, keeping}
use Rattle.layout_state.specs.Selecting.{absent_of, selected_of}
use Rattle.meta_server.specs.Beginning as begin
use Rattle.meta_server.specs.declared.answers.CopyWhat.{CopyWhat}
use Rattle.meta_server.specs.declared.answers.CopyWhat.TheVariants as what
use Rattle.meta_server.specs.Ending as ending
use Rattle.meta_server.specs.Files.{File, MetaView, file_named, file_of, is_full}
use Rattle.meta_server.specs.Layouts.{extended, new_ids, offline_byte}
use Rattle.meta_server.specs.Naming as naming
use Rattle.meta_server.specs.Opening as opening
use Rattle.meta_server.specs.Outcomes.{Ending, Ends, Breaks, Holds, Outcome, Gives, Refuses, Waits, refusal_of}
use Rattle.call_steps.specs.Servers.{Servers}
use Rattle.flr_claims.specs.Blocking.{Alone, begin_needs, changed_unless, done_needs, in_way_of, merge_done_needs, opening_needs, selecting, there, unless}
use Rattle.flr_claims.specs.Refusals.{busy, delete_refusal, flags_refused, refused_if, split_refusal, victim_refusal}

-- whom an outcome waits for
abbrev pub waits : {A : Type 0} → Outcome A → Option ℕ
waits (Gives given after) = None
waits (Refuses answer) = None
waits (Waits holder) = Some holder

abbrev pub ends_waits : {A : Type 0} → Ending A → Option ℕ
ends_waits (Ends given after) = None
ends_waits (Breaks step after) = None
ends_waits (Holds holder) = Some holder

-- a step that changes no layout waits for nobody
pub waits_for_nobody : (s : Servers) (client : ℕ) (refusal : Option Reply) → in_way_of s client (unless refusal []) ≡ None
waits_for_nobody s client None = refl
waits_for_nobody s client (Some answer) = refl

-- ---- opens

module _ (s : Servers) (client : ℕ) (range : Range) (step : ℕ) (m : MetaView) where
  by_holder : (f : File) (mirror : ℕ) (o : Option ℕ) → waits (opening.intends client range step m f mirror o) ≡ option_or o None
  by_holder f mirror (Some holder) = refl
  by_holder f mirror None = refl

  by_primary : (f : File) (o : Option ℕ) → waits (opening.intends_to client range step m f o) ≡ in_way_of s client (unless (refused_if (is_none o) (reply.NoPrimary range)) (f ∷ []))
  by_primary f None = refl
  by_primary f (Some mirror) = by_holder f mirror (lowest_but client f.lock)

  by_ready : (f : File) (b : Bool) → waits (opening.readies client range step m f b)
      ≡ in_way_of s client (unless (refused_if (not b && is_none (primary_of range f.layout.components)) (reply.NoPrimary range)) (changed_unless b f))
  by_ready f true = refl
  by_ready f false = by_primary f (primary_of range f.layout.components)

  pub open_waits : (name : List ℕ) (too_big : Bool) (o : Option File) → waits (opening.change_opens_file client range step m name too_big o) ≡ in_way_of s client (opening_needs name range too_big o)
  open_waits name too_big None = refl
  open_waits name true (Some f) = refl
  open_waits name false (Some f) = by_ready f (is_ready f.layout range)

-- ---- changes of one step

module _ (s : Servers) (client id : ℕ) (change : FlagSets) (step : ℕ) (m : MetaView) where
  set_by_holder : (f : File) (o : Option ℕ) → waits (naming.sets_alone client id change step m f o) ≡ option_or o None
  set_by_holder f (Some holder) = refl
  set_by_holder f None = refl

  set_by_refusal : (f : File) (o : Option StateError) → waits (naming.sets_on client id change step m f o) ≡ in_way_of s client (unless (option_map refusal_of o) (f ∷ []))
  set_by_refusal f (Some error) = refl
  set_by_refusal f None = set_by_holder f (lowest_but client f.lock)

  pub set_waits : (name : List ℕ) (o : Option File) → waits (naming.sets_file client id change step m name o) ≡ in_way_of s client (unless (flags_refused name id change o) (there o))
  set_waits name None = refl
  set_waits name (Some f) = set_by_refusal f (flags_refusal id change f.layout.components)

module _ (s : Servers) (client mirror step : ℕ) (m : MetaView) where
  go_by_holder : (f : File) (to : Option (List ℕ)) (o : Option ℕ) → waits (naming.removes_alone client mirror step m f to o) ≡ option_or o None
  go_by_holder f to (Some holder) = refl
  go_by_holder f to None = refl

  delete_by_refusal : (f : File) (o : Option StateError) → waits (naming.removes_from client mirror step m None f o) ≡ in_way_of s client (unless (option_map refusal_of o) (f ∷ []))
  delete_by_refusal f (Some error) = refl
  delete_by_refusal f None = go_by_holder f None (lowest_but client f.lock)

  pub delete_waits : (name : List ℕ) (o : Option File) → waits (naming.removes_file client mirror step m name None o) ≡ in_way_of s client (unless (delete_refusal name mirror o) (there o))
  delete_waits name None = refl
  delete_waits name (Some f) = delete_by_refusal f (keeping mirror f.layout.components)

  module _ (f : File) (to : List ℕ) where
    -- what is asked of a split once its mirror may go
    abbrev fresh_refusal : Option Reply
    fresh_refusal = refused_if (not (wholly_fresh mirror f.layout.components)) (reply.StaleMirror mirror)

    abbrev name_refusal : Option Reply
    name_refusal = refused_if (is_some (file_named to m.files)) (reply.Exists to)

    abbrev room_refusal : Option Reply
    room_refusal = refused_if (is_full m.files) reply.TooManyFiles

    split_by_room : (b : Bool) → waits (naming.splits_within client mirror step m f to b) ≡ in_way_of s client (unless (refused_if b reply.TooManyFiles) (f ∷ []))
    split_by_room true = refl
    split_by_room false = go_by_holder f (Some to) (lowest_but client f.lock)

    split_by_name : (o : Option File) → waits (naming.splits_to client mirror step m f to o) ≡ in_way_of s client (unless (option_or (refused_if (is_some o) (reply.Exists to)) room_refusal) (f ∷ []))
    split_by_name (Some other) = refl
    split_by_name None = split_by_room (is_full m.files)

    split_by_fresh : (b : Bool) → waits (naming.splits_fresh client mirror step m f to b)
        ≡ in_way_of s client (unless (option_or (refused_if (not b) (reply.StaleMirror mirror)) (option_or name_refusal room_refusal)) (f ∷ []))
    split_by_fresh false = refl
    split_by_fresh true = split_by_name (file_named to m.files)

    split_by_refusal : (o : Option StateError) → waits (naming.removes_from client mirror step m (Some to) f o)
        ≡ in_way_of s client (unless (option_or (option_map refusal_of o) (option_or fresh_refusal (option_or name_refusal room_refusal))) (f ∷ []))
    split_by_refusal (Some error) = refl
    split_by_refusal None = split_by_fresh (wholly_fresh mirror f.layout.components)

  pub split_waits : (name to : List ℕ) (o : Option File) → waits (naming.removes_file client mirror step m name (Some to) o) ≡ in_way_of s client (unless (split_refusal name mirror to m.files o) (there o))
  split_waits name to None = refl
  split_waits name to (Some f) = split_by_refusal f to (keeping mirror f.layout.components)

module _ (name : List ℕ) (mirrors : List MirrorSpec) (m : MetaView) where
  create_by_room : (b : Bool) → waits (naming.creates_within name mirrors m b) ≡ None
  create_by_room true = refl
  create_by_room false = refl

  pub create_waits : (o : Option File) → waits (naming.creates_file name mirrors m o) ≡ None
  create_waits (Some f) = refl
  create_waits None = create_by_room (is_full m.files)

-- ---- the begin of a copy

module _ (s : Servers) (client : ℕ) (m : MetaView) where
  resync_by_holder : (f : File) (ids : List ℕ) (o : Option ℕ) → waits (begin.resync_alone client m f ids o) ≡ option_or o None
  resync_by_holder f ids (Some holder) = refl
  resync_by_holder f ids None = refl

  resync_by_wanted : (f : File) (ids : List ℕ) (b : Bool) → waits (begin.resync_wanted client m f ids b) ≡ in_way_of s client (Alone (changed_unless b f))
  resync_by_wanted f ids true = refl
  resync_by_wanted f ids false = resync_by_holder f ids (lowest_but client f.lock)

  resync_by_lease : (only : Option (List ℕ)) (f : File) (o : Option ℕ) → waits (begin.resync_leased client m only f o) ≡ in_way_of s client (unless (option_map reply.Busy o) (selecting only (Some f)))
  resync_by_lease only f (Some holder) = refl
  resync_by_lease only f None = resync_by_wanted f (selected_of only f.layout.components) (length (selected_of only f.layout.components) == 0)

  resync_by_mirror : (only : Option (List ℕ)) (f : File) (o : Option ℕ) → waits (begin.resync_begins client m only f o)
      ≡ in_way_of s client (unless (option_or (option_map reply.NoMirrorId o) (busy m f)) (selecting only (Some f)))
  resync_by_mirror only f (Some id) = refl
  resync_by_mirror only f None = resync_by_lease only f (holder_of m.leases f.number)

  extend_by_wanted : (f : File) (ids : List ℕ) (b : Bool) → waits (begin.extend_wanted client m f ids b) ≡ None
  extend_by_wanted f ids true = refl
  extend_by_wanted f ids false = refl

  extend_by_holder : (mirrors : List MirrorSpec) (f : File) (o : Option ℕ) → waits (begin.extend_alone client m mirrors f o) ≡ option_or o None
  extend_by_holder mirrors f (Some holder) = refl
  extend_by_holder mirrors f None =
      let layout = extended mirrors (length m.nexts) f.layout in
      let ids = selected_of (Some (new_ids mirrors f.layout)) layout.components in
      extend_by_wanted (record f { layout = layout }) ids (length ids == 0)

  extend_by_lease : (mirrors : List MirrorSpec) (f : File) (o : Option ℕ) → waits (begin.extend_leased client m mirrors f o) ≡ in_way_of s client (unless (option_map reply.Busy o) (f ∷ []))
  extend_by_lease mirrors f (Some holder) = refl
  extend_by_lease mirrors f None = extend_by_holder mirrors f (lowest_but client f.lock)

  extend_by_room : (mirrors : List MirrorSpec) (f : File) (o : Option StateError) → waits (begin.extend_begins client m mirrors f o)
      ≡ in_way_of s client (unless (option_or (option_map refusal_of o) (busy m f)) (f ∷ []))
  extend_by_room mirrors f (Some error) = refl
  extend_by_room mirrors f None = extend_by_lease mirrors f (holder_of m.leases f.number)

  module _ (f v : File) where
    merge_by_holders : (o p : Option ℕ) → waits (begin.merge_alone client m f v o p) ≡ option_or o (option_or p None)
    merge_by_holders (Some holder) p = refl
    merge_by_holders None (Some holder) = refl
    merge_by_holders None None = refl

    merge_by_bytes : (o p : Option ℕ) → waits (begin.merge_readable client m f v o p)
        ≡ in_way_of s client (unless (option_or (option_map reply.AllOffline o) (option_map reply.AllOffline p)) (f ∷ v ∷ []))
    merge_by_bytes (Some byte) p = refl
    merge_by_bytes None (Some byte) = refl
    merge_by_bytes None None = merge_by_holders (lowest_but client f.lock) (lowest_but client v.lock)

    abbrev unreadable : Option Reply
    unreadable = option_or (option_map reply.AllOffline (offline_byte f.layout)) (option_map reply.AllOffline (offline_byte v.layout))

    merge_by_leases : (o p : Option ℕ) → waits (begin.merge_leased client m f v o p)
        ≡ in_way_of s client (unless (option_or (option_map reply.Busy o) (option_or (option_map reply.Busy p) unreadable)) (f ∷ v ∷ []))
    merge_by_leases (Some holder) p = refl
    merge_by_leases None (Some holder) = refl
    merge_by_leases None None = merge_by_bytes (offline_byte f.layout) (offline_byte v.layout)

    merge_by_room : (o : Option StateError) → waits (begin.merge_fits client m f v o)
        ≡ in_way_of s client (unless (option_or (option_map refusal_of o) (option_or (busy m f) (option_or (busy m v) unreadable))) (f ∷ v ∷ []))
    merge_by_room (Some error) = refl
    merge_by_room None = merge_by_leases (holder_of m.leases f.number) (holder_of m.leases v.number)

  merge_by_victim : (victim : List ℕ) (f : File) (o : Option File) → waits (begin.merge_begins client m victim f o) ≡ in_way_of s client (unless (victim_refusal victim m f o) (f ∷ there o))
  merge_by_victim victim f None = refl
  merge_by_victim victim f (Some v) = merge_by_room f v (excess f.layout (length (mirror_ids v.layout.components)) (length v.layout.components) m.most)

  pub begin_waits : (name : List ℕ) (of : CopyWhat) (o : Option File) → waits (begin.copy_begins_file client m name of o) ≡ in_way_of s client (begin_needs name m of o)
  begin_waits name (what.Resync only) None = refl
  begin_waits name (what.Extend mirrors) None = refl
  begin_waits name (what.Victim victim) None = refl
  begin_waits name (what.Resync only) (Some f) = resync_by_mirror only f (absent_of only f.layout.components)
  begin_waits name (what.Extend mirrors) (Some f) = extend_by_room mirrors f (excess f.layout (length mirrors) (part_count mirrors) m.most)
  begin_waits name (what.Victim victim) (Some f) = merge_by_victim victim f (file_named victim m.files)

-- ---- the end of a copy

module _ (s : Servers) (key : KeyView) (cleared : List ℕ) (m : MetaView) where
  end_by_holder : (f : File) (o : Option ℕ) → ends_waits (ending.copy_ends_alone key cleared m f o) ≡ option_or o None
  end_by_holder f (Some holder) = refl
  end_by_holder f None = refl

  end_by_file : (o : Option File) → ends_waits (ending.copy_ends_file key cleared m o) ≡ in_way_of s key.client (done_needs Held o)
  end_by_file None = refl
  end_by_file (Some f) = end_by_holder f (lowest_but key.client f.lock)

  pub end_waits : (k : KeyState) → ends_waits (ending.copy_ends_by key cleared m k) ≡ in_way_of s key.client (done_needs k (file_of key.file m.files))
  end_waits (Broken step) = refl
  end_waits Held = end_by_file (file_of key.file m.files)

module _ (s : Servers) (ours theirs : KeyView) (m : MetaView) where
  merged_by_holders : (f v : File) (o p : Option ℕ) → ends_waits (ending.merge_ends_alone ours theirs m f v o p) ≡ option_or o (option_or p None)
  merged_by_holders f v (Some holder) p = refl
  merged_by_holders f v None (Some holder) = refl
  merged_by_holders f v None None = refl

  merged_by_files : (o p : Option File) → ends_waits (ending.merge_ends_files ours theirs m o p) ≡ in_way_of s ours.client (merge_done_needs None Held Held o p)
  merged_by_files None p = refl
  merged_by_files (Some f) None = refl
  merged_by_files (Some f) (Some v) = merged_by_holders f v (lowest_but ours.client f.lock) (lowest_but ours.client v.lock)

  pub merge_end_waits : (k l : KeyState) → ends_waits (ending.merge_ends_by ours theirs m k l) ≡ in_way_of s ours.client (merge_done_needs None k l (file_of ours.file m.files) (file_of theirs.file m.files))
  merge_end_waits (Broken step) l = refl
  merge_end_waits Held (Broken step) = refl
  merge_end_waits Held Held = merged_by_files (file_of ours.file m.files) (file_of theirs.file m.files)
