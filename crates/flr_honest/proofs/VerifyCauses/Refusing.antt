-- The metadata server refuses with no answer of a verify that compared its file.
use Rattle.std.proofs.Common.{ℕ, Bool, true, false, Option, Some, None, List, length, nat_lt, ◌==◌}
use Rattle.flr_base.specs.Limits.{most_bytes}
use Rattle.flr_base.specs.declared.reply.Range.{Range}
use Rattle.composite_layout.specs.Choices.{is_ready}
use Rattle.composite_layout.specs.declared.spec.MirrorSpec.{MirrorSpec}
use Rattle.composite_layout.specs.FlagChanges.{FlagSets}
use Rattle.composite_layout.specs.Layouts.{eof}
use Rattle.composite_layout.specs.LookUps.{mirror_ids, wholly_fresh}
use Rattle.composite_layout.specs.Making.{part_count}
use Rattle.layout_lease.specs.Leases.{holder_of}
use Rattle.layout_lease.specs.Shares.{lowest_but}
use Rattle.layout_state.specs.Choosing.{primary_of}
use Rattle.layout_state.specs.declared.error.StateError.{StateError}
use Rattle.layout_state.specs.declared.error.StateError.TheVariants as errors
use Rattle.layout_state.specs.Marking.{flags_refusal}
use Rattle.layout_state.specs.Mirroring.{excess, keeping}
use Rattle.layout_state.specs.Selecting.{absent_of, selected_of}
use Rattle.meta_server.specs.Beginning as begin
use Rattle.meta_server.specs.declared.answers.CopyWhat.{CopyWhat}
use Rattle.meta_server.specs.declared.answers.CopyWhat.TheVariants as what
use Rattle.meta_server.specs.Files.{File, MetaView, file_named, is_full}
use Rattle.meta_server.specs.Layouts.{extended, new_ids, offline_byte}
use Rattle.meta_server.specs.Naming as naming
use Rattle.meta_server.specs.Opening as opening
use Rattle.meta_server.specs.Outcomes.{Outcome, Gives, Refuses, Waits, refusal_of}
use Rattle.flr_base.specs.declared.reply.Reply.{Reply}
use Rattle.flr_base.specs.declared.reply.Reply.TheVariants as reply

-- the answer isn't one of a verify that compared its file
abbrev pub ComparesNone : Reply → Type 0
ComparesNone (reply.Same count) = ⊥
ComparesNone (reply.Differ entries) = ⊥
ComparesNone other = Unit {0}

-- a call that is refused is refused with another answer
abbrev pub RefusesPlainly : {A : Type 0} → Outcome A → Type 0
RefusesPlainly (Gives given after) = Unit {0}
RefusesPlainly (Refuses answer) = ComparesNone answer
RefusesPlainly (Waits holder) = Unit {0}

refusal_compares : (error : StateError) → ComparesNone (refusal_of error)
refusal_compares (errors.NoPrimary range) = tt
refusal_compares (errors.LastFresh mirror) = tt
refusal_compares (errors.NoMirrorId id) = tt
refusal_compares (errors.NoComponent id) = tt
refusal_compares errors.TooManyMirrors = tt
refusal_compares errors.TooManyComponents = tt
refusal_compares errors.NoMemory = tt

-- ---- files opened for a write or a truncate

module _ (client : ℕ) (range : Range) (step : ℕ) (m : MetaView) where
  open_by_holder : (f : File) (mirror : ℕ) (o : Option ℕ) → RefusesPlainly (opening.intends client range step m f mirror o)
  open_by_holder f mirror (Some holder) = tt
  open_by_holder f mirror None = tt

  open_by_primary : (f : File) (o : Option ℕ) → RefusesPlainly (opening.intends_to client range step m f o)
  open_by_primary f None = tt
  open_by_primary f (Some mirror) = open_by_holder f mirror (lowest_but client f.lock)

  open_by_ready : (f : File) (b : Bool) → RefusesPlainly (opening.readies client range step m f b)
  open_by_ready f true = tt
  open_by_ready f false = open_by_primary f (primary_of range f.layout.components)

  open_by : (name : List ℕ) (too_big : Bool) (o : Option File) → RefusesPlainly (opening.change_opens_file client range step m name too_big o)
  open_by name too_big None = tt
  open_by name true (Some f) = tt
  open_by name false (Some f) = open_by_ready f (is_ready f.layout range)

pub write_plain : (client : ℕ) (name : List ℕ) (range : Range) (step : ℕ) (m : MetaView) → RefusesPlainly (opening.write_opens client name range step m)
write_plain client name range step m = open_by client range step m name (nat_lt most_bytes range.end) (file_named name m.files)

pub cut_plain : (client : ℕ) (name : List ℕ) (size step : ℕ) (m : MetaView) → RefusesPlainly (opening.cut_opens client name size step m)
cut_plain client name size step m = open_by client (record { start = size; end = eof }) step m name (nat_lt most_bytes size) (file_named name m.files)

-- ---- commands of one step

module _ (name : List ℕ) (mirrors : List MirrorSpec) (m : MetaView) where
  make_by_room : (b : Bool) → RefusesPlainly (naming.creates_within name mirrors m b)
  make_by_room true = tt
  make_by_room false = tt

  make_by : (o : Option File) → RefusesPlainly (naming.creates_file name mirrors m o)
  make_by (Some f) = tt
  make_by None = make_by_room (is_full m.files)

  pub make_plain : RefusesPlainly (naming.creates name mirrors m)
  make_plain = make_by (file_named name m.files)

module _ (client id : ℕ) (change : FlagSets) (step : ℕ) (m : MetaView) where
  set_by_holder : (f : File) (o : Option ℕ) → RefusesPlainly (naming.sets_alone client id change step m f o)
  set_by_holder f (Some holder) = tt
  set_by_holder f None = tt

  set_by_refusal : (f : File) (o : Option StateError) → RefusesPlainly (naming.sets_on client id change step m f o)
  set_by_refusal f (Some error) = refusal_compares error
  set_by_refusal f None = set_by_holder f (lowest_but client f.lock)

  set_by : (name : List ℕ) (o : Option File) → RefusesPlainly (naming.sets_file client id change step m name o)
  set_by name None = tt
  set_by name (Some f) = set_by_refusal f (flags_refusal id change f.layout.components)

  pub set_plain : (name : List ℕ) → RefusesPlainly (naming.sets client name id change step m)
  set_plain name = set_by name (file_named name m.files)

module _ (client mirror step : ℕ) (m : MetaView) where
  go_by_holder : (f : File) (to : Option (List ℕ)) (o : Option ℕ) → RefusesPlainly (naming.removes_alone client mirror step m f to o)
  go_by_holder f to (Some holder) = tt
  go_by_holder f to None = tt

  split_by_room : (f : File) (to : List ℕ) (b : Bool) → RefusesPlainly (naming.splits_within client mirror step m f to b)
  split_by_room f to true = tt
  split_by_room f to false = go_by_holder f (Some to) (lowest_but client f.lock)

  split_by_name : (f : File) (to : List ℕ) (o : Option File) → RefusesPlainly (naming.splits_to client mirror step m f to o)
  split_by_name f to (Some other) = tt
  split_by_name f to None = split_by_room f to (is_full m.files)

  split_by_fresh : (f : File) (to : List ℕ) (b : Bool) → RefusesPlainly (naming.splits_fresh client mirror step m f to b)
  split_by_fresh f to false = tt
  split_by_fresh f to true = split_by_name f to (file_named to m.files)

  go_by_name : (f : File) (to : Option (List ℕ)) → RefusesPlainly (naming.removes_to client mirror step m f to)
  go_by_name f None = go_by_holder f None (lowest_but client f.lock)
  go_by_name f (Some to) = split_by_fresh f to (wholly_fresh mirror f.layout.components)

  go_by_refusal : (to : Option (List ℕ)) (f : File) (o : Option StateError) → RefusesPlainly (naming.removes_from client mirror step m to f o)
  go_by_refusal to f (Some error) = refusal_compares error
  go_by_refusal to f None = go_by_name f to

  go_by : (name : List ℕ) (to : Option (List ℕ)) (o : Option File) → RefusesPlainly (naming.removes_file client mirror step m name to o)
  go_by name to None = tt
  go_by name to (Some f) = go_by_refusal to f (keeping mirror f.layout.components)

  pub go_plain : (name : List ℕ) (to : Option (List ℕ)) → RefusesPlainly (naming.removes client name mirror to step m)
  go_plain name to = go_by name to (file_named name m.files)

-- ---- begins of copies

module _ (client : ℕ) (m : MetaView) where
  resync_by_holder : (f : File) (ids : List ℕ) (o : Option ℕ) → RefusesPlainly (begin.resync_alone client m f ids o)
  resync_by_holder f ids (Some holder) = tt
  resync_by_holder f ids None = tt

  resync_by_wanted : (f : File) (ids : List ℕ) (b : Bool) → RefusesPlainly (begin.resync_wanted client m f ids b)
  resync_by_wanted f ids true = tt
  resync_by_wanted f ids false = resync_by_holder f ids (lowest_but client f.lock)

  resync_by_lease : (only : Option (List ℕ)) (f : File) (o : Option ℕ) → RefusesPlainly (begin.resync_leased client m only f o)
  resync_by_lease only f (Some holder) = tt
  resync_by_lease only f None = let ids = selected_of only f.layout.components in resync_by_wanted f ids (length ids == 0)

  resync_by_mirror : (only : Option (List ℕ)) (f : File) (o : Option ℕ) → RefusesPlainly (begin.resync_begins client m only f o)
  resync_by_mirror only f (Some id) = tt
  resync_by_mirror only f None = resync_by_lease only f (holder_of m.leases f.number)

  extend_by_wanted : (f : File) (ids : List ℕ) (b : Bool) → RefusesPlainly (begin.extend_wanted client m f ids b)
  extend_by_wanted f ids true = tt
  extend_by_wanted f ids false = tt

  extend_by_holder : (mirrors : List MirrorSpec) (f : File) (o : Option ℕ) → RefusesPlainly (begin.extend_alone client m mirrors f o)
  extend_by_holder mirrors f (Some holder) = tt
  extend_by_holder mirrors f None =
      let layout = extended mirrors (length m.nexts) f.layout in
      let ids = selected_of (Some (new_ids mirrors f.layout)) layout.components in
      extend_by_wanted (record f { layout = layout }) ids (length ids == 0)

  extend_by_lease : (mirrors : List MirrorSpec) (f : File) (o : Option ℕ) → RefusesPlainly (begin.extend_leased client m mirrors f o)
  extend_by_lease mirrors f (Some holder) = tt
  extend_by_lease mirrors f None = extend_by_holder mirrors f (lowest_but client f.lock)

  extend_by_room : (mirrors : List MirrorSpec) (f : File) (o : Option StateError) → RefusesPlainly (begin.extend_begins client m mirrors f o)
  extend_by_room mirrors f (Some error) = refusal_compares error
  extend_by_room mirrors f None = extend_by_lease mirrors f (holder_of m.leases f.number)

  merge_by_holders : (f v : File) (o p : Option ℕ) → RefusesPlainly (begin.merge_alone client m f v o p)
  merge_by_holders f v (Some holder) p = tt
  merge_by_holders f v None (Some holder) = tt
  merge_by_holders f v None None = tt

  merge_by_bytes : (f v : File) (o p : Option ℕ) → RefusesPlainly (begin.merge_readable client m f v o p)
  merge_by_bytes f v (Some byte) p = tt
  merge_by_bytes f v None (Some byte) = tt
  merge_by_bytes f v None None = merge_by_holders f v (lowest_but client f.lock) (lowest_but client v.lock)

  merge_by_leases : (f v : File) (o p : Option ℕ) → RefusesPlainly (begin.merge_leased client m f v o p)
  merge_by_leases f v (Some holder) p = tt
  merge_by_leases f v None (Some holder) = tt
  merge_by_leases f v None None = merge_by_bytes f v (offline_byte f.layout) (offline_byte v.layout)

  merge_by_room : (f v : File) (o : Option StateError) → RefusesPlainly (begin.merge_fits client m f v o)
  merge_by_room f v (Some error) = refusal_compares error
  merge_by_room f v None = merge_by_leases f v (holder_of m.leases f.number) (holder_of m.leases v.number)

  merge_by_victim : (victim : List ℕ) (f : File) (o : Option File) → RefusesPlainly (begin.merge_begins client m victim f o)
  merge_by_victim victim f None = tt
  merge_by_victim victim f (Some v) = merge_by_room f v (excess f.layout (length (mirror_ids v.layout.components)) (length v.layout.components) m.most)

  begin_by : (f : File) (of : CopyWhat) → RefusesPlainly (begin.copy_begins_on client m f of)
  begin_by f (what.Resync only) = resync_by_mirror only f (absent_of only f.layout.components)
  begin_by f (what.Extend mirrors) = extend_by_room mirrors f (excess f.layout (length mirrors) (part_count mirrors) m.most)
  begin_by f (what.Victim victim) = merge_by_victim victim f (file_named victim m.files)

  begin_by_file : (name : List ℕ) (of : CopyWhat) (o : Option File) → RefusesPlainly (begin.copy_begins_file client m name of o)
  begin_by_file name of None = tt
  begin_by_file name of (Some f) = begin_by f of

  pub begin_plain : (name : List ℕ) (of : CopyWhat) → RefusesPlainly (begin.copy_begins client name of m)
  begin_plain name of = begin_by_file name of (file_named name m.files)
