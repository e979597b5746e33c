-- A command that begins is refused exactly for the first of its refusals.
use Rattle.std.proofs.Common.{◌≡◌, ℕ, Bool, true, false, not, ◌&&◌, ◌==◌, nat_lt, if◌then◌else◌, List, [], length, refl, ap}
use Rattle.std.specs.Prelude.{Option, Some, None, option_map, is_none, is_some}
use Rattle.std.specs.Option.{option_or}
use Rattle.flr_base.specs.declared.reply.ObjectId.{ObjectId}
use Rattle.flr_base.specs.declared.reply.Range.{Range}
use Rattle.flr_base.specs.declared.reply.Reply.{Reply}
use Rattle.flr_base.specs.declared.reply.Reply.TheVariants as reply
use Rattle.composite_layout.specs.Choices.{is_ready}
use Rattle.composite_layout.specs.declared.spec.MirrorSpec.{MirrorSpec}
use Rattle.composite_layout.specs.FlagChanges.{FlagSets}
use Rattle.composite_layout.specs.Layouts.{eof}
use Rattle.composite_layout.specs.LookUps.{mirror_ids, wholly_fresh}
use Rattle.composite_layout.specs.Making.{part_count}
use Rattle.layout_lease.specs.Leases.{holder_of}
use Rattle.layout_lease.specs.Shares.{lowest_but}
use Rattle.layout_state.specs.Choosing.{primary_of}
use Rattle.layout_state.specs.declared.error.StateError.{StateError}
use Rattle.layout_state.specs.Marking.{flags_refusal}
use Rattle.layout_state.specs.Mirroring.{excess, keeping}
use Rattle.layout_state.specs.Selecting.{absent_of, selected_of}
use Rattle.lfs_words.specs.declared.command.LfsCommand.{LfsCommand}
use Rattle.lfs_words.specs.declared.command.LfsCommand.TheVariants as lfs
use Rattle.lfs_words.specs.declared.command.SplitTo.{SplitTo}
use Rattle.lfs_words.specs.declared.command.SplitTo.TheVariants as split
use Rattle.script_values.specs.declared.command.Command.{Command}
use Rattle.script_values.specs.declared.command.Command.TheVariants as command
use Rattle.meta_server.specs.Beginning as begin
use Rattle.meta_server.specs.declared.answers.Begun.{Begun}
use Rattle.meta_server.specs.declared.answers.Begun.TheVariants as begun_as
use Rattle.meta_server.specs.declared.answers.CopyWhat.TheVariants as what
use Rattle.meta_server.specs.declared.answers.Opened.{Opened}
use Rattle.meta_server.specs.Files.{File, MetaView, file_named, is_full}
use Rattle.meta_server.specs.Layouts.{extended, new_ids, offline_byte}
use Rattle.meta_server.specs.Naming as naming
use Rattle.meta_server.specs.Opening as opening
use Rattle.meta_server.specs.Outcomes.{Gives, Refuses, Waits, refusal_of}
use Rattle.meta_server.specs.Outcomes as meta
use Rattle.call_steps.specs.Servers.{Servers}
use Rattle.call_steps.specs.Steps.{Outcome, Going, Fixed, Ended, Answered, Blocked, widen}
use Rattle.client_read.specs.Reads as read
use Rattle.client_read.specs.Views.{ReadView}
use Rattle.client_write.specs.Calls.{TruncateView, WriteView}
use Rattle.client_write.specs.Truncates as cut
use Rattle.client_write.specs.Writes as write
use Rattle.lfs_words.specs.Naming.{default_name}
use Rattle.mirror_admin.specs.OneStep.{answered, shows, splits}
use Rattle.mirror_admin.specs.Rotting.{is_kept, rot_reply, with_rot}
use Rattle.mirror_verify.specs.Verifies as verify
use Rattle.mirror_verify.specs.Views.{VerifyView}
use Rattle.resync_copy.specs.Calls.{CopyView}
use Rattle.resync_copy.specs.Copies.{new_copy}
use Rattle.resync_copy.specs.Steps.{begins, copy_step}
use Rattle.flr_steps.specs.declared.client.Running.{Running}
use Rattle.flr_steps.specs.declared.client.Running.TheVariants as running
use Rattle.flr_steps.specs.Clients.{call_now}
use Rattle.flr_steps.specs.Commands.{answered_by, step_of}
use Rattle.flr_base.specs.Limits.{most_bytes}
use Rattle.flr_claims.specs.Refusals.{IsSuccess, RefusedExactly, RefusesBy, RefusesNone, busy, change_refusal, delete_refusal, extend_refusal, flags_refused, make_refusal, merge_refusal, plain_refusal, read_refusal, refused_if, refusal_for, resync_refusal, split_refusal, split_to_refusal, victim_refusal}

-- ---- the metadata server

-- a call of the metadata server isn't refused
abbrev pub NotRefused : {A : Type 0} → meta.Outcome A → Type 0
NotRefused (Gives given after) = Unit {0}
NotRefused (Refuses answer) = ⊥
NotRefused (Waits holder) = Unit {0}

-- it is refused exactly so
abbrev pub ByMeta : {A : Type 0} → Option Reply → meta.Outcome A → Type 0
ByMeta (Some answer) o = o ≡ Refuses answer
ByMeta None o = NotRefused o

module _ (client : ℕ) (range : Range) (step : ℕ) (m : MetaView) where
  open_by_holder : (f : File) (mirror : ℕ) (o : Option ℕ) → NotRefused (opening.intends client range step m f mirror o)
  open_by_holder f mirror (Some holder) = tt
  open_by_holder f mirror None = tt

  open_by_primary : (f : File) (o : Option ℕ) → ByMeta (refused_if (is_none o) (reply.NoPrimary range)) (opening.intends_to client range step m f o)
  open_by_primary f None = refl
  open_by_primary f (Some mirror) = open_by_holder f mirror (lowest_but client f.lock)

  open_by_ready : (f : File) (b : Bool) → ByMeta (refused_if (not b && is_none (primary_of range f.layout.components)) (reply.NoPrimary range)) (opening.readies client range step m f b)
  open_by_ready f true = tt
  open_by_ready f false = open_by_primary f (primary_of range f.layout.components)

  pub open_by : (name : List ℕ) (too_big : Bool) (o : Option File) → ByMeta (change_refusal name range too_big o) (opening.change_opens_file client range step m name too_big o)
  open_by name too_big None = refl
  open_by name true (Some f) = refl
  open_by name false (Some f) = open_by_ready f (is_ready f.layout range)

module _ (client id : ℕ) (change : FlagSets) (step : ℕ) (m : MetaView) where
  set_by_holder : (f : File) (o : Option ℕ) → NotRefused (naming.sets_alone client id change step m f o)
  set_by_holder f (Some holder) = tt
  set_by_holder f None = tt

  set_by_refusal : (f : File) (o : Option StateError) → ByMeta (option_map refusal_of o) (naming.sets_on client id change step m f o)
  set_by_refusal f (Some error) = refl
  set_by_refusal f None = set_by_holder f (lowest_but client f.lock)

  pub set_by : (name : List ℕ) (o : Option File) → ByMeta (flags_refused name id change o) (naming.sets_file client id change step m name o)
  set_by name None = refl
  set_by name (Some f) = set_by_refusal f (flags_refusal id change f.layout.components)

module _ (client mirror step : ℕ) (m : MetaView) where
  go_by_holder : (f : File) (to : Option (List ℕ)) (o : Option ℕ) → NotRefused (naming.removes_alone client mirror step m f to o)
  go_by_holder f to (Some holder) = tt
  go_by_holder f to None = tt

  delete_by_refusal : (f : File) (o : Option StateError) → ByMeta (option_map refusal_of o) (naming.removes_from client mirror step m None f o)
  delete_by_refusal f (Some error) = refl
  delete_by_refusal f None = go_by_holder f None (lowest_but client f.lock)

  pub delete_by : (name : List ℕ) (o : Option File) → ByMeta (delete_refusal name mirror o) (naming.removes_file client mirror step m name None o)
  delete_by name None = refl
  delete_by name (Some f) = delete_by_refusal f (keeping mirror f.layout.components)

  split_by_room : (f : File) (to : List ℕ) (b : Bool) → ByMeta (refused_if b reply.TooManyFiles) (naming.splits_within client mirror step m f to b)
  split_by_room f to true = refl
  split_by_room f to false = go_by_holder f (Some to) (lowest_but client f.lock)

  split_by_name : (f : File) (to : List ℕ) (o : Option File) → ByMeta (option_or (refused_if (is_some o) (reply.Exists to)) (refused_if (is_full m.files) reply.TooManyFiles)) (naming.splits_to client mirror step m f to o)
  split_by_name f to (Some other) = refl
  split_by_name f to None = split_by_room f to (is_full m.files)

  split_by_fresh : (f : File) (to : List ℕ) (b : Bool) → ByMeta (option_or (refused_if (not b) (reply.StaleMirror mirror)) (option_or (refused_if (is_some (file_named to m.files)) (reply.Exists to)) (refused_if (is_full m.files) reply.TooManyFiles)))
      (naming.splits_fresh client mirror step m f to b)
  split_by_fresh f to false = refl
  split_by_fresh f to true = split_by_name f to (file_named to m.files)

  split_by_refusal : (f : File) (to : List ℕ) (o : Option StateError)
      → ByMeta (option_or (option_map refusal_of o) (option_or (refused_if (not (wholly_fresh mirror f.layout.components)) (reply.StaleMirror mirror)) (option_or (refused_if (is_some (file_named to m.files)) (reply.Exists to)) (refused_if (is_full m.files) reply.TooManyFiles))))
      (naming.removes_from client mirror step m (Some to) f o)
  split_by_refusal f to (Some error) = refl
  split_by_refusal f to None = split_by_fresh f to (wholly_fresh mirror f.layout.components)

  pub split_by : (name to : List ℕ) (o : Option File) → ByMeta (split_refusal name mirror to m.files o) (naming.removes_file client mirror step m name (Some to) o)
  split_by name to None = refl
  split_by name to (Some f) = split_by_refusal f to (keeping mirror f.layout.components)

module _ (name : List ℕ) (mirrors : List MirrorSpec) (m : MetaView) where
  make_by_room : (b : Bool) → ByMeta (refused_if b reply.TooManyFiles) (naming.creates_within name mirrors m b)
  make_by_room true = refl
  make_by_room false = tt

  pub make_by : (o : Option File) → ByMeta (make_refusal name m.files o) (naming.creates_file name mirrors m o)
  make_by (Some f) = refl
  make_by None = make_by_room (is_full m.files)

module _ (client : ℕ) (m : MetaView) where
  resync_by_holder : (f : File) (ids : List ℕ) (o : Option ℕ) → NotRefused (begin.resync_alone client m f ids o)
  resync_by_holder f ids (Some holder) = tt
  resync_by_holder f ids None = tt

  resync_by_wanted : (f : File) (ids : List ℕ) (b : Bool) → NotRefused (begin.resync_wanted client m f ids b)
  resync_by_wanted f ids true = tt
  resync_by_wanted f ids false = resync_by_holder f ids (lowest_but client f.lock)

  resync_by_lease : (only : Option (List ℕ)) (f : File) (o : Option ℕ) → ByMeta (option_map reply.Busy o) (begin.resync_leased client m only f o)
  resync_by_lease only f (Some holder) = refl
  resync_by_lease only f None = let ids = selected_of only f.layout.components in resync_by_wanted f ids (length ids == 0)

  resync_by_mirror : (only : Option (List ℕ)) (f : File) (o : Option ℕ) → ByMeta (option_or (option_map reply.NoMirrorId o) (busy m f)) (begin.resync_begins client m only f o)
  resync_by_mirror only f (Some id) = refl
  resync_by_mirror only f None = resync_by_lease only f (holder_of m.leases f.number)

  pub resync_by : (name : List ℕ) (only : Option (List ℕ)) (o : Option File) → ByMeta (resync_refusal name only m o) (begin.copy_begins_file client m name (what.Resync only) o)
  resync_by name only None = refl
  resync_by name only (Some f) = resync_by_mirror only f (absent_of only f.layout.components)

  extend_by_wanted : (f : File) (ids : List ℕ) (b : Bool) → NotRefused (begin.extend_wanted client m f ids b)
  extend_by_wanted f ids true = tt
  extend_by_wanted f ids false = tt

  extend_by_holder : (mirrors : List MirrorSpec) (f : File) (o : Option ℕ) → NotRefused (begin.extend_alone client m mirrors f o)
  extend_by_holder mirrors f (Some holder) = tt
  extend_by_holder mirrors f None =
      let layout = extended mirrors (length m.nexts) f.layout in
      let ids = selected_of (Some (new_ids mirrors f.layout)) layout.components in
      extend_by_wanted (record f { layout = layout }) ids (length ids == 0)

  extend_by_lease : (mirrors : List MirrorSpec) (f : File) (o : Option ℕ) → ByMeta (option_map reply.Busy o) (begin.extend_leased client m mirrors f o)
  extend_by_lease mirrors f (Some holder) = refl
  extend_by_lease mirrors f None = extend_by_holder mirrors f (lowest_but client f.lock)

  extend_by_room : (mirrors : List MirrorSpec) (f : File) (o : Option StateError) → ByMeta (option_or (option_map refusal_of o) (busy m f)) (begin.extend_begins client m mirrors f o)
  extend_by_room mirrors f (Some error) = refl
  extend_by_room mirrors f None = extend_by_lease mirrors f (holder_of m.leases f.number)

  pub extend_by : (name : List ℕ) (mirrors : List MirrorSpec) (o : Option File) → ByMeta (extend_refusal name mirrors m o) (begin.copy_begins_file client m name (what.Extend mirrors) o)
  extend_by name mirrors None = refl
  extend_by name mirrors (Some f) = extend_by_room mirrors f (excess f.layout (length mirrors) (part_count mirrors) m.most)

  merge_by_holders : (f v : File) (o p : Option ℕ) → NotRefused (begin.merge_alone client m f v o p)
  merge_by_holders f v (Some holder) p = tt
  merge_by_holders f v None (Some holder) = tt
  merge_by_holders f v None None = tt

  merge_by_bytes : (f v : File) (o p : Option ℕ) → ByMeta (option_or (option_map reply.AllOffline o) (option_map reply.AllOffline p)) (begin.merge_readable client m f v o p)
  merge_by_bytes f v (Some byte) p = refl
  merge_by_bytes f v None (Some byte) = refl
  merge_by_bytes f v None None = merge_by_holders f v (lowest_but client f.lock) (lowest_but client v.lock)

  merge_by_leases : (f v : File) (o p : Option ℕ)
      → ByMeta (option_or (option_map reply.Busy o) (option_or (option_map reply.Busy p) (option_or (option_map reply.AllOffline (offline_byte f.layout)) (option_map reply.AllOffline (offline_byte v.layout))))) (begin.merge_leased client m f v o p)
  merge_by_leases f v (Some holder) p = refl
  merge_by_leases f v None (Some holder) = refl
  merge_by_leases f v None None = merge_by_bytes f v (offline_byte f.layout) (offline_byte v.layout)

  merge_by_room : (f v : File) (o : Option StateError)
      → ByMeta (option_or (option_map refusal_of o) (option_or (busy m f) (option_or (busy m v) (option_or (option_map reply.AllOffline (offline_byte f.layout)) (option_map reply.AllOffline (offline_byte v.layout)))))) (begin.merge_fits client m f v o)
  merge_by_room f v (Some error) = refl
  merge_by_room f v None = merge_by_leases f v (holder_of m.leases f.number) (holder_of m.leases v.number)

  merge_by_victim : (victim : List ℕ) (f : File) (o : Option File) → ByMeta (victim_refusal victim m f o) (begin.merge_begins client m victim f o)
  merge_by_victim victim f None = refl
  merge_by_victim victim f (Some v) = merge_by_room f v (excess f.layout (length (mirror_ids v.layout.components)) (length v.layout.components) m.most)

  pub merge_by : (name victim : List ℕ) (o : Option File) → ByMeta (merge_refusal name victim m o) (begin.copy_begins_file client m name (what.Victim victim) o)
  merge_by name victim None = refl
  merge_by name victim (Some f) = merge_by_victim victim f (file_named victim m.files)

-- ---- steps of calls

none_widen : {C D : Type 0} (f : C → D) (o : Outcome C) → RefusesNone o → RefusesNone (widen f o)
none_widen f (Going next after) h = h
none_widen f (Fixed next answer takes after) h = h
none_widen f (Ended after) h = h
none_widen f (Answered answer takes after) h = h
none_widen f (Blocked holder) h = h

by_widen : {C D : Type 0} (f : C → D) (s : Servers) (r : Option Reply) (o : Outcome C) → RefusesBy s r o → RefusesBy s r (widen f o)
by_widen f s (Some answer) o h = ap (λ x. widen f x) h
by_widen f s None o h = none_widen f o h

module _ (s : Servers) where
  by_write : (w : WriteView) (r : Option Reply) (o : meta.Outcome Opened) → ByMeta r o → RefusesBy s r (write.opens w s o)
  by_write w (Some answer) o h = ap (λ x. write.opens w s x) h
  by_write w None (Gives given after) h = tt
  by_write w None (Refuses answer) h = absurd h
  by_write w None (Waits holder) h = tt

  by_cut : (t : TruncateView) (r : Option Reply) (o : meta.Outcome Opened) → ByMeta r o → RefusesBy s r (cut.opens_cut t s o)
  by_cut t (Some answer) o h = ap (λ x. cut.opens_cut t s x) h
  by_cut t None (Gives given after) h = tt
  by_cut t None (Refuses answer) h = absurd h
  by_cut t None (Waits holder) h = tt

  by_copy : (k : CopyView) (r : Option Reply) (o : meta.Outcome Begun) → ByMeta r o → RefusesBy s r (begins k s o)
  by_copy k (Some answer) o h = ap (λ x. begins k s x) h
  by_copy k None (Gives begun_as.Nothing after) h = tt
  by_copy k None (Gives (begun_as.Copy side ids) after) h = tt
  by_copy k None (Gives (begun_as.Merge ours theirs) after) h = tt
  by_copy k None (Refuses answer) h = absurd h
  by_copy k None (Waits holder) h = tt

  by_answer : (success : Reply) → IsSuccess success → (r : Option Reply) (o : meta.Outcome (Unit {0})) → ByMeta r o → RefusesBy s r (answered_by s (answered success o))
  by_answer success fine (Some answer) o h = ap (λ x. answered_by s (answered success x)) h
  by_answer success fine None (Gives given after) h = fine
  by_answer success fine None (Refuses answer) h = absurd h
  by_answer success fine None (Waits holder) h = tt

  by_shown : (name : List ℕ) (o : Option File) → RefusesBy s (plain_refusal name o) (answered_by s (shows name s.meta o))
  by_shown name None = refl
  by_shown name (Some f) = tt

  by_byte : (r : ReadView) (f : File) (o : Option ℕ) → RefusesBy s (option_map reply.AllOffline o) (read.shares_file r s f o)
  by_byte r f (Some byte) = refl
  by_byte r f None = tt

  by_read : (r : ReadView) (o : Option File) → RefusesBy s (read_refusal r.name r.range o) (read.opens_file r s o)
  by_read r None = refl
  by_read r (Some f) = by_byte r f (read.unanswered f.layout r.range [])

  by_verify : (v : VerifyView) (o : Option File) → RefusesBy s (plain_refusal v.name o) (verify.opens_file v s o)
  by_verify v None = refl
  by_verify v (Some f) = tt

  by_kept : (object : ObjectId) (offset byte : ℕ) (b : Bool)
      → RefusesBy {C = Running} s (refused_if (not b) reply.NoObject) (Answered (rot_reply b) [] (record s { targets = if b then with_rot object offset byte s.targets else s.targets }))
  by_kept object offset byte true = tt
  by_kept object offset byte false = refl

-- ---- each command

module _ (c place : ℕ) (s : Servers) where
  abbrev Refused : Command → Type 0
  Refused asked = RefusesBy s (refusal_for asked s) (step_of (call_now c running.Idle asked) c asked place s)

  by_split : (name : List ℕ) (mirror : ℕ) (to : SplitTo) → RefusesBy s (split_to_refusal name mirror to s.meta.files) (answered_by s (splits c place s.meta name mirror to))
  by_split name mirror split.Default =
      let new = default_name name mirror in
      let o = file_named name s.meta.files in
      by_answer s (reply.Split new) tt (split_refusal name mirror new s.meta.files o) (naming.removes c name mirror (Some new) place s.meta) (split_by c mirror place s.meta name new o)
  by_split name mirror (split.Named new) =
      let o = file_named name s.meta.files in
      by_answer s (reply.Split new) tt (split_refusal name mirror new s.meta.files o) (naming.removes c name mirror (Some new) place s.meta) (split_by c mirror place s.meta name new o)
  by_split name mirror split.Destroy =
      let o = file_named name s.meta.files in
      by_answer s (reply.Removed mirror) tt (delete_refusal name mirror o) (naming.removes c name mirror None place s.meta) (delete_by c mirror place s.meta name o)

  by_lfs : (of : LfsCommand) → Refused (command.Lfs of)
  by_lfs (lfs.SetStripe name spec) = let o = file_named name s.meta.files in by_answer s reply.Created tt (make_refusal name s.meta.files o) (naming.creates name spec s.meta) (make_by name spec s.meta o)
  by_lfs (lfs.Create name spec) = let o = file_named name s.meta.files in by_answer s reply.Created tt (make_refusal name s.meta.files o) (naming.creates name spec s.meta) (make_by name spec s.meta o)
  by_lfs (lfs.GetStripe name) = by_shown s name (file_named name s.meta.files)
  by_lfs (lfs.CompSet name id change) =
      let o = file_named name s.meta.files in by_answer s reply.Set tt (flags_refused name id change o) (naming.sets c name id change place s.meta) (set_by c id change place s.meta name o)
  by_lfs (lfs.Split name mirror to) = by_split name mirror to
  by_lfs (lfs.Delete name mirror) =
      let o = file_named name s.meta.files in
      by_answer s (reply.Removed mirror) tt (delete_refusal name mirror o) (naming.removes c name mirror None place s.meta) (delete_by c mirror place s.meta name o)
  by_lfs (lfs.Resync name only) =
      let k = new_copy c name (what.Resync only) in
      let o = file_named name s.meta.files in
      by_widen running.Copy s (resync_refusal name only s.meta o) (copy_step k place s)
      (by_copy s k (resync_refusal name only s.meta o) (begin.copy_begins c name (what.Resync only) s.meta) (resync_by c s.meta name only o))
  by_lfs (lfs.Extend name spec) =
      let k = new_copy c name (what.Extend spec) in
      let o = file_named name s.meta.files in
      by_widen running.Copy s (extend_refusal name spec s.meta o) (copy_step k place s)
      (by_copy s k (extend_refusal name spec s.meta o) (begin.copy_begins c name (what.Extend spec) s.meta) (extend_by c s.meta name spec o))
  by_lfs (lfs.ExtendBy name victim) =
      let k = new_copy c name (what.Victim victim) in
      let o = file_named name s.meta.files in
      by_widen running.Copy s (merge_refusal name victim s.meta o) (copy_step k place s)
      (by_copy s k (merge_refusal name victim s.meta o) (begin.copy_begins c name (what.Victim victim) s.meta) (merge_by c s.meta name victim o))
  by_lfs (lfs.Verify name) =
      let v = verify.new_verify c name in
      let o = file_named name s.meta.files in
      by_widen running.Verify s (plain_refusal name o) (verify.verify_step v place s) (by_verify s v o)

  refused : (asked : Command) → Refused asked
  refused (command.Read name offset len) =
      let r = read.new_read c name offset len in
      let o = file_named name s.meta.files in
      by_widen running.Read s (read_refusal name r.range o) (read.read_step r place s) (by_read s r o)
  refused (command.Write name offset bytes) =
      let w = write.new_write c name offset bytes in
      let range = write.range_of w in
      let o = file_named name s.meta.files in
      let r = change_refusal name range (nat_lt most_bytes range.end) o in
      by_widen running.Write s r (write.write_step w place s) (by_write s w r (opening.write_opens c name range place s.meta) (open_by c range place s.meta name (nat_lt most_bytes range.end) o))
  refused (command.Truncate name size) =
      let t = cut.new_truncate c name size in
      let range : Range = record { start = size; end = eof } in
      let o = file_named name s.meta.files in
      let r = change_refusal name range (nat_lt most_bytes size) o in
      by_widen running.Truncate s r (cut.truncate_step t place s) (by_cut s t r (opening.cut_opens c name size place s.meta) (open_by c range place s.meta name (nat_lt most_bytes size) o))
  refused (command.Lfs of) = by_lfs of
  refused (command.Evict other) = tt
  refused (command.Rot object offset byte) = by_kept s object offset byte (is_kept object s.targets)

pub refused_exactly : RefusedExactly
refused_exactly c place s asked = refused c place s asked
