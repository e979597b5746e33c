-- What a call may leave, case by case: what holds of the server in each of them holds after the call.
use Rattle.std.proofs.Common.{◌≡◌, ℕ, ◌==◌, Bool, true, false, Option, Some, None, List, [], length, refl}
use Rattle.flr_base.specs.declared.reply.Range.{Range}
use Rattle.composite_layout.specs.declared.spec.MirrorSpec.{MirrorSpec}
use Rattle.composite_layout.specs.Choices.{is_ready}
use Rattle.composite_layout.specs.FlagChanges.{FlagSets}
use Rattle.composite_layout.specs.LookUps.{mirror_ids, wholly_fresh}
use Rattle.composite_layout.specs.Making.{new_layout, part_count}
use Rattle.layout_lease.specs.declared.lease.KeyState.{KeyState}
use Rattle.layout_lease.specs.declared.lease.KeyState.TheVariants.{Held, Broken}
use Rattle.layout_lease.specs.Leases.{KeyView, holder_of, state_of}
use Rattle.layout_lease.specs.Shares.{lowest_but}
use Rattle.layout_state.specs.declared.error.StateError.{StateError}
use Rattle.layout_state.specs.Choosing.{primary_of}
use Rattle.layout_state.specs.Marking.{flags_refusal}
use Rattle.layout_state.specs.Mirroring.{excess, keeping}
use Rattle.layout_state.specs.Selecting.{absent_of, selected_of}
use Rattle.meta_server.specs.declared.answers.CopyWhat.{CopyWhat}
use Rattle.meta_server.specs.declared.answers.CopyWhat.TheVariants.{Resync, Extend, Victim}
use Rattle.meta_server.specs.Beginning.{copy_begins, copy_begins_file, copy_begins_on, extend_alone, extend_begins, extend_leased, extend_wanted, merge_alone, merge_begins, merge_fits, merge_leased, merge_readable, resync_alone, resync_begins, resync_leased, resync_wanted, with_begin}
use Rattle.meta_server.specs.Ending.{both_given, copy_ends, copy_ends_alone, copy_ends_by, copy_ends_file, merge_ends, merge_ends_alone, merge_ends_by, merge_ends_files, with_done, with_merge}
use Rattle.meta_server.specs.Files.{File, MetaView, file_named, file_of, is_full, with_break, with_change, with_file, with_given, with_layout, with_share}
use Rattle.meta_server.specs.Layouts.{extended, flagged, lessened, new_ids, offline_byte, split_off}
use Rattle.meta_server.specs.Naming.{creates, creates_file, creates_within, removes, removes_alone, removes_file, removes_from, removes_to, sets, sets_alone, sets_file, sets_on, splits_fresh, splits_to, splits_within}
use Rattle.meta_server.specs.Opening.{change_opens_file, intends, intends_to, limits, read_opens, read_opens_file, readies, with_intent}
use Rattle.meta_laws.specs.Calls.{left_at, left_by}

-- ---- opens

-- a read opens a file: nothing happens, or the client shares its lock
pub record ReadCases (P : MetaView → Type 0) (client : ℕ) (name : List ℕ) (m : MetaView) : Type 0 where
  pub same : P m
  pub shared : (f : File) → file_named name m.files ≡ Some f → P (with_change f.number (with_share client) m)

pub read_cases : (P : MetaView → Type 0) (client : ℕ) (name : List ℕ) (m : MetaView) → ReadCases P client name m → P (left_by (read_opens client name m) m)
read_cases P client name m h = by (file_named name m.files) refl
  where
    by : (o : Option File) → file_named name m.files ≡ o → P (left_by (read_opens_file client name m o) m)
    by None e = h.same
    by (Some f) e = h.shared f e

-- a write or a truncate opens a file: besides, an intent may come first
pub record OpenCases (P : MetaView → Type 0) (client : ℕ) (name : List ℕ) (range : Range) (step : ℕ) (m : MetaView) : Type 0 where
  pub same : P m
  pub shared : (f : File) → file_named name m.files ≡ Some f → P (with_change f.number (with_share client) m)
  pub intended : (f : File) (mirror : ℕ) → file_named name m.files ≡ Some f → primary_of range f.layout.components ≡ Some mirror → P (with_change f.number (with_share client) (with_intent range mirror step f m))

module _ (P : MetaView → Type 0) (client : ℕ) (name : List ℕ) (range : Range) (step : ℕ) (m : MetaView) (h : OpenCases P client name range step m) where
  intends_by : (f : File) (mirror : ℕ) (o : Option ℕ) → file_named name m.files ≡ Some f → primary_of range f.layout.components ≡ Some mirror → P (left_by (intends client range step m f mirror o) m)
  intends_by f mirror (Some holder) e primary = h.same
  intends_by f mirror None e primary = h.intended f mirror e primary

  intends_to_by : (f : File) (o : Option ℕ) → file_named name m.files ≡ Some f → primary_of range f.layout.components ≡ o → P (left_by (intends_to client range step m f o) m)
  intends_to_by f None e primary = h.same
  intends_to_by f (Some mirror) e primary = intends_by f mirror (lowest_but client f.lock) e primary

  readies_by : (f : File) (b : Bool) → file_named name m.files ≡ Some f → P (left_by (readies client range step m f b) m)
  readies_by f true e = h.shared f e
  readies_by f false e = intends_to_by f (primary_of range f.layout.components) e refl

  limits_by : (f : File) (b : Bool) → file_named name m.files ≡ Some f → P (left_by (limits client range step m f b) m)
  limits_by f true e = h.same
  limits_by f false e = readies_by f (is_ready f.layout range) e

  open_by : (b : Bool) (o : Option File) → file_named name m.files ≡ o → P (left_by (change_opens_file client range step m name b o) m)
  open_by b None e = h.same
  open_by b (Some f) e = limits_by f b e

  pub open_cases : (b : Bool) → P (left_by (change_opens_file client range step m name b (file_named name m.files)) m)
  open_cases b = open_by b (file_named name m.files) refl

-- ---- copies begin

-- nothing happens; or a copy begins on a file without a lease, or mirrors are added to it, and a copy may begin with them; or the leases of two files are taken, one after the other
pub record BeginCases (P : MetaView → Type 0) (client : ℕ) (name : List ℕ) (what : CopyWhat) (m : MetaView) : Type 0 where
  pub same : P m
  pub begins : (ids : List ℕ) (f : File) → file_named name m.files ≡ Some f → holder_of m.leases f.number ≡ None → P (with_begin client ids f m)
  pub adds : (mirrors : List MirrorSpec) (f : File) → what ≡ Extend mirrors → file_named name m.files ≡ Some f → holder_of m.leases f.number ≡ None → excess f.layout (length mirrors) (part_count mirrors) m.most ≡ None
      → P (with_change f.number (with_layout (extended mirrors (length m.nexts) f.layout)) m)
  pub extends : (mirrors : List MirrorSpec) (ids : List ℕ) (f : File) → what ≡ Extend mirrors → file_named name m.files ≡ Some f → holder_of m.leases f.number ≡ None → excess f.layout (length mirrors) (part_count mirrors) m.most ≡ None
      → P (with_begin client ids (with_layout (extended mirrors (length m.nexts) f.layout) f) m)
  pub both : (victim : List ℕ) (f v : File) → what ≡ Victim victim → file_named name m.files ≡ Some f → file_named victim m.files ≡ Some v → holder_of m.leases f.number ≡ None → holder_of m.leases v.number ≡ None
      → P (with_begin client [] v (with_begin client [] f m))

module _ (P : MetaView → Type 0) (client : ℕ) (name : List ℕ) (what : CopyWhat) (m : MetaView) (h : BeginCases P client name what m) where
  module _ (f : File) (there : file_named name m.files ≡ Some f) where
    resync_alone_by : (ids : List ℕ) (o : Option ℕ) → holder_of m.leases f.number ≡ None → P (left_by (resync_alone client m f ids o) m)
    resync_alone_by ids (Some holder) free = h.same
    resync_alone_by ids None free = h.begins ids f there free

    resync_wanted_by : (ids : List ℕ) (b : Bool) → holder_of m.leases f.number ≡ None → P (left_by (resync_wanted client m f ids b) m)
    resync_wanted_by ids true free = h.same
    resync_wanted_by ids false free = resync_alone_by ids (lowest_but client f.lock) free

    resync_leased_by : (only : Option (List ℕ)) (o : Option ℕ) → holder_of m.leases f.number ≡ o → P (left_by (resync_leased client m only f o) m)
    resync_leased_by only (Some holder) e = h.same
    resync_leased_by only None e = let ids = selected_of only f.layout.components in resync_wanted_by ids (length ids == 0) e

    resync_by : (only : Option (List ℕ)) (o : Option ℕ) → P (left_by (resync_begins client m only f o) m)
    resync_by only (Some id) = h.same
    resync_by only None = resync_leased_by only (holder_of m.leases f.number) refl

    module _ (mirrors : List MirrorSpec) (is : what ≡ Extend mirrors) (within : excess f.layout (length mirrors) (part_count mirrors) m.most ≡ None) where
      extend_wanted_by : (ids : List ℕ) (b : Bool) → holder_of m.leases f.number ≡ None → P (left_by (extend_wanted client m (with_layout (extended mirrors (length m.nexts) f.layout) f) ids b) m)
      extend_wanted_by ids true free = h.adds mirrors f is there free within
      extend_wanted_by ids false free = h.extends mirrors ids f is there free within

      extend_alone_by : (o : Option ℕ) → holder_of m.leases f.number ≡ None → P (left_by (extend_alone client m mirrors f o) m)
      extend_alone_by (Some holder) free = h.same
      extend_alone_by None free =
          let ids : List ℕ = selected_of (Some (new_ids mirrors f.layout)) (extended mirrors (length m.nexts) f.layout).components in
          extend_wanted_by ids (length ids == 0) free

      extend_leased_by : (o : Option ℕ) → holder_of m.leases f.number ≡ o → P (left_by (extend_leased client m mirrors f o) m)
      extend_leased_by (Some holder) e = h.same
      extend_leased_by None e = extend_alone_by (lowest_but client f.lock) e

    extend_by : (mirrors : List MirrorSpec) (o : Option StateError) → what ≡ Extend mirrors → excess f.layout (length mirrors) (part_count mirrors) m.most ≡ o → P (left_by (extend_begins client m mirrors f o) m)
    extend_by mirrors (Some error) is e = h.same
    extend_by mirrors None is e = extend_leased_by mirrors is e (holder_of m.leases f.number) refl

    module _ (victim : List ℕ) (is : what ≡ Victim victim) (v : File) (beside : file_named victim m.files ≡ Some v) where
      merge_alone_by : (a b : Option ℕ) → holder_of m.leases f.number ≡ None → holder_of m.leases v.number ≡ None → P (left_by (merge_alone client m f v a b) m)
      merge_alone_by (Some holder) b free free_too = h.same
      merge_alone_by None (Some holder) free free_too = h.same
      merge_alone_by None None free free_too = h.both victim f v is there beside free free_too

      merge_readable_by : (a b : Option ℕ) → holder_of m.leases f.number ≡ None → holder_of m.leases v.number ≡ None → P (left_by (merge_readable client m f v a b) m)
      merge_readable_by (Some byte) b free free_too = h.same
      merge_readable_by None (Some byte) free free_too = h.same
      merge_readable_by None None free free_too = merge_alone_by (lowest_but client f.lock) (lowest_but client v.lock) free free_too

      merge_leased_by : (a b : Option ℕ) → holder_of m.leases f.number ≡ a → holder_of m.leases v.number ≡ b → P (left_by (merge_leased client m f v a b) m)
      merge_leased_by (Some holder) b free free_too = h.same
      merge_leased_by None (Some holder) free free_too = h.same
      merge_leased_by None None free free_too = merge_readable_by (offline_byte f.layout) (offline_byte v.layout) free free_too

      merge_fits_by : (o : Option StateError) → P (left_by (merge_fits client m f v o) m)
      merge_fits_by (Some error) = h.same
      merge_fits_by None = merge_leased_by (holder_of m.leases f.number) (holder_of m.leases v.number) refl refl

    merge_by : (victim : List ℕ) (o : Option File) → what ≡ Victim victim → file_named victim m.files ≡ o → P (left_by (merge_begins client m victim f o) m)
    merge_by victim None is e = h.same
    merge_by victim (Some v) is e = merge_fits_by victim is v e (excess f.layout (length (mirror_ids v.layout.components)) (length v.layout.components) m.most)

    begin_on : (w : CopyWhat) → what ≡ w → P (left_by (copy_begins_on client m f w) m)
    begin_on (Resync only) is = resync_by only (absent_of only f.layout.components)
    begin_on (Extend mirrors) is = extend_by mirrors (excess f.layout (length mirrors) (part_count mirrors) m.most) is refl
    begin_on (Victim victim) is = merge_by victim (file_named victim m.files) is refl

  begin_by : (o : Option File) → file_named name m.files ≡ o → P (left_by (copy_begins_file client m name what o) m)
  begin_by None e = h.same
  begin_by (Some f) e = begin_on f e what refl

  pub begin_cases : P (left_by (copy_begins client name what m) m)
  begin_cases = begin_by (file_named name m.files) refl

-- ---- copies end

-- nothing happens, or the key is given back, where a copy is done with its change
pub record EndCases (P : MetaView → Type 0) (key : KeyView) (cleared : List ℕ) (m : MetaView) : Type 0 where
  pub same : P m
  pub given : P (with_given key m)
  pub done : (f : File) → state_of m.leases key ≡ Held → file_of key.file m.files ≡ Some f → P (with_done key cleared f m)

pub end_cases : (P : MetaView → Type 0) (key : KeyView) (cleared : List ℕ) (m : MetaView) → EndCases P key cleared m → P (left_at (copy_ends key cleared m) m)
end_cases P key cleared m h = by (state_of m.leases key) refl
  where
    alone : (f : File) (o : Option ℕ) → state_of m.leases key ≡ Held → file_of key.file m.files ≡ Some f → P (left_at (copy_ends_alone key cleared m f o) m)
    alone f (Some holder) held e = h.same
    alone f None held e = h.done f held e

    on : (o : Option File) → state_of m.leases key ≡ Held → file_of key.file m.files ≡ o → P (left_at (copy_ends_file key cleared m o) m)
    on None held e = h.given
    on (Some f) held e = alone f (lowest_but key.client f.lock) held e

    by : (s : KeyState) → state_of m.leases key ≡ s → P (left_at (copy_ends_by key cleared m s) m)
    by (Broken step) held = h.given
    by Held held = on (file_of key.file m.files) held refl

-- nothing happens, or both keys are given back, where a file is taken in with that
pub record MergeCases (P : MetaView → Type 0) (ours theirs : KeyView) (m : MetaView) : Type 0 where
  pub same : P m
  pub given : P (both_given ours theirs m)
  pub merges : (f v : File) → state_of m.leases ours ≡ Held → state_of m.leases theirs ≡ Held → file_of ours.file m.files ≡ Some f → file_of theirs.file m.files ≡ Some v → P (with_merge ours theirs m f v)

pub merge_cases : (P : MetaView → Type 0) (ours theirs : KeyView) (m : MetaView) → MergeCases P ours theirs m → P (left_at (merge_ends ours theirs m) m)
merge_cases P ours theirs m h = by (state_of m.leases ours) (state_of m.leases theirs) refl refl
  where
    alone : (f v : File) (a b : Option ℕ) → state_of m.leases ours ≡ Held → state_of m.leases theirs ≡ Held → file_of ours.file m.files ≡ Some f → file_of theirs.file m.files ≡ Some v → P (left_at (merge_ends_alone ours theirs m f v a b) m)
    alone f v (Some holder) b held held_too e k = h.same
    alone f v None (Some holder) held held_too e k = h.same
    alone f v None None held held_too e k = h.merges f v held held_too e k

    on : (o p : Option File) → state_of m.leases ours ≡ Held → state_of m.leases theirs ≡ Held → file_of ours.file m.files ≡ o → file_of theirs.file m.files ≡ p → P (left_at (merge_ends_files ours theirs m o p) m)
    on None p held held_too e k = h.given
    on (Some f) None held held_too e k = h.given
    on (Some f) (Some v) held held_too e k = alone f v (lowest_but ours.client f.lock) (lowest_but ours.client v.lock) held held_too e k

    by : (s t : KeyState) → state_of m.leases ours ≡ s → state_of m.leases theirs ≡ t → P (left_at (merge_ends_by ours theirs m s t) m)
    by (Broken step) t e k = h.given
    by Held (Broken step) e k = h.given
    by Held Held e k = on (file_of ours.file m.files) (file_of theirs.file m.files) e k refl refl

-- ---- commands of one step

-- nothing happens, or a file of this name comes
pub record CreateCases (P : MetaView → Type 0) (name : List ℕ) (mirrors : List MirrorSpec) (m : MetaView) : Type 0 where
  pub same : P m
  pub comes : file_named name m.files ≡ None → is_full m.files ≡ false → P (with_file name 0 (new_layout mirrors (length m.nexts)) m)

pub create_cases : (P : MetaView → Type 0) (name : List ℕ) (mirrors : List MirrorSpec) (m : MetaView) → CreateCases P name mirrors m → P (left_by (creates name mirrors m) m)
create_cases P name mirrors m h = by (file_named name m.files) refl
  where
    within : (b : Bool) → file_named name m.files ≡ None → is_full m.files ≡ b → P (left_by (creates_within name mirrors m b) m)
    within true absent full = h.same
    within false absent full = h.comes absent full

    by : (o : Option File) → file_named name m.files ≡ o → P (left_by (creates_file name mirrors m o) m)
    by (Some f) e = h.same
    by None e = within (is_full m.files) e refl

-- nothing happens, or a mirror goes, and may come as a file
pub record RemoveCases (P : MetaView → Type 0) (name : List ℕ) (mirror step : ℕ) (m : MetaView) : Type 0 where
  pub same : P m
  pub goes : (f : File) → file_named name m.files ≡ Some f → keeping mirror f.layout.components ≡ None → P (with_break f.number step (lessened mirror f.layout) m)
  pub splits : (to : List ℕ) (f : File) → file_named name m.files ≡ Some f → keeping mirror f.layout.components ≡ None → wholly_fresh mirror f.layout.components ≡ true → file_named to m.files ≡ None → is_full m.files ≡ false
      → P (with_file to f.size (split_off mirror f.layout) (with_break f.number step (lessened mirror f.layout) m))

module _ (P : MetaView → Type 0) (client : ℕ) (name : List ℕ) (mirror step : ℕ) (m : MetaView) (h : RemoveCases P name mirror step m) where
  module _ (f : File) (there : file_named name m.files ≡ Some f) where
    gone_by : (o : Option ℕ) → keeping mirror f.layout.components ≡ None → P (left_by (removes_alone client mirror step m f None o) m)
    gone_by (Some holder) kept = h.same
    gone_by None kept = h.goes f there kept

    split_by : (to : List ℕ) (o : Option ℕ) → keeping mirror f.layout.components ≡ None → wholly_fresh mirror f.layout.components ≡ true → file_named to m.files ≡ None → is_full m.files ≡ false → P (left_by (removes_alone client mirror step m f (Some to) o) m)
    split_by to (Some holder) kept fresh absent room = h.same
    split_by to None kept fresh absent room = h.splits to f there kept fresh absent room

    within_by : (to : List ℕ) (b : Bool) → keeping mirror f.layout.components ≡ None → wholly_fresh mirror f.layout.components ≡ true → file_named to m.files ≡ None → is_full m.files ≡ b → P (left_by (splits_within client mirror step m f to b) m)
    within_by to true kept fresh absent full = h.same
    within_by to false kept fresh absent full = split_by to (lowest_but client f.lock) kept fresh absent full

    to_by : (to : List ℕ) (o : Option File) → keeping mirror f.layout.components ≡ None → wholly_fresh mirror f.layout.components ≡ true → file_named to m.files ≡ o → P (left_by (splits_to client mirror step m f to o) m)
    to_by to (Some other) kept fresh e = h.same
    to_by to None kept fresh e = within_by to (is_full m.files) kept fresh e refl

    fresh_by : (to : List ℕ) (b : Bool) → keeping mirror f.layout.components ≡ None → wholly_fresh mirror f.layout.components ≡ b → P (left_by (splits_fresh client mirror step m f to b) m)
    fresh_by to false kept e = h.same
    fresh_by to true kept e = to_by to (file_named to m.files) kept e refl

    removes_to_by : (to : Option (List ℕ)) → keeping mirror f.layout.components ≡ None → P (left_by (removes_to client mirror step m f to) m)
    removes_to_by None kept = gone_by (lowest_but client f.lock) kept
    removes_to_by (Some to) kept = fresh_by to (wholly_fresh mirror f.layout.components) kept refl

    removes_from_by : (to : Option (List ℕ)) (o : Option StateError) → keeping mirror f.layout.components ≡ o → P (left_by (removes_from client mirror step m to f o) m)
    removes_from_by to (Some error) e = h.same
    removes_from_by to None e = removes_to_by to e

  removes_by : (to : Option (List ℕ)) (o : Option File) → file_named name m.files ≡ o → P (left_by (removes_file client mirror step m name to o) m)
  removes_by to None e = h.same
  removes_by to (Some f) e = removes_from_by f e to (keeping mirror f.layout.components) refl

  pub remove_cases : (to : Option (List ℕ)) → P (left_by (removes client name mirror to step m) m)
  remove_cases to = removes_by to (file_named name m.files) refl

-- nothing happens, or the flags of a component change
pub record SetCases (P : MetaView → Type 0) (name : List ℕ) (id : ℕ) (change : FlagSets) (step : ℕ) (m : MetaView) : Type 0 where
  pub same : P m
  pub marks : (f : File) → file_named name m.files ≡ Some f → flags_refusal id change f.layout.components ≡ None → P (with_break f.number step (flagged id change f.layout) m)

pub set_cases : (P : MetaView → Type 0) (client : ℕ) (name : List ℕ) (id : ℕ) (change : FlagSets) (step : ℕ) (m : MetaView) → SetCases P name id change step m → P (left_by (sets client name id change step m) m)
set_cases P client name id change step m h = by (file_named name m.files) refl
  where
    alone : (f : File) (o : Option ℕ) → file_named name m.files ≡ Some f → flags_refusal id change f.layout.components ≡ None → P (left_by (sets_alone client id change step m f o) m)
    alone f (Some holder) e kept = h.same
    alone f None e kept = h.marks f e kept

    on : (f : File) (o : Option StateError) → file_named name m.files ≡ Some f → flags_refusal id change f.layout.components ≡ o → P (left_by (sets_on client id change step m f o) m)
    on f (Some error) e kept = h.same
    on f None e kept = alone f (lowest_but client f.lock) e kept

    by : (o : Option File) → file_named name m.files ≡ o → P (left_by (sets_file client id change step m name o) m)
    by None e = h.same
    by (Some f) e = on f (flags_refusal id change f.layout.components) e refl
