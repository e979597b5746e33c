-- What an open, the begin of a copy and a mirror that goes leave, case by case, with what is known there of the layout.
use Rattle.std.proofs.Common.{◌≡◌, ℕ, ◌==◌, Bool, true, false, Option, Some, None, List, [], length, refl}
use Rattle.flr_base.specs.declared.reply.Range.{Range}
use Rattle.composite_layout.specs.declared.spec.MirrorSpec.{MirrorSpec}
use Rattle.composite_layout.specs.Choices.{is_ready}
use Rattle.composite_layout.specs.LookUps.{mirror_ids, wholly_fresh}
use Rattle.composite_layout.specs.Making.{part_count}
use Rattle.layout_lease.specs.Leases.{holder_of}
use Rattle.layout_lease.specs.Shares.{lowest_but}
use Rattle.layout_state.specs.declared.error.StateError.{StateError}
use Rattle.layout_state.specs.Choosing.{primary_of}
use Rattle.layout_state.specs.Mirroring.{excess, keeping}
use Rattle.layout_state.specs.Selecting.{absent_of, selected_of}
use Rattle.meta_server.specs.declared.answers.CopyWhat.{CopyWhat}
use Rattle.meta_server.specs.declared.answers.CopyWhat.TheVariants.{Resync, Extend, Victim}
use Rattle.meta_server.specs.Beginning.{copy_begins, copy_begins_file, copy_begins_on, extend_alone, extend_begins, extend_leased, extend_wanted, merge_alone, merge_begins, merge_fits, merge_leased, merge_readable, resync_alone, resync_begins, resync_leased, resync_wanted, with_begin}
use Rattle.meta_server.specs.Files.{File, MetaView, file_named, is_full, with_break, with_change, with_file, with_layout, with_share}
use Rattle.meta_server.specs.Layouts.{extended, lessened, new_ids, offline_byte, split_off}
use Rattle.meta_server.specs.Naming.{removes, removes_alone, removes_file, removes_from, removes_to, splits_fresh, splits_to, splits_within}
use Rattle.meta_server.specs.Opening.{change_opens_file, intends, intends_to, limits, readies, with_intent}
use Rattle.meta_laws.specs.Calls.{left_by}

-- ---- opens

-- a write or a truncate opens a file: nothing happens, or the client shares its lock, before which an intent may come where the range isn't ready
pub record OpenCases (P : MetaView → Type 0) (client : ℕ) (name : List ℕ) (range : Range) (step : ℕ) (m : MetaView) : Type 0 where
  pub same : P m
  pub shared : (f : File) → file_named name m.files ≡ Some f → P (with_change f.number (with_share client) m)
  pub intended : (f : File) (mirror : ℕ) → file_named name m.files ≡ Some f → is_ready f.layout range ≡ false → primary_of range f.layout.components ≡ Some mirror → P (with_change f.number (with_share client) (with_intent range mirror step f m))

module _ (P : MetaView → Type 0) (client : ℕ) (name : List ℕ) (range : Range) (step : ℕ) (m : MetaView) (h : OpenCases P client name range step m) where
  intends_by : (f : File) (mirror : ℕ) (o : Option ℕ) → file_named name m.files ≡ Some f → is_ready f.layout range ≡ false → primary_of range f.layout.components ≡ Some mirror → P (left_by (intends client range step m f mirror o) m)
  intends_by f mirror (Some holder) e ready primary = h.same
  intends_by f mirror None e ready primary = h.intended f mirror e ready primary

  intends_to_by : (f : File) (o : Option ℕ) → file_named name m.files ≡ Some f → is_ready f.layout range ≡ false → primary_of range f.layout.components ≡ o → P (left_by (intends_to client range step m f o) m)
  intends_to_by f None e ready primary = h.same
  intends_to_by f (Some mirror) e ready primary = intends_by f mirror (lowest_but client f.lock) e ready primary

  readies_by : (f : File) (b : Bool) → file_named name m.files ≡ Some f → is_ready f.layout range ≡ b → P (left_by (readies client range step m f b) m)
  readies_by f true e ready = h.shared f e
  readies_by f false e ready = intends_to_by f (primary_of range f.layout.components) e ready refl

  limits_by : (f : File) (b : Bool) → file_named name m.files ≡ Some f → P (left_by (limits client range step m f b) m)
  limits_by f true e = h.same
  limits_by f false e = readies_by f (is_ready f.layout range) e refl

  open_by : (b : Bool) (o : Option File) → file_named name m.files ≡ o → P (left_by (change_opens_file client range step m name b o) m)
  open_by b None e = h.same
  open_by b (Some f) e = limits_by f b e

  pub open_cases : (b : Bool) → P (left_by (change_opens_file client range step m name b (file_named name m.files)) m)
  open_cases b = open_by b (file_named name m.files) refl

-- ---- copies begin

-- nothing happens; or a resync begins a copy to the components that it selects; or mirrors are added, and where one of their components is selected a copy to those begins with them; or the leases of two files are taken, one after the other
pub record BeginCases (P : MetaView → Type 0) (client : ℕ) (name : List ℕ) (what : CopyWhat) (m : MetaView) : Type 0 where
  pub same : P m
  pub begins : (only : Option (List ℕ)) (f : File) → what ≡ Resync only → file_named name m.files ≡ Some f → P (with_begin client (selected_of only f.layout.components) f m)
  pub adds : (mirrors : List MirrorSpec) (f : File) → what ≡ Extend mirrors → file_named name m.files ≡ Some f → (length (selected_of (Some (new_ids mirrors f.layout)) (extended mirrors (length m.nexts) f.layout).components) == 0) ≡ true
      → P (with_change f.number (with_layout (extended mirrors (length m.nexts) f.layout)) m)
  pub extends : (mirrors : List MirrorSpec) (f : File) → what ≡ Extend mirrors → file_named name m.files ≡ Some f → (length (selected_of (Some (new_ids mirrors f.layout)) (extended mirrors (length m.nexts) f.layout).components) == 0) ≡ false
      → P (with_begin client (selected_of (Some (new_ids mirrors f.layout)) (extended mirrors (length m.nexts) f.layout).components) (with_layout (extended mirrors (length m.nexts) f.layout) f) m)
  pub both : (victim : List ℕ) (f v : File) → what ≡ Victim victim → file_named name m.files ≡ Some f → file_named victim m.files ≡ Some v → P (with_begin client [] v (with_begin client [] f m))

module _ (P : MetaView → Type 0) (client : ℕ) (name : List ℕ) (what : CopyWhat) (m : MetaView) (h : BeginCases P client name what m) where
  module _ (f : File) (there : file_named name m.files ≡ Some f) where
    module _ (only : Option (List ℕ)) (is : what ≡ Resync only) where
      resync_alone_by : (o : Option ℕ) → P (left_by (resync_alone client m f (selected_of only f.layout.components) o) m)
      resync_alone_by (Some holder) = h.same
      resync_alone_by None = h.begins only f is there

      resync_wanted_by : (b : Bool) → P (left_by (resync_wanted client m f (selected_of only f.layout.components) b) m)
      resync_wanted_by true = h.same
      resync_wanted_by false = resync_alone_by (lowest_but client f.lock)

      resync_leased_by : (o : Option ℕ) → P (left_by (resync_leased client m only f o) m)
      resync_leased_by (Some holder) = h.same
      resync_leased_by None = resync_wanted_by (length (selected_of only f.layout.components) == 0)

      resync_by : (o : Option ℕ) → P (left_by (resync_begins client m only f o) m)
      resync_by (Some id) = h.same
      resync_by None = resync_leased_by (holder_of m.leases f.number)

    module _ (mirrors : List MirrorSpec) (is : what ≡ Extend mirrors) where
      abbrev ids : List ℕ
      ids = selected_of (Some (new_ids mirrors f.layout)) (extended mirrors (length m.nexts) f.layout).components

      extend_wanted_by : (b : Bool) → (length ids == 0) ≡ b → P (left_by (extend_wanted client m (with_layout (extended mirrors (length m.nexts) f.layout) f) ids b) m)
      extend_wanted_by true none = h.adds mirrors f is there none
      extend_wanted_by false some = h.extends mirrors f is there some

      extend_alone_by : (o : Option ℕ) → P (left_by (extend_alone client m mirrors f o) m)
      extend_alone_by (Some holder) = h.same
      extend_alone_by None = extend_wanted_by (length ids == 0) refl

      extend_leased_by : (o : Option ℕ) → P (left_by (extend_leased client m mirrors f o) m)
      extend_leased_by (Some holder) = h.same
      extend_leased_by None = extend_alone_by (lowest_but client f.lock)

      extend_by : (o : Option StateError) → P (left_by (extend_begins client m mirrors f o) m)
      extend_by (Some error) = h.same
      extend_by None = extend_leased_by (holder_of m.leases f.number)

    module _ (victim : List ℕ) (is : what ≡ Victim victim) (v : File) (beside : file_named victim m.files ≡ Some v) where
      merge_alone_by : (a b : Option ℕ) → P (left_by (merge_alone client m f v a b) m)
      merge_alone_by (Some holder) b = h.same
      merge_alone_by None (Some holder) = h.same
      merge_alone_by None None = h.both victim f v is there beside

      merge_readable_by : (a b : Option ℕ) → P (left_by (merge_readable client m f v a b) m)
      merge_readable_by (Some byte) b = h.same
      merge_readable_by None (Some byte) = h.same
      merge_readable_by None None = merge_alone_by (lowest_but client f.lock) (lowest_but client v.lock)

      merge_leased_by : (a b : Option ℕ) → P (left_by (merge_leased client m f v a b) m)
      merge_leased_by (Some holder) b = h.same
      merge_leased_by None (Some holder) = h.same
      merge_leased_by None None = merge_readable_by (offline_byte f.layout) (offline_byte v.layout)

      merge_fits_by : (o : Option StateError) → P (left_by (merge_fits client m f v o) m)
      merge_fits_by (Some error) = h.same
      merge_fits_by None = merge_leased_by (holder_of m.leases f.number) (holder_of m.leases v.number)

    merge_by : (victim : List ℕ) (o : Option File) → what ≡ Victim victim → file_named victim m.files ≡ o → P (left_by (merge_begins client m victim f o) m)
    merge_by victim None is e = h.same
    merge_by victim (Some v) is e = merge_fits_by victim is v e (excess f.layout (length (mirror_ids v.layout.components)) (length v.layout.components) m.most)

    begin_on : (w : CopyWhat) → what ≡ w → P (left_by (copy_begins_on client m f w) m)
    begin_on (Resync only) is = resync_by only is (absent_of only f.layout.components)
    begin_on (Extend mirrors) is = extend_by mirrors is (excess f.layout (length mirrors) (part_count mirrors) m.most)
    begin_on (Victim victim) is = merge_by victim (file_named victim m.files) is refl

  begin_by : (o : Option File) → file_named name m.files ≡ o → P (left_by (copy_begins_file client m name what o) m)
  begin_by None e = h.same
  begin_by (Some f) e = begin_on f e what refl

  pub begin_cases : P (left_by (copy_begins client name what m) m)
  begin_cases = begin_by (file_named name m.files) refl

-- ---- mirrors go

-- nothing happens, or a mirror goes, and comes as a file where there is a name for it
pub record RemoveCases (P : MetaView → Type 0) (name : List ℕ) (mirror step : ℕ) (to : Option (List ℕ)) (m : MetaView) : Type 0 where
  pub same : P m
  pub goes : (f : File) → to ≡ None → file_named name m.files ≡ Some f → P (with_break f.number step (lessened mirror f.layout) m)
  pub splits : (new : List ℕ) (f : File) → to ≡ Some new → file_named name m.files ≡ Some f → P (with_file new f.size (split_off mirror f.layout) (with_break f.number step (lessened mirror f.layout) m))

module _ (P : MetaView → Type 0) (client : ℕ) (name : List ℕ) (mirror step : ℕ) (to : Option (List ℕ)) (m : MetaView) (h : RemoveCases P name mirror step to m) where
  module _ (f : File) (there : file_named name m.files ≡ Some f) where
    gone_by : (o : Option ℕ) → to ≡ None → P (left_by (removes_alone client mirror step m f None o) m)
    gone_by (Some holder) is = h.same
    gone_by None is = h.goes f is there

    module _ (new : List ℕ) (is : to ≡ Some new) where
      split_by : (o : Option ℕ) → P (left_by (removes_alone client mirror step m f (Some new) o) m)
      split_by (Some holder) = h.same
      split_by None = h.splits new f is there

      within_by : (b : Bool) → P (left_by (splits_within client mirror step m f new b) m)
      within_by true = h.same
      within_by false = split_by (lowest_but client f.lock)

      to_by : (o : Option File) → P (left_by (splits_to client mirror step m f new o) m)
      to_by (Some other) = h.same
      to_by None = within_by (is_full m.files)

      fresh_by : (b : Bool) → P (left_by (splits_fresh client mirror step m f new b) m)
      fresh_by false = h.same
      fresh_by true = to_by (file_named new m.files)

    removes_to_by : (o : Option (List ℕ)) → to ≡ o → P (left_by (removes_to client mirror step m f o) m)
    removes_to_by None is = gone_by (lowest_but client f.lock) is
    removes_to_by (Some new) is = fresh_by new is (wholly_fresh mirror f.layout.components)

    removes_from_by : (o : Option StateError) → P (left_by (removes_from client mirror step m to f o) m)
    removes_from_by (Some error) = h.same
    removes_from_by None = removes_to_by to refl

  removes_by : (o : Option File) → file_named name m.files ≡ o → P (left_by (removes_file client mirror step m name to o) m)
  removes_by None e = h.same
  removes_by (Some f) e = removes_from_by f e (keeping mirror f.layout.components)

  pub remove_cases : P (left_by (removes client name mirror to step m) m)
  remove_cases = removes_by (file_named name m.files) refl
