-- What a call comes to, case by case: what holds in each of the cases holds of the outcome.
use Rattle.std.proofs.Common.{◌≡◌, ℕ, ◌==◌, Bool, true, false, Option, Some, None, List, [], length, refl}
use Rattle.flr_base.specs.declared.reply.Range.{Range}
use Rattle.flr_base.specs.declared.reply.Reply.{Reply}
use Rattle.flr_base.specs.declared.reply.Reply.TheVariants as reply
use Rattle.composite_layout.specs.declared.spec.MirrorSpec.{MirrorSpec}
use Rattle.composite_layout.specs.Choices.{is_ready}
use Rattle.composite_layout.specs.FlagChanges.{FlagSets}
use Rattle.composite_layout.specs.LookUps.{mirror_ids, wholly_fresh}
use Rattle.composite_layout.specs.Making.{new_layout, part_count}
use Rattle.layout_lease.specs.declared.lease.KeyState.{KeyState}
use Rattle.layout_lease.specs.declared.lease.KeyState.TheVariants.{Held, Broken}
use Rattle.layout_lease.specs.Leases.{KeyView, holder_of, state_of}
use Rattle.layout_lease.specs.Shares.{lowest_but}
use Rattle.layout_state.specs.declared.error.StateError.{StateError}
use Rattle.layout_state.specs.Choosing.{primary_of}
use Rattle.layout_state.specs.Marking.{flags_refusal}
use Rattle.layout_state.specs.Mirroring.{excess, keeping}
use Rattle.layout_state.specs.Selecting.{absent_of, selected_of}
use Rattle.meta_server.specs.declared.answers.Begun.{Begun}
use Rattle.meta_server.specs.declared.answers.Begun.TheVariants as begun_as
use Rattle.meta_server.specs.declared.answers.CopyWhat.{CopyWhat}
use Rattle.meta_server.specs.declared.answers.CopyWhat.TheVariants.{Resync, Extend, Victim}
use Rattle.meta_server.specs.declared.answers.Opened.{Opened}
use Rattle.meta_server.specs.Beginning.{copy_begins, copy_begins_file, copy_begins_on, extend_alone, extend_begins, extend_leased, extend_wanted, merge_alone, merge_begins, merge_fits, merge_leased, merge_readable, resync_alone, resync_begins, resync_leased, resync_wanted, side_of, with_begin}
use Rattle.meta_server.specs.Ending.{both_given, copy_ends, copy_ends_alone, copy_ends_by, copy_ends_file, merge_ends, merge_ends_alone, merge_ends_by, merge_ends_files, with_done, with_merge}
use Rattle.meta_server.specs.Files.{File, MetaView, file_named, file_of, is_full, with_break, with_change, with_file, with_given, with_layout}
use Rattle.meta_server.specs.Layouts.{extended, flagged, intended, lessened, merged_ids, new_ids, offline_byte, split_off}
use Rattle.meta_server.specs.Naming.{creates, creates_file, creates_within, removes, removes_alone, removes_file, removes_from, removes_to, sets, sets_alone, sets_file, sets_on, splits_fresh, splits_to, splits_within}
use Rattle.meta_server.specs.Opening.{change_opens_file, intends, intends_to, limits, readies, shares, with_intent}
use Rattle.meta_server.specs.Outcomes.{Outcome, Gives, Refuses, Waits, Ending, Ends, Breaks, Holds, refusal_of}

-- ---- opens

-- a write or a truncate opens a file: it is refused, waits, or shares the lock, after an intent where the range wasn't ready
pub record OpenCases (P : Outcome Opened → Type 0) (client : ℕ) (name : List ℕ) (range : Range) (step : ℕ) (m : MetaView) (too_big : Bool) : Type 0 where
  pub refuses : (answer : Reply) → P (Refuses answer)
  pub waits : (holder : ℕ) → P (Waits holder)
  pub shared : (f : File) → too_big ≡ false → file_named name m.files ≡ Some f → is_ready f.layout range ≡ true → P (shares client f m)
  pub intended : (f : File) (mirror : ℕ) → too_big ≡ false → file_named name m.files ≡ Some f → primary_of range f.layout.components ≡ Some mirror → lowest_but client f.lock ≡ None
      → P (shares client (with_layout (intended range mirror f.number m.nexts f.layout) f) (with_intent range mirror step f m))

module _ (P : Outcome Opened → Type 0) (client : ℕ) (name : List ℕ) (range : Range) (step : ℕ) (m : MetaView) (too_big : Bool) (h : OpenCases P client name range step m too_big) where
  intends_by : (f : File) (mirror : ℕ) (o : Option ℕ) → too_big ≡ false → file_named name m.files ≡ Some f → primary_of range f.layout.components ≡ Some mirror → lowest_but client f.lock ≡ o → P (intends client range step m f mirror o)
  intends_by f mirror (Some holder) b e primary alone = h.waits holder
  intends_by f mirror None b e primary alone = h.intended f mirror b e primary alone

  intends_to_by : (f : File) (o : Option ℕ) → too_big ≡ false → file_named name m.files ≡ Some f → primary_of range f.layout.components ≡ o → P (intends_to client range step m f o)
  intends_to_by f None b e primary = h.refuses (reply.NoPrimary range)
  intends_to_by f (Some mirror) b e primary = intends_by f mirror (lowest_but client f.lock) b e primary refl

  readies_by : (f : File) (ready : Bool) → too_big ≡ false → file_named name m.files ≡ Some f → is_ready f.layout range ≡ ready → P (readies client range step m f ready)
  readies_by f true b e is = h.shared f b e is
  readies_by f false b e is = intends_to_by f (primary_of range f.layout.components) b e refl

  limits_by : (f : File) (big : Bool) → too_big ≡ big → file_named name m.files ≡ Some f → P (limits client range step m f big)
  limits_by f true b e = h.refuses reply.TooBig
  limits_by f false b e = readies_by f (is_ready f.layout range) b e refl

  open_by : (o : Option File) → file_named name m.files ≡ o → P (change_opens_file client range step m name too_big o)
  open_by None e = h.refuses (reply.NoFile name)
  open_by (Some f) e = limits_by f too_big refl e

  pub open_cases : P (change_opens_file client range step m name too_big (file_named name m.files))
  open_cases = open_by (file_named name m.files) refl

-- ---- copies begin

-- it is refused, waits, or there is nothing to copy; or a copy begins on a file without a lease, or mirrors are added to it, and a copy may begin with them; or the leases of two files are taken, one after the other
pub record BeginCases (P : Outcome Begun → Type 0) (client : ℕ) (name : List ℕ) (what : CopyWhat) (m : MetaView) : Type 0 where
  pub refuses : (answer : Reply) → P (Refuses answer)
  pub waits : (holder : ℕ) → P (Waits holder)
  pub same : P (Gives begun_as.Nothing m)
  pub begins : (ids : List ℕ) (f : File) → file_named name m.files ≡ Some f → holder_of m.leases f.number ≡ None → lowest_but client f.lock ≡ None → P (Gives (begun_as.Copy (side_of client ids f m) ids) (with_begin client ids f m))
  pub adds : (mirrors : List MirrorSpec) (f : File) → what ≡ Extend mirrors → file_named name m.files ≡ Some f → holder_of m.leases f.number ≡ None → lowest_but client f.lock ≡ None → excess f.layout (length mirrors) (part_count mirrors) m.most ≡ None
      → P (Gives begun_as.Nothing (with_change f.number (with_layout (extended mirrors (length m.nexts) f.layout)) m))
  pub extends : (mirrors : List MirrorSpec) (ids : List ℕ) (f : File) → what ≡ Extend mirrors → file_named name m.files ≡ Some f → holder_of m.leases f.number ≡ None → lowest_but client f.lock ≡ None → excess f.layout (length mirrors) (part_count mirrors) m.most ≡ None
      → P (Gives (begun_as.Copy (side_of client ids (with_layout (extended mirrors (length m.nexts) f.layout) f) m) ids) (with_begin client ids (with_layout (extended mirrors (length m.nexts) f.layout) f) m))
  pub both : (victim : List ℕ) (f v : File) → what ≡ Victim victim → file_named name m.files ≡ Some f → file_named victim m.files ≡ Some v → holder_of m.leases f.number ≡ None → holder_of m.leases v.number ≡ None → lowest_but client f.lock ≡ None → lowest_but client v.lock ≡ None
      → excess f.layout (length (mirror_ids v.layout.components)) (length v.layout.components) m.most ≡ None
      → P (Gives (begun_as.Merge (side_of client [] f m) (side_of client [] v (with_begin client [] f m))) (with_begin client [] v (with_begin client [] f m)))

module _ (P : Outcome Begun → Type 0) (client : ℕ) (name : List ℕ) (what : CopyWhat) (m : MetaView) (h : BeginCases P client name what m) where
  module _ (f : File) (there : file_named name m.files ≡ Some f) where
    resync_alone_by : (ids : List ℕ) (o : Option ℕ) → holder_of m.leases f.number ≡ None → lowest_but client f.lock ≡ o → P (resync_alone client m f ids o)
    resync_alone_by ids (Some holder) free alone = h.waits holder
    resync_alone_by ids None free alone = h.begins ids f there free alone

    resync_wanted_by : (ids : List ℕ) (b : Bool) → holder_of m.leases f.number ≡ None → P (resync_wanted client m f ids b)
    resync_wanted_by ids true free = h.same
    resync_wanted_by ids false free = resync_alone_by ids (lowest_but client f.lock) free refl

    resync_leased_by : (only : Option (List ℕ)) (o : Option ℕ) → holder_of m.leases f.number ≡ o → P (resync_leased client m only f o)
    resync_leased_by only (Some holder) e = h.refuses (reply.Busy holder)
    resync_leased_by only None e = let ids = selected_of only f.layout.components in resync_wanted_by ids (length ids == 0) e

    resync_by : (only : Option (List ℕ)) (o : Option ℕ) → P (resync_begins client m only f o)
    resync_by only (Some id) = h.refuses (reply.NoMirrorId id)
    resync_by only None = resync_leased_by only (holder_of m.leases f.number) refl

    module _ (mirrors : List MirrorSpec) (is : what ≡ Extend mirrors) (within : excess f.layout (length mirrors) (part_count mirrors) m.most ≡ None) where
      extend_wanted_by : (ids : List ℕ) (b : Bool) → holder_of m.leases f.number ≡ None → lowest_but client f.lock ≡ None → P (extend_wanted client m (with_layout (extended mirrors (length m.nexts) f.layout) f) ids b)
      extend_wanted_by ids true free alone = h.adds mirrors f is there free alone within
      extend_wanted_by ids false free alone = h.extends mirrors ids f is there free alone within

      extend_alone_by : (o : Option ℕ) → holder_of m.leases f.number ≡ None → lowest_but client f.lock ≡ o → P (extend_alone client m mirrors f o)
      extend_alone_by (Some holder) free alone = h.waits holder
      extend_alone_by None free alone =
          let ids : List ℕ = selected_of (Some (new_ids mirrors f.layout)) (extended mirrors (length m.nexts) f.layout).components in
          extend_wanted_by ids (length ids == 0) free alone

      extend_leased_by : (o : Option ℕ) → holder_of m.leases f.number ≡ o → P (extend_leased client m mirrors f o)
      extend_leased_by (Some holder) e = h.refuses (reply.Busy holder)
      extend_leased_by None e = extend_alone_by (lowest_but client f.lock) e refl

    extend_by : (mirrors : List MirrorSpec) (o : Option StateError) → what ≡ Extend mirrors → excess f.layout (length mirrors) (part_count mirrors) m.most ≡ o → P (extend_begins client m mirrors f o)
    extend_by mirrors (Some error) is e = h.refuses (refusal_of error)
    extend_by mirrors None is e = extend_leased_by mirrors is e (holder_of m.leases f.number) refl

    module _ (victim : List ℕ) (is : what ≡ Victim victim) (v : File) (beside : file_named victim m.files ≡ Some v) (within : excess f.layout (length (mirror_ids v.layout.components)) (length v.layout.components) m.most ≡ None) where
      merge_alone_by : (a b : Option ℕ) → holder_of m.leases f.number ≡ None → holder_of m.leases v.number ≡ None → lowest_but client f.lock ≡ a → lowest_but client v.lock ≡ b → P (merge_alone client m f v a b)
      merge_alone_by (Some holder) b free free_too alone alone_too = h.waits holder
      merge_alone_by None (Some holder) free free_too alone alone_too = h.waits holder
      merge_alone_by None None free free_too alone alone_too = h.both victim f v is there beside free free_too alone alone_too within

      merge_readable_by : (a b : Option ℕ) → holder_of m.leases f.number ≡ None → holder_of m.leases v.number ≡ None → P (merge_readable client m f v a b)
      merge_readable_by (Some byte) b free free_too = h.refuses (reply.AllOffline byte)
      merge_readable_by None (Some byte) free free_too = h.refuses (reply.AllOffline byte)
      merge_readable_by None None free free_too = merge_alone_by (lowest_but client f.lock) (lowest_but client v.lock) free free_too refl refl

      merge_leased_by : (a b : Option ℕ) → holder_of m.leases f.number ≡ a → holder_of m.leases v.number ≡ b → P (merge_leased client m f v a b)
      merge_leased_by (Some holder) b free free_too = h.refuses (reply.Busy holder)
      merge_leased_by None (Some holder) free free_too = h.refuses (reply.Busy holder)
      merge_leased_by None None free free_too = merge_readable_by (offline_byte f.layout) (offline_byte v.layout) free free_too

    merge_fits_by : (victim : List ℕ) (v : File) (o : Option StateError) → what ≡ Victim victim → file_named victim m.files ≡ Some v → excess f.layout (length (mirror_ids v.layout.components)) (length v.layout.components) m.most ≡ o → P (merge_fits client m f v o)
    merge_fits_by victim v (Some error) is beside e = h.refuses (refusal_of error)
    merge_fits_by victim v None is beside e = merge_leased_by victim is v beside e (holder_of m.leases f.number) (holder_of m.leases v.number) refl refl

    merge_by : (victim : List ℕ) (o : Option File) → what ≡ Victim victim → file_named victim m.files ≡ o → P (merge_begins client m victim f o)
    merge_by victim None is e = h.refuses (reply.NoFile victim)
    merge_by victim (Some v) is e = merge_fits_by victim v (excess f.layout (length (mirror_ids v.layout.components)) (length v.layout.components) m.most) is e refl

    begin_on : (w : CopyWhat) → what ≡ w → P (copy_begins_on client m f w)
    begin_on (Resync only) is = resync_by only (absent_of only f.layout.components)
    begin_on (Extend mirrors) is = extend_by mirrors (excess f.layout (length mirrors) (part_count mirrors) m.most) is refl
    begin_on (Victim victim) is = merge_by victim (file_named victim m.files) is refl

  begin_by : (o : Option File) → file_named name m.files ≡ o → P (copy_begins_file client m name what o)
  begin_by None e = h.refuses (reply.NoFile name)
  begin_by (Some f) e = begin_on f e what refl

  pub begin_cases : P (copy_begins client name what m)
  begin_cases = begin_by (file_named name m.files) refl

-- ---- copies end

-- it waits; or the lease is broken; or the copy is done
pub record EndCases (P : Ending (Unit {0}) → Type 0) (key : KeyView) (cleared : List ℕ) (m : MetaView) : Type 0 where
  pub waits : (holder : ℕ) → P (Holds holder)
  pub breaks : (step : ℕ) → P (Breaks step (with_given key m))
  pub done : (f : File) → state_of m.leases key ≡ Held → file_of key.file m.files ≡ Some f → lowest_but key.client f.lock ≡ None → P (Ends tt (with_done key cleared f m))

pub end_cases : (P : Ending (Unit {0}) → Type 0) (key : KeyView) (cleared : List ℕ) (m : MetaView) → EndCases P key cleared m → P (copy_ends key cleared m)
end_cases P key cleared m h = by (state_of m.leases key) refl
  where
    alone : (f : File) (o : Option ℕ) → state_of m.leases key ≡ Held → file_of key.file m.files ≡ Some f → lowest_but key.client f.lock ≡ o → P (copy_ends_alone key cleared m f o)
    alone f (Some holder) held e a = h.waits holder
    alone f None held e a = h.done f held e a

    on : (o : Option File) → state_of m.leases key ≡ Held → file_of key.file m.files ≡ o → P (copy_ends_file key cleared m o)
    on None held e = h.breaks 0
    on (Some f) held e = alone f (lowest_but key.client f.lock) held e refl

    by : (s : KeyState) → state_of m.leases key ≡ s → P (copy_ends_by key cleared m s)
    by (Broken step) held = h.breaks step
    by Held held = on (file_of key.file m.files) held refl

-- it waits; or a lease is broken; or the file is taken in
pub record MergeCases (P : Ending (List ℕ) → Type 0) (ours theirs : KeyView) (m : MetaView) : Type 0 where
  pub waits : (holder : ℕ) → P (Holds holder)
  pub breaks : (step : ℕ) → P (Breaks step (both_given ours theirs m))
  pub merges : (f v : File) → state_of m.leases ours ≡ Held → state_of m.leases theirs ≡ Held → file_of ours.file m.files ≡ Some f → file_of theirs.file m.files ≡ Some v → lowest_but ours.client f.lock ≡ None → lowest_but ours.client v.lock ≡ None
      → P (Ends (merged_ids v.layout f.layout) (with_merge ours theirs m f v))

pub merge_cases : (P : Ending (List ℕ) → Type 0) (ours theirs : KeyView) (m : MetaView) → MergeCases P ours theirs m → P (merge_ends ours theirs m)
merge_cases P ours theirs m h = by (state_of m.leases ours) (state_of m.leases theirs) refl refl
  where
    alone : (f v : File) (a b : Option ℕ) → state_of m.leases ours ≡ Held → state_of m.leases theirs ≡ Held → file_of ours.file m.files ≡ Some f → file_of theirs.file m.files ≡ Some v → lowest_but ours.client f.lock ≡ a → lowest_but ours.client v.lock ≡ b → P (merge_ends_alone ours theirs m f v a b)
    alone f v (Some holder) b held held_too e k x y = h.waits holder
    alone f v None (Some holder) held held_too e k x y = h.waits holder
    alone f v None None held held_too e k x y = h.merges f v held held_too e k x y

    on : (o p : Option File) → state_of m.leases ours ≡ Held → state_of m.leases theirs ≡ Held → file_of ours.file m.files ≡ o → file_of theirs.file m.files ≡ p → P (merge_ends_files ours theirs m o p)
    on None p held held_too e k = h.breaks 0
    on (Some f) None held held_too e k = h.breaks 0
    on (Some f) (Some v) held held_too e k = alone f v (lowest_but ours.client f.lock) (lowest_but ours.client v.lock) held held_too e k refl refl

    by : (s t : KeyState) → state_of m.leases ours ≡ s → state_of m.leases theirs ≡ t → P (merge_ends_by ours theirs m s t)
    by (Broken step) t e k = h.breaks step
    by Held (Broken step) e k = h.breaks step
    by Held Held e k = on (file_of ours.file m.files) (file_of theirs.file m.files) e k refl refl

-- ---- commands of one step

-- it is refused, or a file of this name comes
pub record CreateCases (P : Outcome (Unit {0}) → Type 0) (name : List ℕ) (mirrors : List MirrorSpec) (m : MetaView) : Type 0 where
  pub refuses : (answer : Reply) → P (Refuses answer)
  pub comes : file_named name m.files ≡ None → is_full m.files ≡ false → P (Gives tt (with_file name 0 (new_layout mirrors (length m.nexts)) m))

pub create_cases : (P : Outcome (Unit {0}) → Type 0) (name : List ℕ) (mirrors : List MirrorSpec) (m : MetaView) → CreateCases P name mirrors m → P (creates name mirrors m)
create_cases P name mirrors m h = by (file_named name m.files) refl
  where
    within : (b : Bool) → file_named name m.files ≡ None → is_full m.files ≡ b → P (creates_within name mirrors m b)
    within true absent full = h.refuses reply.TooManyFiles
    within false absent full = h.comes absent full

    by : (o : Option File) → file_named name m.files ≡ o → P (creates_file name mirrors m o)
    by (Some f) e = h.refuses (reply.Exists name)
    by None e = within (is_full m.files) e refl

-- it is refused, waits, or a mirror goes, and may come as a file
pub record RemoveCases (P : Outcome (Unit {0}) → Type 0) (client : ℕ) (name : List ℕ) (mirror step : ℕ) (m : MetaView) : Type 0 where
  pub refuses : (answer : Reply) → P (Refuses answer)
  pub waits : (holder : ℕ) → P (Waits holder)
  pub goes : (f : File) → file_named name m.files ≡ Some f → keeping mirror f.layout.components ≡ None → lowest_but client f.lock ≡ None → P (Gives tt (with_break f.number step (lessened mirror f.layout) m))
  pub splits : (to : List ℕ) (f : File) → file_named name m.files ≡ Some f → keeping mirror f.layout.components ≡ None → wholly_fresh mirror f.layout.components ≡ true → file_named to m.files ≡ None → is_full m.files ≡ false → lowest_but client f.lock ≡ None
      → P (Gives tt (with_file to f.size (split_off mirror f.layout) (with_break f.number step (lessened mirror f.layout) m)))

module _ (P : Outcome (Unit {0}) → Type 0) (client : ℕ) (name : List ℕ) (mirror step : ℕ) (m : MetaView) (h : RemoveCases P client name mirror step m) where
  module _ (f : File) (there : file_named name m.files ≡ Some f) where
    gone_by : (o : Option ℕ) → keeping mirror f.layout.components ≡ None → lowest_but client f.lock ≡ o → P (removes_alone client mirror step m f None o)
    gone_by (Some holder) kept alone = h.waits holder
    gone_by None kept alone = h.goes f there kept alone

    split_by : (to : List ℕ) (o : Option ℕ) → keeping mirror f.layout.components ≡ None → wholly_fresh mirror f.layout.components ≡ true → file_named to m.files ≡ None → is_full m.files ≡ false → lowest_but client f.lock ≡ o → P (removes_alone client mirror step m f (Some to) o)
    split_by to (Some holder) kept fresh absent room alone = h.waits holder
    split_by to None kept fresh absent room alone = h.splits to f there kept fresh absent room alone

    within_by : (to : List ℕ) (b : Bool) → keeping mirror f.layout.components ≡ None → wholly_fresh mirror f.layout.components ≡ true → file_named to m.files ≡ None → is_full m.files ≡ b → P (splits_within client mirror step m f to b)
    within_by to true kept fresh absent full = h.refuses reply.TooManyFiles
    within_by to false kept fresh absent full = split_by to (lowest_but client f.lock) kept fresh absent full refl

    to_by : (to : List ℕ) (o : Option File) → keeping mirror f.layout.components ≡ None → wholly_fresh mirror f.layout.components ≡ true → file_named to m.files ≡ o → P (splits_to client mirror step m f to o)
    to_by to (Some other) kept fresh e = h.refuses (reply.Exists to)
    to_by to None kept fresh e = within_by to (is_full m.files) kept fresh e refl

    fresh_by : (to : List ℕ) (b : Bool) → keeping mirror f.layout.components ≡ None → wholly_fresh mirror f.layout.components ≡ b → P (splits_fresh client mirror step m f to b)
    fresh_by to false kept e = h.refuses (reply.StaleMirror mirror)
    fresh_by to true kept e = to_by to (file_named to m.files) kept e refl

    removes_to_by : (to : Option (List ℕ)) → keeping mirror f.layout.components ≡ None → P (removes_to client mirror step m f to)
    removes_to_by None kept = gone_by (lowest_but client f.lock) kept refl
    removes_to_by (Some to) kept = fresh_by to (wholly_fresh mirror f.layout.components) kept refl

    removes_from_by : (to : Option (List ℕ)) (o : Option StateError) → keeping mirror f.layout.components ≡ o → P (removes_from client mirror step m to f o)
    removes_from_by to (Some error) e = h.refuses (refusal_of error)
    removes_from_by to None e = removes_to_by to e

  removes_by : (to : Option (List ℕ)) (o : Option File) → file_named name m.files ≡ o → P (removes_file client mirror step m name to o)
  removes_by to None e = h.refuses (reply.NoFile name)
  removes_by to (Some f) e = removes_from_by f e to (keeping mirror f.layout.components) refl

  pub remove_cases : (to : Option (List ℕ)) → P (removes client name mirror to step m)
  remove_cases to = removes_by to (file_named name m.files) refl

-- it is refused, waits, or the flags of a component change
pub record SetCases (P : Outcome (Unit {0}) → Type 0) (client : ℕ) (name : List ℕ) (id : ℕ) (change : FlagSets) (step : ℕ) (m : MetaView) : Type 0 where
  pub refuses : (answer : Reply) → P (Refuses answer)
  pub waits : (holder : ℕ) → P (Waits holder)
  pub marks : (f : File) → file_named name m.files ≡ Some f → flags_refusal id change f.layout.components ≡ None → lowest_but client f.lock ≡ None → P (Gives tt (with_break f.number step (flagged id change f.layout) m))

pub set_cases : (P : Outcome (Unit {0}) → Type 0) (client : ℕ) (name : List ℕ) (id : ℕ) (change : FlagSets) (step : ℕ) (m : MetaView) → SetCases P client name id change step m → P (sets client name id change step m)
set_cases P client name id change step m h = by (file_named name m.files) refl
  where
    alone : (f : File) (o : Option ℕ) → file_named name m.files ≡ Some f → flags_refusal id change f.layout.components ≡ None → lowest_but client f.lock ≡ o → P (sets_alone client id change step m f o)
    alone f (Some holder) e kept a = h.waits holder
    alone f None e kept a = h.marks f e kept a

    on : (f : File) (o : Option StateError) → file_named name m.files ≡ Some f → flags_refusal id change f.layout.components ≡ o → P (sets_on client id change step m f o)
    on f (Some error) e kept = h.refuses (refusal_of error)
    on f None e kept = alone f (lowest_but client f.lock) e kept refl

    by : (o : Option File) → file_named name m.files ≡ o → P (sets_file client id change step m name o)
    by None e = h.refuses (reply.NoFile name)
    by (Some f) e = on f (flags_refusal id change f.layout.components) e refl
