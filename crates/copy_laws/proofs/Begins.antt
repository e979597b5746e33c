-- How a copy begins: with the components that are selected of the layout that its file had.
use Rattle.std.proofs.Common.{◌≡◌, ℕ, ◌==◌, Bool, true, false, List, length, Option, Some, None, refl, subst}
use Rattle.composite_layout.specs.declared.spec.MirrorSpec.{MirrorSpec}
use Rattle.composite_layout.specs.Layouts.{Composite}
use Rattle.composite_layout.specs.LookUps.{mirror_ids}
use Rattle.composite_layout.specs.Making.{part_count}
use Rattle.layout_lease.specs.Leases.{holder_of}
use Rattle.layout_lease.specs.Shares.{lowest_but}
use Rattle.layout_state.specs.declared.error.StateError.{StateError}
use Rattle.layout_state.specs.Mirroring.{excess}
use Rattle.layout_state.specs.Selecting.{absent_of, selected_of}
use Rattle.meta_server.specs.declared.answers.Begun.TheVariants as begun_as
use Rattle.meta_server.specs.declared.answers.CopyWhat.{CopyWhat}
use Rattle.meta_server.specs.declared.answers.CopyWhat.TheVariants.{Resync, Extend, Victim}
use Rattle.meta_server.specs.declared.answers.Side.{Side}
use Rattle.meta_server.specs.Beginning.{copy_begins_file, copy_begins_on, extend_alone, extend_begins, extend_leased, extend_wanted, merge_alone, merge_begins, merge_fits, merge_leased, merge_readable, resync_alone, resync_begins, resync_leased, resync_wanted, side_of}
use Rattle.meta_server.specs.Files.{File, MetaView, file_named, with_layout}
use Rattle.meta_server.specs.Layouts.{extended, new_ids, offline_byte}
use Rattle.meta_server.specs.Outcomes.{Gives}
use Rattle.resync_copy.proofs.BeginLaws.{IsBegun}

module _ (client : ℕ) (m : MetaView) (side : Side) (given : List ℕ) (after : MetaView) where
  here : (only : Option (List ℕ)) (f : File) (ids : List ℕ) (a : MetaView) → ids ≡ selected_of only f.layout.components → (length ids == 0) ≡ false → Gives (begun_as.Copy (side_of client ids f m) ids) a ≡ Gives (begun_as.Copy side given) after → IsBegun side given
  here only f ids a are some e =
      let s : side_of client ids f m ≡ side = cc in
      let i : ids ≡ given = cc in
      subst (λ (x : List ℕ). IsBegun side x) i (subst (λ (x : Side). IsBegun x ids) s (record { only = only; file = f.number; nexts = m.nexts; old = f.layout; layout = refl; are = are; some = some }))

  resync_one : (only : Option (List ℕ)) (f : File) (ids : List ℕ) (o : Option ℕ) → ids ≡ selected_of only f.layout.components → (length ids == 0) ≡ false → resync_alone client m f ids o ≡ Gives (begun_as.Copy side given) after → IsBegun side given
  resync_one only f ids (Some holder) are some e = absurd (cc)
  resync_one only f ids None are some e = here only f ids _ are some e

  resync_some : (only : Option (List ℕ)) (f : File) (ids : List ℕ) (b : Bool) → ids ≡ selected_of only f.layout.components → (length ids == 0) ≡ b → resync_wanted client m f ids b ≡ Gives (begun_as.Copy side given) after → IsBegun side given
  resync_some only f ids true are some e = absurd (cc)
  resync_some only f ids false are some e = resync_one only f ids (lowest_but client f.lock) are some e

  resync_free : (only : Option (List ℕ)) (f : File) (o : Option ℕ) → resync_leased client m only f o ≡ Gives (begun_as.Copy side given) after → IsBegun side given
  resync_free only f (Some holder) e = absurd (cc)
  resync_free only f None e = resync_some only f (selected_of only f.layout.components) _ refl refl e

  resync : (only : Option (List ℕ)) (f : File) (o : Option ℕ) → resync_begins client m only f o ≡ Gives (begun_as.Copy side given) after → IsBegun side given
  resync only f (Some id) e = absurd (cc)
  resync only f None e = resync_free only f (holder_of m.leases f.number) e

  extend_some : (only : Option (List ℕ)) (f : File) (ids : List ℕ) (b : Bool) → ids ≡ selected_of only f.layout.components → (length ids == 0) ≡ b → extend_wanted client m f ids b ≡ Gives (begun_as.Copy side given) after → IsBegun side given
  extend_some only f ids true are some e = absurd (cc)
  extend_some only f ids false are some e = here only f ids _ are some e

  extend_one : (mirrors : List MirrorSpec) (f : File) (o : Option ℕ) → extend_alone client m mirrors f o ≡ Gives (begun_as.Copy side given) after → IsBegun side given
  extend_one mirrors f (Some holder) e = absurd (cc)
  extend_one mirrors f None e =
      let l : Composite = extended mirrors (length m.nexts) f.layout in
      extend_some (Some (new_ids mirrors f.layout)) (with_layout l f) (selected_of (Some (new_ids mirrors f.layout)) l.components) _ refl refl e

  extend_free : (mirrors : List MirrorSpec) (f : File) (o : Option ℕ) → extend_leased client m mirrors f o ≡ Gives (begun_as.Copy side given) after → IsBegun side given
  extend_free mirrors f (Some holder) e = absurd (cc)
  extend_free mirrors f None e = extend_one mirrors f (lowest_but client f.lock) e

  extend : (mirrors : List MirrorSpec) (f : File) (o : Option StateError) → extend_begins client m mirrors f o ≡ Gives (begun_as.Copy side given) after → IsBegun side given
  extend mirrors f (Some error) e = absurd (cc)
  extend mirrors f None e = extend_free mirrors f (holder_of m.leases f.number) e

  merge_one : (f v : File) (o p : Option ℕ) → merge_alone client m f v o p ≡ Gives (begun_as.Copy side given) after → ⊥
  merge_one f v (Some holder) p e = cc
  merge_one f v None (Some holder) e = cc
  merge_one f v None None e = cc

  merge_read : (f v : File) (o p : Option ℕ) → merge_readable client m f v o p ≡ Gives (begun_as.Copy side given) after → ⊥
  merge_read f v (Some byte) p e = cc
  merge_read f v None (Some byte) e = cc
  merge_read f v None None e = merge_one f v (lowest_but client f.lock) (lowest_but client v.lock) e

  merge_free : (f v : File) (o p : Option ℕ) → merge_leased client m f v o p ≡ Gives (begun_as.Copy side given) after → ⊥
  merge_free f v (Some holder) p e = cc
  merge_free f v None (Some holder) e = cc
  merge_free f v None None e = merge_read f v (offline_byte f.layout) (offline_byte v.layout) e

  merge_fit : (f v : File) (o : Option StateError) → merge_fits client m f v o ≡ Gives (begun_as.Copy side given) after → ⊥
  merge_fit f v (Some error) e = cc
  merge_fit f v None e = merge_free f v (holder_of m.leases f.number) (holder_of m.leases v.number) e

  merge : (victim : List ℕ) (f : File) (o : Option File) → merge_begins client m victim f o ≡ Gives (begun_as.Copy side given) after → ⊥
  merge victim f None e = cc
  merge victim f (Some v) e = merge_fit f v (excess f.layout (length (mirror_ids v.layout.components)) (length v.layout.components) m.most) e

  on : (f : File) (what : CopyWhat) → copy_begins_on client m f what ≡ Gives (begun_as.Copy side given) after → IsBegun side given
  on f (Resync only) e = resync only f (absent_of only f.layout.components) e
  on f (Extend mirrors) e = extend mirrors f (excess f.layout (length mirrors) (part_count mirrors) m.most) e
  on f (Victim victim) e = absurd (merge victim f (file_named victim m.files) e)

  pub of_file : (name : List ℕ) (what : CopyWhat) (o : Option File) → copy_begins_file client m name what o ≡ Gives (begun_as.Copy side given) after → IsBegun side given
  of_file name what None e = absurd (cc)
  of_file name what (Some f) e = on f what e
