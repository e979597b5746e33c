-- A merge that took its victim in found both files there, and so the same.
use Rattle.std.proofs.Common.{◌≡◌, ℕ, ◌==◌, Bool, true, false, List, [], ◌∷◌, ◌++◌, length, Option, None, Some, refl, sym, ap, subst, ◌∙◌, inl, inr}
use Rattle.std.specs.Prelude.{is_some, option_map, ◌⊎◌}
use Rattle.std.proofs.lemmas.Bool.{false≢true}
use Rattle.flr_base.specs.declared.reply.Reply.TheVariants as reply
use Rattle.flr_base.specs.declared.reply.Take.{Take}
use Rattle.composite_layout.specs.declared.spec.MirrorSpec.{MirrorSpec}
use Rattle.composite_layout.specs.Layouts.{Composite}
use Rattle.composite_layout.specs.LookUps.{mirror_ids}
use Rattle.composite_layout.specs.Making.{part_count}
use Rattle.layout_lease.specs.declared.lease.KeyState.{KeyState}
use Rattle.layout_lease.specs.declared.lease.KeyState.TheVariants.{Held, Broken}
use Rattle.layout_lease.specs.Leases.{KeyView, holder_of, state_of}
use Rattle.layout_lease.specs.Shares.{lowest_but}
use Rattle.layout_state.specs.declared.error.StateError.{StateError}
use Rattle.layout_state.specs.Mirroring.{excess}
use Rattle.layout_state.specs.Selecting.{absent_of, selected_of}
use Rattle.meta_server.specs.declared.answers.Begun.TheVariants as begun_as
use Rattle.meta_server.specs.declared.answers.CopyWhat.{CopyWhat}
use Rattle.meta_server.specs.declared.answers.CopyWhat.TheVariants.{Resync, Extend, Victim}
use Rattle.meta_server.specs.declared.answers.Side.{Side}
use Rattle.meta_server.specs.Beginning.{copy_begins_file, copy_begins_on, extend_alone, extend_begins, extend_leased, extend_wanted, merge_alone, merge_begins, merge_fits, merge_leased, merge_readable, resync_alone, resync_begins, resync_leased, resync_wanted, side_of, with_begin}
use Rattle.meta_server.specs.Closing.{is_there, size_of}
use Rattle.meta_server.specs.Ending.{merge_ends, merge_ends_by, merge_ends_files}
use Rattle.meta_server.specs.Files.{File, MetaView, file_named, file_of, with_layout}
use Rattle.meta_server.specs.Layouts.{extended, new_ids, offline_byte}
use Rattle.meta_server.specs.Outcomes.{Gives}
use Rattle.call_steps.specs.Runs.{CallStep, IsRunOf, call_after, place_after}
use Rattle.call_steps.specs.Servers.{Servers}
use Rattle.call_steps.specs.Steps.{Answered}
use Rattle.call_steps.proofs.RunLaws.{split}
use Rattle.resync_copy.specs.declared.phase.CopyAt.{CopyAt}
use Rattle.resync_copy.specs.Calls.{CopyView}
use Rattle.resync_copy.specs.Copies.{new_copy}
use Rattle.resync_copy.specs.Merges.{ends_merge}
use Rattle.resync_copy.specs.Steps.{copy_at, copy_step}
use Rattle.copy_laws.specs.Merged.{AreSame, Gone, IsMerging, MayTakeIn, MergedAreSame, Same}
use Rattle.copy_laws.proofs.MergeGoing.{merging_more}
use Rattle.copy_laws.proofs.MergeKeeping.{merges_where_same}

-- ---- both sides of a begin are of the files of their keys

abbrev AreOfKeys : Side → Side → Type 0
AreOfKeys ours theirs = (ours.key.file ≡ ours.file) × (theirs.key.file ≡ theirs.file)

module _ (client : ℕ) (m : MetaView) (ours theirs : Side) (after : MetaView) where
  resync_one : (f : File) (ids : List ℕ) (o : Option ℕ) → resync_alone client m f ids o ≡ Gives (begun_as.Merge ours theirs) after → ⊥
  resync_one f ids (Some holder) e = cc
  resync_one f ids None e = cc

  resync_some : (f : File) (ids : List ℕ) (b : Bool) → resync_wanted client m f ids b ≡ Gives (begun_as.Merge ours theirs) after → ⊥
  resync_some f ids true e = cc
  resync_some f ids false e = resync_one f ids (lowest_but client f.lock) e

  resync_free : (only : Option (List ℕ)) (f : File) (o : Option ℕ) → resync_leased client m only f o ≡ Gives (begun_as.Merge ours theirs) after → ⊥
  resync_free only f (Some holder) e = cc
  resync_free only f None e = resync_some f (selected_of only f.layout.components) (length (selected_of only f.layout.components) == 0) e

  resync : (only : Option (List ℕ)) (f : File) (o : Option ℕ) → resync_begins client m only f o ≡ Gives (begun_as.Merge ours theirs) after → ⊥
  resync only f (Some id) e = cc
  resync only f None e = resync_free only f (holder_of m.leases f.number) e

  extend_some : (f : File) (ids : List ℕ) (b : Bool) → extend_wanted client m f ids b ≡ Gives (begun_as.Merge ours theirs) after → ⊥
  extend_some f ids true e = cc
  extend_some f ids false e = cc

  extend_one : (mirrors : List MirrorSpec) (f : File) (o : Option ℕ) → extend_alone client m mirrors f o ≡ Gives (begun_as.Merge ours theirs) after → ⊥
  extend_one mirrors f (Some holder) e = cc
  extend_one mirrors f None e =
      let l : Composite = extended mirrors (length m.nexts) f.layout in
      let ids : List ℕ = selected_of (Some (new_ids mirrors f.layout)) l.components in
      extend_some (with_layout l f) ids (length ids == 0) e

  extend_free : (mirrors : List MirrorSpec) (f : File) (o : Option ℕ) → extend_leased client m mirrors f o ≡ Gives (begun_as.Merge ours theirs) after → ⊥
  extend_free mirrors f (Some holder) e = cc
  extend_free mirrors f None e = extend_one mirrors f (lowest_but client f.lock) e

  extend : (mirrors : List MirrorSpec) (f : File) (o : Option StateError) → extend_begins client m mirrors f o ≡ Gives (begun_as.Merge ours theirs) after → ⊥
  extend mirrors f (Some error) e = cc
  extend mirrors f None e = extend_free mirrors f (holder_of m.leases f.number) e

  merge_one : (f v : File) (o p : Option ℕ) → merge_alone client m f v o p ≡ Gives (begun_as.Merge ours theirs) after → AreOfKeys ours theirs
  merge_one f v (Some holder) p e = absurd (cc)
  merge_one f v None (Some holder) e = absurd (cc)
  merge_one f v None None e =
      let a : side_of client [] f m ≡ ours = cc in
      let b : side_of client [] v (with_begin client [] f m) ≡ theirs = cc in
      (subst (λ (x : Side). x.key.file ≡ x.file) a refl, subst (λ (x : Side). x.key.file ≡ x.file) b refl)

  merge_read : (f v : File) (o p : Option ℕ) → merge_readable client m f v o p ≡ Gives (begun_as.Merge ours theirs) after → AreOfKeys ours theirs
  merge_read f v (Some byte) p e = absurd (cc)
  merge_read f v None (Some byte) e = absurd (cc)
  merge_read f v None None e = merge_one f v (lowest_but client f.lock) (lowest_but client v.lock) e

  merge_free : (f v : File) (o p : Option ℕ) → merge_leased client m f v o p ≡ Gives (begun_as.Merge ours theirs) after → AreOfKeys ours theirs
  merge_free f v (Some holder) p e = absurd (cc)
  merge_free f v None (Some holder) e = absurd (cc)
  merge_free f v None None e = merge_read f v (offline_byte f.layout) (offline_byte v.layout) e

  merge_fit : (f v : File) (o : Option StateError) → merge_fits client m f v o ≡ Gives (begun_as.Merge ours theirs) after → AreOfKeys ours theirs
  merge_fit f v (Some error) e = absurd (cc)
  merge_fit f v None e = merge_free f v (holder_of m.leases f.number) (holder_of m.leases v.number) e

  merge : (victim : List ℕ) (f : File) (o : Option File) → merge_begins client m victim f o ≡ Gives (begun_as.Merge ours theirs) after → AreOfKeys ours theirs
  merge victim f None e = absurd (cc)
  merge victim f (Some v) e = merge_fit f v (excess f.layout (length (mirror_ids v.layout.components)) (length v.layout.components) m.most) e

  on : (f : File) (what : CopyWhat) → copy_begins_on client m f what ≡ Gives (begun_as.Merge ours theirs) after → AreOfKeys ours theirs
  on f (Resync only) e = absurd (resync only f (absent_of only f.layout.components) e)
  on f (Extend mirrors) e = absurd (extend mirrors f (excess f.layout (length mirrors) (part_count mirrors) m.most) e)
  on f (Victim victim) e = merge victim f (file_named victim m.files) e

  of_file : (name : List ℕ) (what : CopyWhat) (o : Option File) → copy_begins_file client m name what o ≡ Gives (begun_as.Merge ours theirs) after → AreOfKeys ours theirs
  of_file name what None e = absurd (cc)
  of_file name what (Some f) e = on f what e

-- ---- where a file is taken in both are there

module _ (c : CopyView) (s : Servers) (ours theirs : KeyView) (ids : List ℕ) (takes : List Take) (after : Servers) where
  abbrev AreBothThere : Type 0
  AreBothThere = (is_there ours.file s.meta ≡ true) × (is_there theirs.file s.meta ≡ true)

  some_both : (a b : Option File) → ends_merge c s (merge_ends_files ours theirs s.meta a b) ≡ Answered (reply.Merged ids) takes after → (is_some a ≡ true) × (is_some b ≡ true)
  some_both None b e = absurd (cc)
  some_both (Some f) None e = absurd (cc)
  some_both (Some f) (Some v) e = (refl, refl)

  both_by : (a b : KeyState) → ends_merge c s (merge_ends_by ours theirs s.meta a b) ≡ Answered (reply.Merged ids) takes after → AreBothThere
  both_by (Broken step) b e = absurd (cc)
  both_by Held (Broken step) e = absurd (cc)
  both_by Held Held e = some_both (file_of ours.file s.meta.files) (file_of theirs.file s.meta.files) e

  both_there : ends_merge c s (merge_ends ours theirs s.meta) ≡ Answered (reply.Merged ids) takes after → AreBothThere
  both_there e = both_by (state_of s.meta.leases ours) (state_of s.meta.leases theirs) e

-- what has no size isn't there
not_there : (o : Option File) → option_map (λ (f : File). f.size) o ≡ None → is_some o ≡ false
not_there None e = refl
not_there (Some f) e = absurd (cc)

-- ---- the last step of a run

came_of : (made : CallStep CopyView) (call : Option CopyView) (last : ℕ) → IsRunOf copy_step (made ∷ []) call last → made.came ≡ copy_at made.call.at made.call made.before
came_of made None last run = absurd run
came_of made (Some call) last run = run.0.came ∙ ap (λ (v : CopyView). copy_at v.at v made.before) (sym run.0.same)

pub merged_are_same : MergedAreSame
merged_are_same client name what steps made ours theirs ids takes after run all stay done merged = by (merges_where_same client name what steps made ours theirs run all done)
  where
    c : CopyView
    c = new_copy client name what

    came : made.came ≡ ends_merge made.call made.before (merge_ends ours theirs made.before.meta)
    came = came_of made (call_after steps (Some c)) (place_after steps 0) (split copy_step steps (made ∷ []) (Some c) 0 run).1 ∙ ap (λ (a : CopyAt). copy_at a made.call made.before) done

    there : AreBothThere made.call made.before ours theirs ids takes after
    there = both_there made.call made.before ours theirs ids takes after (sym came ∙ merged)

    -- no file of a key that is there at the end was gone before
    lies : (side : Side) (key : KeyView) (front between : List (CallStep CopyView)) (settle : CallStep CopyView) → side.key ≡ key → side.key.file ≡ side.file → steps ++ made ∷ [] ≡ front ++ settle ∷ (between ++ made ∷ [])
        → is_there key.file made.before.meta ≡ true → size_of side.file settle.before.meta ≡ None → ⊥
    lies side key front between settle of same order is gone =
        let late : is_there side.file made.before.meta ≡ false = stay front between [] settle made side.file order (not_there (file_of side.file settle.before.meta.files) gone) in
        let file : key.file ≡ side.file = ap (λ (k : KeyView). k.file) (sym of) ∙ same in
        false≢true (sym late ∙ ap (λ (n : ℕ). is_there n made.before.meta) (sym file) ∙ is)

    by : MayTakeIn c ours theirs steps → AreSame c ours theirs steps
    by (Same same) = same
    by (Gone our_side their_side our_key their_key g) = absurd (either g.gone)
      where
        of : AreOfKeys our_side their_side
        of = of_file client g.merging.begin.before.meta our_side their_side g.merging.begin.after.meta name what (file_named name g.merging.begin.before.meta.files) g.merging.begun

        more : IsMerging c our_side their_side (steps ++ made ∷ []) g.settle (g.takes ++ made ∷ [])
        more = merging_more c our_side their_side steps g.settle g.takes (made ∷ []) g.merging

        either : (size_of our_side.file g.settle.before.meta ≡ None) ⊎ (size_of their_side.file g.settle.before.meta ≡ None) → ⊥
        either (inl gone) = lies our_side ours (more.begin ∷ more.fences) g.takes g.settle our_key of.0 more.in_order there.0 gone
        either (inr gone) = lies their_side theirs (more.begin ∷ more.fences) g.takes g.settle their_key of.1 more.in_order there.1 gone
