-- What a copy knows stays with it through a step of another client.
use Rattle.std.proofs.Common.{◌≡◌, ℕ, ◌+◌, Bool, true, false, cond, Option, Some, None, List, [], ◌∷◌, length, find, ◌⊎◌, inl, inr, refl, sym, ap, subst, ◌∙◌, arith}
use Rattle.std.specs.List.{AllByRecursion}
use Rattle.std.specs.Option.{option_map_or}
use Rattle.composite_layout.specs.Layouts.{Composite}
use Rattle.layout_lease.specs.declared.lease.KeyState.{KeyState}
use Rattle.layout_lease.specs.declared.lease.KeyState.TheVariants.{Held, Broken}
use Rattle.layout_lease.specs.declared.lease.Lease.{Lease}
use Rattle.layout_lease.specs.Leases.{KeyView, is_key, is_unbroken, state_of}
use Rattle.layout_lease.proofs.Lists.{find_passes}
use Rattle.object_target.specs.TargetState.{TargetState}
use Rattle.meta_server.specs.declared.answers.Side.{Side}
use Rattle.meta_server.specs.Files.{File, MetaView, file_of}
use Rattle.meta_server.specs.Sound.{IsUnderCopy, IsCovered, IsSound}
use Rattle.resync_copy.specs.declared.merge_phase.MergeStage.{MergeStage}
use Rattle.resync_copy.specs.declared.merge_phase.MergeStage.TheVariants as merge
use Rattle.resync_copy.specs.declared.phase.CopyAt.{CopyAt}
use Rattle.resync_copy.specs.declared.phase.CopyAt.TheVariants as at
use Rattle.resync_copy.specs.declared.phase.CopyStage.{CopyStage}
use Rattle.resync_copy.specs.declared.phase.CopyStage.TheVariants as stage
use Rattle.resync_copy.specs.Comparing.{ComparingView, merge_fences}
use Rattle.resync_copy.specs.Parts.{overlaps_kept}
use Rattle.resync_copy.specs.Views.{CopyingView, fences_of, resets_of}
use Rattle.flr_numbers.specs.Copies.{copy_hand, merge_hand, stage_hand}
use Rattle.flr_numbers.specs.Frames.{Leases}
use Rattle.flr_behind.proofs.Following.{same_file}
use Rattle.flr_claims.specs.Sending.{Part, reach_of}
use Rattle.flr_sole.specs.Copies.{AreStill, CopySays, IsBegun, IsReady, IsSideOf, MergeSays, StageSays}
use Rattle.flr_sole.specs.Sentences.{StandsAlone}
use Rattle.flr_sole.proofs.Excluding.{MayLand, none_on_ours, none_on_theirs, none_reaches}
use Rattle.flr_sole.proofs.Readying.{both_up, fenced_up, reset_up}
use Rattle.flr_sole.proofs.Targets.{Grows}

-- ---- fewer parts have landed

module _ (m : MetaView) (targets : List TargetState) (lands fewer : ℕ → Part → Type 0) (less : (n : ℕ) (p : Part) → fewer n p → lands n p) where
  ready_fewer : (x : CopyingView) → IsReady m targets lands x → IsReady m targets fewer x
  ready_fewer x r = (r.0, r.1, r.2, λ held p landed over. r.3 held p (less x.side.key.file p landed) over)

  still_fewer : (x : ComparingView) → AreStill m targets lands x → AreStill m targets fewer x
  still_fewer x r = (r.0, r.1, r.2, λ held p landed over. r.3 held p (less x.ours.key.file p landed) over, λ held p landed over. r.4 held p (less x.theirs.key.file p landed) over)

  stage_fewer : (next : CopyStage) → StageSays m targets lands next → StageSays m targets fewer next
  stage_fewer (stage.Fence x next) says = says
  stage_fewer (stage.Reset x next) says = says
  stage_fewer (stage.Settle x) says = says
  stage_fewer (stage.Take k) says = ready_fewer k.copying says
  stage_fewer (stage.Put k bytes) says = ready_fewer k.copying says
  stage_fewer (stage.Done key cleared left) (inl none) = inl none
  stage_fewer (stage.Done key cleared left) (inr r) = inr (r.0, r.1, r.2, ready_fewer r.0 r.3)

  merge_fewer : (next : MergeStage) → MergeSays m targets lands next → MergeSays m targets fewer next
  merge_fewer (merge.Fence x next) says = says
  merge_fewer (merge.Settle x) says = says
  merge_fewer (merge.TakeOurs p) says = still_fewer p.comparing says
  merge_fewer (merge.TakeTheirs p ours) says = still_fewer p.comparing says
  merge_fewer (merge.Done ours theirs (Some kept)) says = says
  merge_fewer (merge.Done ours theirs None) r = (r.0, r.1, r.2, still_fewer r.0 r.3)

  pub says_fewer : (a : CopyAt) → CopySays m targets lands a → CopySays m targets fewer a
  says_fewer at.Begin says = tt
  says_fewer (at.Copy next) says = stage_fewer next says
  says_fewer (at.Merge next) says = merge_fewer next says

-- ---- a lease that stands

found_holds : {X : Type 0} (p : X → Bool) (P : X → Type 0) (xs : List X) (x : X) → find p xs ≡ Some x → AllByRecursion P xs → P x
found_holds p P [] x e h = absurd (cc)
found_holds p P (y ∷ ys) x e h = by (p y) e (λ k. found_holds p P ys x k h.1)
  where
    by : (b : Bool) → cond b (Some y) (find p ys) ≡ Some x → (find p ys ≡ Some x → P x) → P x
    by true e rest = let same : y ≡ x = cc in subst P same h.0
    by false e rest = rest e

-- while a lease stands its file is there
pub held_there : (m : MetaView) (key : KeyView) → IsSound m → state_of m.leases key ≡ Held → (f : File) × (file_of key.file m.files ≡ Some f)
held_there m key h held = there (file_of key.file m.files) refl (by (find (is_key key) m.leases.keys) refl held)
  where
    by : (o : Option Lease) → find (is_key key) m.leases.keys ≡ o → option_map_or (λ (lease : Lease). lease.state) o (Broken 0) ≡ Held → IsUnderCopy (file_of key.file m.files)
    by None is e = absurd (cc)
    by (Some lease) is e =
        subst (λ n. IsUnderCopy (file_of n m.files)) (same_file key lease (find_passes (is_key key) m.leases.keys lease is))
        (found_holds (is_key key) (IsCovered m.files) m.leases.keys lease is h.covered (ap is_unbroken e))

    there : (o : Option File) → file_of key.file m.files ≡ o → IsUnderCopy o → (f : File) × (file_of key.file m.files ≡ Some f)
    there None e c = absurd c
    there (Some f) e c = (f, e)

-- a lease whose file keeps whatever layout it has was standing where it stands
pub held_before : (m new : MetaView) (key : KeyView) → IsSound new → ((l : Composite) → Leases m key l → Leases new key l) → state_of new.leases key ≡ Held → state_of m.leases key ≡ Held
held_before m new key h keeps held = by (state_of m.leases key) refl (held_there new key h held)
  where
    by : (s : KeyState) → state_of m.leases key ≡ s → (f : File) × (file_of key.file new.files ≡ Some f) → state_of m.leases key ≡ Held
    by Held e w = e
    by (Broken place) e w =
        let l : Composite = record w.0.layout { generation = w.0.layout.generation + 1 } in
        let never : Leases m key l = λ stood f found. absurd (let no : Held ≡ Broken place = sym stood ∙ e in cc) in
        let same : w.0.layout ≡ l = keeps l never held w.0 w.1 in
        let level : w.0.layout.generation ≡ w.0.layout.generation + 1 = ap (λ (x : Composite). x.generation) same in
        absurd (omega (arith, level))

-- ---- a step of another client

module _ (m new : MetaView) (targets fresh : List TargetState) (lands now : ℕ → Part → Type 0) (mine : KeyView → Type 0) (up : Grows targets fresh) (leases : (key : KeyView) (l : Composite) → mine key → Leases m key l → Leases new key l)
    (held : (key : KeyView) → mine key → state_of new.leases key ≡ Held → state_of m.leases key ≡ Held) (from : (n : ℕ) (p : Part) → now n p → lands n p ⊎ (MayLand m targets n p × StandsAlone m.files n p)) where
  side_still : (side : Side) → mine side.key → IsSideOf m side → IsSideOf new side
  side_still side own is = (is.0, leases side.key side.layout own is.1, is.2)

  ready_still : (x : CopyingView) → mine x.side.key → IsReady m targets lands x → IsReady new fresh now x
  ready_still x own r = ((side_still x.side own r.0.0, r.0.1), fenced_up targets fresh x (length (fences_of x)) up r.1, reset_up targets fresh x (length (resets_of x)) up r.2, λ stands p landed over. by p over (held x.side.key own stands) (from x.side.key.file p landed))
    where
      by : (p : Part) → overlaps_kept x.destinations (reach_of p) ≡ true → state_of m.leases x.side.key ≡ Held → lands x.side.key.file p ⊎ (MayLand m targets x.side.key.file p × StandsAlone m.files x.side.key.file p) → ⊥
      by p over stood (inl landed) = r.3 stood p landed over
      by p over stood (inr may) = none_reaches m targets lands x r stood p may.1 (inr may.0) over

  begun_still : (x : CopyingView) → mine x.side.key → IsBegun m x → IsBegun new x
  begun_still x own b = (side_still x.side own b.0, b.1)

  both_still : (x : ComparingView) → mine x.ours.key → mine x.theirs.key → AreStill m targets lands x → AreStill new fresh now x
  both_still x own own_too r = (
    side_still x.ours own r.0,
    side_still x.theirs own_too r.1,
    both_up targets fresh x (length (merge_fences x)) up r.2,
    λ stands p landed over. ours p (held x.ours.key own stands) (from x.ours.key.file p landed),
    λ stands p landed over. theirs p (held x.theirs.key own_too stands) (from x.theirs.key.file p landed),
  )
    where
      ours : (p : Part) → state_of m.leases x.ours.key ≡ Held → lands x.ours.key.file p ⊎ (MayLand m targets x.ours.key.file p × StandsAlone m.files x.ours.key.file p) → ⊥
      ours p stood (inl landed) = r.3 stood p landed refl
      ours p stood (inr may) = none_on_ours m targets lands x r stood p may.1 (inr may.0)

      theirs : (p : Part) → state_of m.leases x.theirs.key ≡ Held → lands x.theirs.key.file p ⊎ (MayLand m targets x.theirs.key.file p × StandsAlone m.files x.theirs.key.file p) → ⊥
      theirs p stood (inl landed) = r.4 stood p landed refl
      theirs p stood (inr may) = none_on_theirs m targets lands x r stood p may.1 (inr may.0)

  stage_still : (next : CopyStage) → AllByRecursion mine (stage_hand next).keys → StageSays m targets lands next → StageSays new fresh now next
  stage_still (stage.Fence x next) own says = (begun_still x own.0 says.0, fenced_up targets fresh x next up says.1)
  stage_still (stage.Reset x next) own says = (begun_still x own.0 says.0, fenced_up targets fresh x (length (fences_of x)) up says.1, reset_up targets fresh x next up says.2)
  stage_still (stage.Settle x) own says = (begun_still x own.0 says.0, fenced_up targets fresh x (length (fences_of x)) up says.1, reset_up targets fresh x (length (resets_of x)) up says.2)
  stage_still (stage.Take k) own says = ready_still k.copying own.0 says
  stage_still (stage.Put k bytes) own says = ready_still k.copying own.0 says
  stage_still (stage.Done key cleared left) own (inl none) = inl none
  stage_still (stage.Done key cleared left) own (inr r) = inr (r.0, r.1, r.2, ready_still r.0 (subst mine (sym r.1) own.0) r.3)

  merge_still : (next : MergeStage) → AllByRecursion mine (merge_hand next).keys → MergeSays m targets lands next → MergeSays new fresh now next
  merge_still (merge.Fence x next) own says = (side_still x.ours own.0 says.0, side_still x.theirs own.1.0 says.1, both_up targets fresh x next up says.2)
  merge_still (merge.Settle x) own says = (side_still x.ours own.0 says.0, side_still x.theirs own.1.0 says.1, both_up targets fresh x (length (merge_fences x)) up says.2)
  merge_still (merge.TakeOurs p) own says = both_still p.comparing own.0 own.1.0 says
  merge_still (merge.TakeTheirs p ours) own says = both_still p.comparing own.0 own.1.0 says
  merge_still (merge.Done ours theirs (Some kept)) own says = tt
  merge_still (merge.Done ours theirs None) own r = (r.0, r.1, r.2, both_still r.0 (subst mine (sym r.1) own.0) (subst mine (sym r.2) own.1.0) r.3)

  pub says_still : (a : CopyAt) → AllByRecursion mine (copy_hand a).keys → CopySays m targets lands a → CopySays new fresh now a
  says_still at.Begin own says = tt
  says_still (at.Copy next) own says = stage_still next own says
  says_still (at.Merge next) own says = merge_still next own says
