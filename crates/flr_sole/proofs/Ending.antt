-- The ends of copies leave the parts that count in the only fresh components.
use Rattle.std.proofs.Common.{◌≡◌, ℕ, true, Some, List, [], ◌⊎◌, inl, inr, refl, sym, ap, subst, ◌∙◌}
use Rattle.std.proofs.lemmas.Bool.{cases_eq, false≢true}
use Rattle.composite_layout.specs.declared.component.Component.{Component}
use Rattle.composite_layout.specs.Layouts.{Composite}
use Rattle.layout_lease.specs.declared.lease.KeyState.TheVariants.{Held}
use Rattle.layout_lease.specs.Leases.{KeyView, state_of}
use Rattle.layout_state.specs.Marking.{is_named}
use Rattle.mirror_select.proofs.Least.{In}
use Rattle.object_target.specs.TargetState.{TargetState}
use Rattle.meta_server.specs.Ending.{with_done, with_merge}
use Rattle.meta_server.specs.Files.{File, MetaView, changed, file_of, with_layout}
use Rattle.meta_server.specs.Layouts.{finished, merged}
use Rattle.meta_server.proofs.Placing.{number_found}
use Rattle.meta_laws.proofs.Finding.{found_without, other_found, same_found}
use Rattle.meta_laws.proofs.Opens.{one_file}
use Rattle.resync_copy.specs.Comparing.{ComparingView}
use Rattle.resync_copy.specs.Parts.{cleared_of}
use Rattle.resync_copy.specs.Views.{CopyingView}
use Rattle.resync_copy.proofs.PartLaws.{named}
use Rattle.flr_claims.specs.Sending.{Part, reach_of, reaches}
use Rattle.flr_sole.specs.Copies.{AreStill, IsReady}
use Rattle.flr_sole.specs.Sentences.{IsAlone, StandsAlone}
use Rattle.flr_sole.proofs.Excluding.{MayLand, cleared_over, none_on_ours, none_on_theirs, none_reaches}
use Rattle.flr_sole.proofs.Layouts.{finished_keeps}

-- ---- the ends

module _ (m : MetaView) (targets : List TargetState) (lands : ℕ → Part → Type 0) where
  -- the parts that have landed, and those that may land
  abbrev pub counting : ℕ → Part → Type 0
  counting n p = lands n p ⊎ MayLand m targets n p

  -- a copy is done
  pub done_spares : (key : KeyView) (cleared : List ℕ) (f : File) → state_of m.leases key ≡ Held → file_of key.file m.files ≡ Some f
      → (cleared ≡ []) ⊎ ((x : CopyingView) × (x.side.key ≡ key) × (cleared ≡ cleared_of x.destinations) × IsReady m targets lands x)
      → (n : ℕ) (p : Part) → counting n p → StandsAlone m.files n p → StandsAlone (with_done key cleared f m).files n p
  done_spares key cleared f held e says n p counted stands = by (cases_eq n f.number)
    where
      own : f.number ≡ key.file
      own = number_found key.file m.files f e

      change : File → File
      change = with_layout (finished cleared f.layout)

      never : (a : IsAlone f.layout.components p) → n ≡ f.number → (c : Component) → In c f.layout.components → is_named cleared c ≡ true → reaches p c ≡ true → ⊥
      never a here c i named meets = at says
        where
          at : (cleared ≡ []) ⊎ ((x : CopyingView) × (x.side.key ≡ key) × (cleared ≡ cleared_of x.destinations) × IsReady m targets lands x) → ⊥
          at (inl none) = false≢true (ap (λ (ids : List ℕ). is_named ids c) (sym none) ∙ named)
          at (inr r) =
              let x : CopyingView = r.0 in
              let standing : state_of m.leases x.side.key ≡ Held = ap (state_of m.leases) r.1 ∙ held in
              let file : n ≡ x.side.key.file = here ∙ own ∙ ap (λ (k : KeyView). k.file) (sym r.1) in
              let there : file_of x.side.key.file m.files ≡ Some f = ap (λ (k : KeyView). file_of k.file m.files) r.1 ∙ e in
              let layout : f.layout ≡ x.side.layout = r.3.0.0.1 standing f there in
              let over = cleared_over m targets x r.3.0.0.2 r.3.0.1 c (reach_of p) (subst (λ (l : Composite). In c l.components) layout i) (ap (λ (ids : List ℕ). is_named ids c) (sym r.2) ∙ named) meets in
              none_reaches m targets lands x r.3 standing p (subst (λ k. StandsAlone m.files k p) file stands) (subst (λ k. counting k p) file counted) over

      by : (n ≡ f.number) ⊎ (n ≡ f.number → ⊥) → StandsAlone (with_done key cleared f m).files n p
      by (inl here) =
          let found : file_of f.number m.files ≡ Some f = ap (λ k. file_of k m.files) own ∙ e in
          let one : stands.file ≡ f = one_file (file_of f.number m.files) stands.file f (ap (λ k. file_of k m.files) (sym here) ∙ stands.there) found in
          let a : IsAlone f.layout.components p = subst (λ (y : File). IsAlone y.layout.components p) one stands.alone in
          record {
            file = change f;
            there = ap (λ k. file_of k (changed f.number change m.files)) here ∙ same_found f.number change m.files f (λ y. refl) found;
            alone = finished_keeps cleared f.layout p a (λ c i named stale meets. never a here c i named meets);
          }
      by (inr apart) = record { file = stands.file; there = other_found n f.number change m.files (λ y. refl) apart ∙ stands.there; alone = stands.alone }

  -- a file is taken in
  pub merge_spares : (ours theirs : KeyView) (f v : File) → state_of m.leases ours ≡ Held → state_of m.leases theirs ≡ Held → file_of ours.file m.files ≡ Some f → file_of theirs.file m.files ≡ Some v
      → (x : ComparingView) × (x.ours.key ≡ ours) × (x.theirs.key ≡ theirs) × AreStill m targets lands x
      → (n : ℕ) (p : Part) → counting n p → StandsAlone m.files n p → StandsAlone (with_merge ours theirs m f v).files n p
  merge_spares ours theirs f v held held_too e k r n p counted stands = by (cases_eq n f.number) (cases_eq n v.number)
    where
      change : File → File
      change = with_layout (merged v.layout f.layout)

      on_ours : n ≡ f.number → ⊥
      on_ours here =
          let file : n ≡ r.0.ours.key.file = here ∙ number_found ours.file m.files f e ∙ ap (λ (y : KeyView). y.file) (sym r.1) in
          none_on_ours m targets lands r.0 r.3 (ap (state_of m.leases) r.1 ∙ held) p (subst (λ i. StandsAlone m.files i p) file stands) (subst (λ i. counting i p) file counted)

      on_theirs : n ≡ v.number → ⊥
      on_theirs here =
          let file : n ≡ r.0.theirs.key.file = here ∙ number_found theirs.file m.files v k ∙ ap (λ (y : KeyView). y.file) (sym r.2) in
          none_on_theirs m targets lands r.0 r.3 (ap (state_of m.leases) r.2 ∙ held_too) p (subst (λ i. StandsAlone m.files i p) file stands) (subst (λ i. counting i p) file counted)

      by : (n ≡ f.number) ⊎ (n ≡ f.number → ⊥) → (n ≡ v.number) ⊎ (n ≡ v.number → ⊥) → StandsAlone (with_merge ours theirs m f v).files n p
      by (inl here) other = absurd (on_ours here)
      by (inr apart) (inl here) = absurd (on_theirs here)
      by (inr apart) (inr away) = record { file = stands.file; there = found_without n v.number (changed f.number change m.files) away ∙ other_found n f.number change m.files (λ y. refl) apart ∙ stands.there; alone = stands.alone }
