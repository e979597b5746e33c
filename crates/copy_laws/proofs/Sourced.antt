-- Each byte of a destination has a component to be taken from, when the copy begins.
use Rattle.std.proofs.Common.{◌≡◌, ℕ, ◌<◌, ◌≤◌, Bool, true, false, not, ◌&&◌, cond, eqb, eq-eqb, List, [], ◌∷◌, map, filter, None, Some, refl, sym, ap, subst, ◌∙◌, inl, inr}
use Rattle.std.specs.List.{list_any}
use Rattle.std.specs.Prelude.{nat_le, nat_lt}
use Rattle.std.proofs.lemmas.Bool.{and_from, and_parts, eqb-true, false≢true}
use Rattle.flr_base.specs.declared.reply.Range.{Range}
use Rattle.composite_layout.specs.declared.component.Component.{Component}
use Rattle.composite_layout.specs.Layouts.{Composite, IsValid}
use Rattle.layout_state.specs.Making.{gets_objects, made_for, nexts_for, with_made, with_new_objects}
use Rattle.layout_state.specs.Marking.{Frame, is_named}
use Rattle.layout_state.specs.Selecting.{has_source, in_order, is_selected, is_source}
use Rattle.layout_state.proofs.ChoiceLaws.{is_among}
use Rattle.layout_state.proofs.ObjectLaws.{made_frame, made_stale}
use Rattle.layout_state.proofs.SelectLaws.{among_in_order, selected_from_test}
use Rattle.mirror_select.specs.Candidates.{chosen, is_candidate}
use Rattle.mirror_select.proofs.Choices.{nobody_chosen}
use Rattle.mirror_select.proofs.Least.{In, any_in, some_in}
use Rattle.meta_server.specs.declared.answers.Begun.TheVariants as begun_as
use Rattle.meta_server.specs.declared.answers.CopyWhat.{CopyWhat}
use Rattle.meta_server.specs.declared.answers.Side.{Side}
use Rattle.meta_server.specs.Beginning.{copy_begins}
use Rattle.meta_server.specs.Files.{MetaView, file_named}
use Rattle.meta_server.specs.Outcomes.{Gives}
use Rattle.resync_copy.specs.Parts.{with_id}
use Rattle.resync_copy.proofs.BeginLaws.{IsBegun}
use Rattle.copy_laws.proofs.Begins.{of_file}
use Rattle.copy_laws.proofs.Places.{with_own}

-- ---- who has a selected id

in_passing : (p : Component → Bool) (cs : List Component) (id : ℕ) → In id (map (λ (c : Component). c.id) (filter p cs)) → (c : Component) × In c cs × (p c ≡ true) × (c.id ≡ id)
in_passing p [] id i = absurd i
in_passing p (x ∷ xs) id i = by (λ j. in_passing p xs id j) (p x) refl i
  where
    later : (c : Component) × In c xs × (p c ≡ true) × (c.id ≡ id) → (c : Component) × In c (x ∷ xs) × (p c ≡ true) × (c.id ≡ id)
    later r = (r.0, inr r.1, r.2, r.3)

    by : (In id (map (λ (c : Component). c.id) (filter p xs)) → (c : Component) × In c xs × (p c ≡ true) × (c.id ≡ id)) → (b : Bool) → p x ≡ b → In id (map (λ (c : Component). c.id) (cond b (x ∷ filter p xs) (filter p xs)))
        → (c : Component) × In c (x ∷ xs) × (p c ≡ true) × (c.id ≡ id)
    by others true e (inl same) = (x, inl refl, e, same)
    by others true e (inr j) = later (others j)
    by others false e j = later (others j)

in_unordered : (k : ℕ) (ks : List ℕ) → In k (in_order ks) → In k ks
in_unordered k ks i =
    let here : is_among k (in_order ks) ≡ true = any_in (λ (x : ℕ). eqb x k) (in_order ks) k i (eq-eqb k k refl) in
    let r = some_in (λ (x : ℕ). eqb x k) ks (sym (among_in_order k ks) ∙ here) in
    subst (λ (x : ℕ). In x ks) (eqb-true r.0 k r.2) r.1

-- ---- what a begin leaves as it was

-- a component once objects were made
pub record IsSame (c d : Component) : Type 0 where
  pub id : d.id ≡ c.id
  pub extent : d.extent ≡ c.extent
  pub stale : d.flags.stale ≡ c.flags.stale
  pub offline : d.flags.offline ≡ c.flags.offline

made_offline : (gets : Bool) (file : ℕ) (nexts : List ℕ) (c : Component) → (with_made c (made_for gets file nexts c)).flags.offline ≡ c.flags.offline
made_offline true file nexts c = refl
made_offline false file nexts c = refl

pub new_in : (wanted : Component → Bool) (file : ℕ) (nexts : List ℕ) (cs : List Component) (c : Component) → In c cs → (d : Component) × In d (with_new_objects wanted file nexts cs) × IsSame c d
new_in wanted file nexts [] c i = absurd i
new_in wanted file nexts (x ∷ xs) c i =
    let gets : Bool = gets_objects wanted x in
    let y : Component = with_made x (made_for gets file nexts x) in
    let rest : List Component = with_new_objects wanted file (nexts_for gets file nexts x) xs in
    elim i as (λ _. (d : Component) × In d (y ∷ rest) × IsSame c d) [
      | inl e ↦
          let frame = made_frame gets file nexts x in (
            y,
            inl refl,
            record {
              id = ap (λ (f : Frame). f.id) frame ∙ ap (λ (d : Component). d.id) e;
              extent = ap (λ (f : Frame). f.extent) frame ∙ ap (λ (d : Component). d.extent) e;
              stale = made_stale gets file nexts x ∙ ap (λ (d : Component). d.flags.stale) e;
              offline = made_offline gets file nexts x ∙ ap (λ (d : Component). d.flags.offline) e;
            },
          )
      | inr j ↦ let r = new_in wanted file (nexts_for gets file nexts x) xs c j in (r.0, inr r.1, r.2)
    ]

-- a source of a byte may answer it
answers : (byte : ℕ) (s t : Component) → IsSame s t → is_source byte s ≡ true → is_candidate [] byte t ≡ true
answers byte s t same h =
    let parts = and_parts _ (not s.flags.stale && not s.flags.offline) h in
    let flags = and_parts (not s.flags.stale) (not s.flags.offline) parts.1 in
    and_from _ _ (subst (λ (r : Range). (leb_of r.start && ltb_of r.end) ≡ true) (sym same.extent) parts.0)
    (and_from _ _ (ap not same.stale ∙ flags.0) (and_from _ _ (ap not same.offline ∙ flags.1) refl))
  where
    leb_of : ℕ → Bool
    leb_of n = nat_le n byte

    ltb_of : ℕ → Bool
    ltb_of n = nat_lt byte n

pub sourced : (client : ℕ) (name : List ℕ) (what : CopyWhat) (m after : MetaView) (side : Side) (ids : List ℕ) → copy_begins client name what m ≡ Gives (begun_as.Copy side ids) after → IsValid side.layout
    → (id : ℕ) → In id ids → (d : Component) → with_id side.layout.components id ≡ Some d → (byte : ℕ) → d.extent.start ≤ byte → byte < d.extent.end → chosen side.layout.components [] byte ≡ None → ⊥
sourced client name what m after side ids e v id i d found byte low high none =
    let b : IsBegun side ids = of_file client m side ids after name what (file_named name m.files) e in
    let old : List Component = b.old.components in
    let new : List Component = side.layout.components in
    let is_new : new ≡ with_new_objects (is_named ids) b.file b.nexts old = ap (λ (l : Composite). l.components) b.layout in
    let r = in_passing (is_selected b.only old) old id (in_unordered id (map (λ (c : Component). c.id) (filter (is_selected b.only old) old)) (subst (λ (ks : List ℕ). In id ks) b.are i)) in
    let c : Component = r.0 in
    let t = new_in (is_named ids) b.file b.nexts old c r.1 in
    let there : In t.0 new = subst (λ (cs : List Component). In t.0 cs) (sym is_new) t.1 in
    let both : Some d ≡ Some t.0 = sym found ∙ ap (with_id new) (sym r.3 ∙ sym t.2.id) ∙ with_own side.layout v t.0 there in
    let one : d ≡ t.0 = cc in
    let extent : d.extent ≡ c.extent = ap (λ (x : Component). x.extent) one ∙ t.2.extent in
    let from : c.extent.start ≤ byte = subst (λ (x : Range). x.start ≤ byte) extent low in
    let to : byte < c.extent.end = subst (λ (x : Range). byte < x.end) extent high in
    let has : has_source old byte ≡ true = (selected_from_test b.only old c r.2).sourced byte from to in
    let s = some_in (is_source byte) old has in
    let u = new_in (is_named ids) b.file b.nexts old s.0 s.1 in
    let candidate : list_any (is_candidate [] byte) new ≡ true = any_in (is_candidate [] byte) new u.0 (subst (λ (cs : List Component). In u.0 cs) (sym is_new) u.1) (answers byte s.0 u.0 u.2 s.2) in
    false≢true (sym (nobody_chosen new [] byte none) ∙ candidate)
