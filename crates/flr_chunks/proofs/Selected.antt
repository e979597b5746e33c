-- How many chunks the destinations of a copy have that begins: no more than the file has in all mirrors but one.
use Rattle.std.proofs.Common.{◌≡◌, ℕ, ◌+◌, ◌-◌, ◌*◌, ◌≤◌, Bool, true, false, cond, nat_le, List, [], ◌∷◌, length, map, filter, inl, inr, refl, sym, ap, subst, ◌∙◌, arith}
use Rattle.composite_layout.specs.declared.component.Component.{Component}
use Rattle.composite_layout.specs.Layouts.{Composite, IsValid}
use Rattle.composite_layout.specs.LookUps.{mirror_ids}
use Rattle.layout_state.specs.Making.{gets_objects, made_for, nexts_for, with_made, with_new_objects}
use Rattle.layout_state.specs.Marking.{Frame, is_named}
use Rattle.layout_state.specs.Selecting.{in_order, is_selected, put_in}
use Rattle.layout_state.proofs.ObjectLaws.{made_frame, made_stale}
use Rattle.layout_state.proofs.SelectLaws.{selected_from_test}
use Rattle.mirror_select.proofs.Least.{In}
use Rattle.meta_server.specs.declared.answers.Side.{Side}
use Rattle.resync_copy.specs.Chunks.{chunks_below}
use Rattle.resync_copy.specs.Parts.{destination_with, destinations_in, extent_with}
use Rattle.resync_copy.proofs.BeginLaws.{IsBegun}
use Rattle.copy_laws.proofs.Places.{extent_of, with_own}
use Rattle.copy_laws.proofs.Sourced.{new_in}
use Rattle.flr_work.specs.Known.{chunks_in, chunks_of}
use Rattle.flr_chunks.proofs.Tiling.{chunks_over, stale_chunks, stale_within}

-- the objects that a begin makes leave the stale chunks as they were
made_chunks : (size : ℕ) (wanted : Component → Bool) (file : ℕ) (nexts : List ℕ) (cs : List Component) → stale_chunks size (with_new_objects wanted file nexts cs) ≡ stale_chunks size cs
made_chunks size wanted file nexts [] = refl
made_chunks size wanted file nexts (c ∷ cs) =
    let gets : Bool = gets_objects wanted c in
    let d : Component = with_made c (made_for gets file nexts c) in
    let stale : d.flags.stale ≡ c.flags.stale = made_stale gets file nexts c in
    let extent : d.extent ≡ c.extent = ap (λ (f : Frame). f.extent) (made_frame gets file nexts c) in
    let rest = made_chunks size wanted file (nexts_for gets file nexts c) cs in
    (λ j. cond (stale j) (chunks_over size (extent j)) 0 + rest j)

-- ---- destinations, in whatever order

module _ (size : ℕ) (new : List Component) where
  -- the chunks of the destinations with these ids
  abbrev to : List ℕ → ℕ
  to ids = chunks_of size (destinations_in new ids)

  put_same : (n : ℕ) (ks : List ℕ) → to (put_in n ks) ≡ chunks_in size (destination_with new n) + to ks
  put_same n [] = refl
  put_same n (k ∷ ks) = by (nat_le n k) (put_same n ks)
    where
      by : (b : Bool) → to (put_in n ks) ≡ chunks_in size (destination_with new n) + to ks → to (cond b (n ∷ k ∷ ks) (k ∷ put_in n ks)) ≡ chunks_in size (destination_with new n) + to (k ∷ ks)
      by true rest = refl
      by false rest = omega (arith, rest)

  order_same : (ks : List ℕ) → to (in_order ks) ≡ to ks
  order_same [] = refl
  order_same (k ∷ ks) = let put = put_same k (in_order ks) in let rest = order_same ks in omega (arith, put, rest)

  -- those of stale components have no more chunks than all stale components
  passing_within : (p : Component → Bool) (old : List Component) → ((c : Component) → p c ≡ true → c.flags.stale ≡ true) → ((c : Component) → In c old → extent_with new c.id ≡ c.extent)
      → to (map (λ (c : Component). c.id) (filter p old)) ≤ stale_chunks size old
  passing_within p [] stale same = omega arith
  passing_within p (c ∷ cs) stale same = by (p c) refl (passing_within p cs stale (λ d i. same d (inr i)))
    where
      by : (b : Bool) → p c ≡ b → to (map (λ (d : Component). d.id) (filter p cs)) ≤ stale_chunks size cs → to (map (λ (d : Component). d.id) (cond b (c ∷ filter p cs) (filter p cs))) ≤ cond c.flags.stale (chunks_over size c.extent) 0 + stale_chunks size cs
      by true e rest =
          let all : cond c.flags.stale (chunks_over size c.extent) 0 ≡ chunks_over size c.extent = ap (λ (b : Bool). cond b (chunks_over size c.extent) 0) (stale c e) in
          let one : chunks_in size (destination_with new c.id) ≡ chunks_over size c.extent = ap (chunks_over size) (same c (inl refl)) in
          omega (arith, rest, all, one)
      by false e rest = omega (arith, rest)

-- a component has in the new layout the bytes that it had
same_extent : (side : Side) (ids : List ℕ) → (b : IsBegun side ids) → IsValid side.layout → (c : Component) → In c b.old.components → extent_with side.layout.components c.id ≡ c.extent
same_extent side ids b v c i =
    let new : List Component = side.layout.components in
    let t = new_in (is_named ids) b.file b.nexts b.old.components c i in
    let there : In t.0 new = subst (λ (cs : List Component). In t.0 cs) (sym (ap (λ (l : Composite). l.components) b.layout)) t.1 in
    ap (extent_with new) (sym t.2.id) ∙ extent_of new t.0.id t.0 (with_own side.layout v t.0 there) ∙ t.2.extent

-- the chunks of the destinations of a copy that has begun, in a layout with at most so many mirrors
pub begun_within : (side : Side) (ids : List ℕ) → IsBegun side ids → IsValid side.layout → (size most : ℕ) → length (mirror_ids side.layout.components) ≤ most → chunks_of size (destinations_in side.layout.components ids) ≤ (most - 1) * chunks_below size
begun_within side ids b v size most few =
    let old : List Component = b.old.components in
    let new : List Component = side.layout.components in
    let is_new : new ≡ with_new_objects (is_named ids) b.file b.nexts old = ap (λ (l : Composite). l.components) b.layout in
    let passing : List ℕ = map (λ (c : Component). c.id) (filter (is_selected b.only old) old) in
    let are : chunks_of size (destinations_in new ids) ≡ chunks_of size (destinations_in new passing) = ap (λ (ks : List ℕ). chunks_of size (destinations_in new ks)) b.are ∙ order_same size new passing in
    let within = passing_within size new (is_selected b.only old) old (λ c e. (selected_from_test b.only old c e).stale) (same_extent side ids b v) in
    let made : stale_chunks size new ≡ stale_chunks size old = ap (stale_chunks size) is_new ∙ made_chunks size (is_named ids) b.file b.nexts old in
    let all = stale_within side.layout v size most few in
    omega (arith, are, within, made, all)
