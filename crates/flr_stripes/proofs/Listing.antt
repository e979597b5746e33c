-- How many objects copies list of a layout.
use Rattle.std.proofs.Common.{◌≡◌, ℕ, ◌+◌, ◌≤◌, Bool, true, false, cond, not, ◌&&◌, Option, Some, List, [], ◌∷◌, length, map, filter, inl, inr, refl, sym, ap, subst, ◌∙◌, arith}
use Rattle.std.specs.Prelude.{nat_le}
use Rattle.std.specs.Option.{option_map_or}
use Rattle.std.proofs.lemmas.List.{length-append, length-map}
use Rattle.flr_base.specs.declared.reply.ObjectId.{ObjectId}
use Rattle.composite_layout.specs.declared.component.Component.{Component}
use Rattle.composite_layout.specs.Layouts.{Composite, IsValid}
use Rattle.layout_state.specs.Making.{gets_objects, made_for, nexts_for, with_made, with_new_objects}
use Rattle.layout_state.specs.Marking.{Frame, is_named}
use Rattle.layout_state.specs.Selecting.{in_order, is_selected, put_in}
use Rattle.layout_state.proofs.ObjectLaws.{made_frame, made_stale}
use Rattle.layout_state.proofs.SelectLaws.{selected_from_test}
use Rattle.mirror_select.proofs.Least.{In}
use Rattle.meta_server.specs.declared.answers.Side.{Side}
use Rattle.resync_copy.specs.declared.parts.Destination.{Destination}
use Rattle.resync_copy.specs.Comparing.{ComparingView, compared_in, is_compared, merge_fences}
use Rattle.resync_copy.specs.Parts.{destinations_in, is_fenced, objects_in, objects_of, objects_with, overlaps_any, with_id}
use Rattle.resync_copy.specs.Views.{begun_copy, fences_of, resets_of}
use Rattle.resync_copy.proofs.BeginLaws.{IsBegun}
use Rattle.copy_laws.proofs.Places.{with_own}
use Rattle.meta_growth.specs.Growth.{total_in}
use Rattle.flr_stripes.proofs.Counting.{at_most, objects_at, objects_if, total_less}

-- the component is fresh
abbrev is_fresh : Component → Bool
is_fresh c = not c.flags.stale

-- the ids of these components
abbrev ids_of : List Component → List ℕ
ids_of cs = map (λ (c : Component). c.id) cs

module _ (cs : List Component) where
  -- ---- ids in order list as many objects

  put_many : (n : ℕ) (ks : List ℕ) → length (objects_in cs (put_in n ks)) ≡ length (objects_with cs n) + length (objects_in cs ks)
  put_many n [] = length-append (objects_with cs n) []
  put_many n (k ∷ ks) = by (nat_le n k) (put_many n ks)
    where
      by : (b : Bool) → length (objects_in cs (put_in n ks)) ≡ length (objects_with cs n) + length (objects_in cs ks) → length (objects_in cs (cond b (n ∷ k ∷ ks) (k ∷ put_in n ks))) ≡ length (objects_with cs n) + length (objects_in cs (k ∷ ks))
      by true rest = length-append (objects_with cs n) (objects_in cs (k ∷ ks))
      by false rest = let new = length-append (objects_with cs k) (objects_in cs (put_in n ks)) in let old = length-append (objects_with cs k) (objects_in cs ks) in omega (arith, rest, new, old)

  order_many : (ns : List ℕ) → length (objects_in cs (in_order ns)) ≡ length (objects_in cs ns)
  order_many [] = refl
  order_many (n ∷ ns) = let put = put_many n (in_order ns) in let rest = order_many ns in let sum = length-append (objects_with cs n) (objects_in cs ns) in omega (arith, put, rest, sum)

  -- ---- components that are found by their ids

  own_many : (c : Component) (id : ℕ) → with_id cs id ≡ Some c → length (objects_with cs id) ≡ length c.objects
  own_many c id e = ap (λ (o : Option Component). length (option_map_or objects_of o [])) e ∙ length-map c.objects (λ (o : ObjectId). record { component = c.id; extent = c.extent; object = o })

  -- those that pass a test list their objects
  listed_many : (p : Component → Bool) (ds : List Component) → ((d : Component) → In d ds → with_id cs d.id ≡ Some d) → length (objects_in cs (ids_of (filter p ds))) ≡ total_in (objects_if p) ds
  listed_many p [] found = refl
  listed_many p (d ∷ ds) found = by (p d) (listed_many p ds (λ c i. found c (inr i)))
    where
      by : (b : Bool) → length (objects_in cs (ids_of (filter p ds))) ≡ total_in (objects_if p) ds → length (objects_in cs (ids_of (cond b (d ∷ filter p ds) (filter p ds)))) ≡ cond b (length d.objects) 0 + total_in (objects_if p) ds
      by true rest = let own = own_many d d.id (found d (inl refl)) in let sum = length-append (objects_with cs d.id) (objects_in cs (ids_of (filter p ds))) in omega (arith, rest, own, sum)
      by false rest = omega (arith, rest)

  -- stale ones that a begin selects list no object of a fresh one
  selected_few : (wanted select : Component → Bool) → ((c : Component) → select c ≡ true → c.flags.stale ≡ true) → (file : ℕ) (nexts : List ℕ) (old : List Component) → ((d : Component) → In d (with_new_objects wanted file nexts old) → with_id cs d.id ≡ Some d)
      → length (objects_in cs (ids_of (filter select old))) + total_in (objects_if is_fresh) (with_new_objects wanted file nexts old) ≤ total_in objects_at (with_new_objects wanted file nexts old)
  selected_few wanted select stale file nexts [] found = omega arith
  selected_few wanted select stale file nexts (c ∷ old) found = by (select c) refl (selected_few wanted select stale file (nexts_for gets file nexts c) old (λ d i. found d (inr i)))
    where
      gets : Bool
      gets = gets_objects wanted c

      new : Component
      new = with_made c (made_for gets file nexts c)

      rest : List Component
      rest = with_new_objects wanted file (nexts_for gets file nexts c) old

      by : (b : Bool) → select c ≡ b → length (objects_in cs (ids_of (filter select old))) + total_in (objects_if is_fresh) rest ≤ total_in objects_at rest
          → length (objects_in cs (ids_of (cond b (c ∷ filter select old) (filter select old)))) + total_in (objects_if is_fresh) (new ∷ rest) ≤ total_in objects_at (new ∷ rest)
      by true e more =
          let same : new.id ≡ c.id = ap (λ (f : Frame). f.id) (made_frame gets file nexts c) in
          let own : length (objects_with cs c.id) ≡ length new.objects = own_many new c.id (ap (with_id cs) (sym same) ∙ found new (inl refl)) in
          let none : cond (not new.flags.stale) (length new.objects) 0 ≡ 0 = ap (λ (b : Bool). cond (not b) (length new.objects) 0) (made_stale gets file nexts c ∙ stale c e) in
          let sum = length-append (objects_with cs c.id) (objects_in cs (ids_of (filter select old))) in
          omega (arith, more, own, none, sum)
      by false e more = let most = at_most (not new.flags.stale) (length new.objects) in omega (arith, more, most)

-- ---- a copy

both_most : (a b : Bool) (n : ℕ) → cond (a && b) n 0 ≤ cond a n 0
both_most true b n = at_most b n
both_most false b n = omega arith

-- a copy that has begun lists no more objects than its file has
pub begun_few : (side : Side) (ids : List ℕ) → IsBegun side ids → IsValid side.layout → length (fences_of (begun_copy side ids)) + length (resets_of (begun_copy side ids)) ≤ total_in objects_at side.layout.components
begun_few side ids b valid =
    let fences = order_many new (ids_of (filter (is_fenced ds) new)) ∙ listed_many new (is_fenced ds) new found in
    let fresh = total_less (objects_if (is_fenced ds)) (objects_if is_fresh) new (λ c i. both_most (not c.flags.stale) (c.flags.init && overlaps_any ds c.extent) (length c.objects)) in
    let resets : length (objects_in new ids) ≡ length (objects_in new (ids_of (filter select old))) = ap (λ (ks : List ℕ). length (objects_in new ks)) b.are ∙ order_many new (ids_of (filter select old)) in
    let few : length (objects_in new (ids_of (filter select old))) + total_in (objects_if is_fresh) new ≤ total_in objects_at new =
    subst (λ (xs : List Component). length (objects_in new (ids_of (filter select old))) + total_in (objects_if is_fresh) xs ≤ total_in objects_at xs) (sym is_new)
    (selected_few new (is_named ids) select (λ c e. (selected_from_test b.only old c e).stale) b.file b.nexts old (λ d i. found d (subst (λ (xs : List Component). In d xs) (sym is_new) i))) in
    omega (arith, fences, fresh, resets, few)
  where
    new : List Component
    new = side.layout.components

    old : List Component
    old = b.old.components

    ds : List Destination
    ds = destinations_in new ids

    select : Component → Bool
    select = is_selected b.only old

    is_new : new ≡ with_new_objects (is_named ids) b.file b.nexts old
    is_new = ap (λ (l : Composite). l.components) b.layout

    found : (d : Component) → In d new → with_id new d.id ≡ Some d
    found d i = with_own side.layout valid d i

-- ---- a merge

compared_few : (l : Composite) → IsValid l → length (compared_in l.components) ≤ total_in objects_at l.components
compared_few l valid =
    let cs : List Component = l.components in
    let many = order_many cs (ids_of (filter is_compared cs)) ∙ listed_many cs is_compared cs (λ d i. with_own l valid d i) in
    let less = total_less (objects_if is_compared) objects_at cs (λ c i. at_most (is_compared c) (length c.objects)) in
    omega (arith, many, less)

-- a merge fences no more objects than its two files have
pub compared_both : (x : ComparingView) → IsValid x.ours.layout → IsValid x.theirs.layout → length (merge_fences x) ≤ total_in objects_at x.ours.layout.components + total_in objects_at x.theirs.layout.components
compared_both x ours theirs =
    let sum = length-append (compared_in x.ours.layout.components) (compared_in x.theirs.layout.components) in
    let first = compared_few x.ours.layout ours in
    let second = compared_few x.theirs.layout theirs in
    omega (arith, sum, first, second)
