-- The mirrors of a valid layout, by its list of components.
use Rattle.std.proofs.Common.{◌≡◌, ℕ, zero, suc, ◌+◌, ◌<◌, List, [], ◌∷◌, ◌++◌, length, map, filter, refl, ap, ◌∙◌, arith}
use Rattle.std.proofs.lemmas.Bool.{eq-eqb, ne_eqb}
use Rattle.std.proofs.lemmas.List.{length-map, map-append}
use Rattle.std.proofs.lemmas.List.Elements.{filter-append}
use Rattle.std.specs.List.{range_with_len}
use Rattle.composite_layout.specs.declared.component.Component.{Component}
use Rattle.composite_layout.specs.Layouts.{Composite, Mirror, Tiles, AreOf, Ascend, parts_of, IsValid}
use Rattle.composite_layout.specs.LookUps.{begins_mirror, mirror_ids}

-- past byte 0 no mirror begins
none_begin : (at : ℕ) (cs : List Component) → 0 < at → Tiles at cs → filter begins_mirror cs ≡ []
none_begin at [] some t = refl
none_begin at (c ∷ cs) some t = rw (ne_eqb c.extent.start 0 (λ e. omega (arith, some, t.0, e))) (none_begin c.extent.end cs (omega (arith, some, t.1)) t.3)

-- the components of one mirror have its id once
one_id : (id : ℕ) (cs : List Component) → AreOf id cs → Tiles 0 cs → mirror_ids cs ≡ id ∷ []
one_id id [] a t = absurd (omega (arith, t))
one_id id (c ∷ cs) a t =
    rw (eq-eqb c.extent.start 0 t.0, none_begin c.extent.end cs (omega (arith, t.1)) t.3, a.0) refl

pub ids_append : (xs ys : List Component) → mirror_ids (xs ++ ys) ≡ mirror_ids xs ++ mirror_ids ys
ids_append xs ys = ap (λ (cs : List Component). map (λ (c : Component). c.mirror) cs) (filter-append begins_mirror xs ys) ∙ map-append (λ (c : Component). c.mirror) (filter begins_mirror xs) (filter begins_mirror ys)

-- the ids of the components' mirrors are those of the mirrors
pub ids_of : (last next : ℕ) (ms : List Mirror) → Ascend last next ms → mirror_ids (parts_of ms) ≡ map (λ (m : Mirror). m.id) ms
ids_of last next [] a = refl
ids_of last next (m ∷ ms) a = ids_append m.parts (parts_of ms) ∙ rw (one_id m.id m.parts a.2 a.3, ids_of m.id next ms a.4) refl

-- a valid layout has as many mirrors as ids
pub count_ids : (l : Composite) → (v : IsValid l) → length (mirror_ids l.components) ≡ length v.mirrors
count_ids l v = ap (λ (cs : List Component). length (mirror_ids cs)) v.whole ∙ ap (λ (ids : List ℕ). length ids) (ids_of 0 l.next_mirror v.mirrors v.ascend) ∙ length-map v.mirrors (λ (m : Mirror). m.id)

-- ids one after the other, and one more
pub range_more : (a n : ℕ) → range_with_len a n ++ (a + n) ∷ [] ≡ range_with_len a (n + 1)
range_more a zero = let e : a + 0 ≡ a = omega arith in rw e refl
range_more a (suc n) =
    let e : a + suc n ≡ (a + 1) + n = omega arith in
    let k : suc n + 1 ≡ suc (n + 1) = omega arith in
    rw (e, k) (ap (λ (xs : List ℕ). a ∷ xs) (range_more (a + 1) n))
