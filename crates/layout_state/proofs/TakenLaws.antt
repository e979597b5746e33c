-- The mirrors of another layout with new ids and numbers.
use Rattle.std.proofs.Common.{◌≡◌, ℕ, suc, ◌+◌, ◌<◌, ◌≤◌, eqb, List, [], ◌∷◌, ◌++◌, length, map, take, drop, set, get_or, refl, ap, sym, ◌∙◌, arith}
use Rattle.std.specs.List.{position_or_len, enumerate_from, AllByRecursion}
use Rattle.std.proofs.lemmas.Bool.{eq-eqb, ne_eqb}
use Rattle.std.proofs.lemmas.List.{length-append, map-append, append_assoc, take_more_set, drop-set-lt, at_drop_more}
use Rattle.composite_layout.specs.declared.component.Component.{Component}
use Rattle.composite_layout.specs.Layouts.{Composite, Mirror, Tiles, AreOf, Ascend, parts_of, IsShaped, IsValid}
use Rattle.composite_layout.proofs.New.{Climbs}
use Rattle.layout_state.specs.Mirroring.{renamed, taken_in, id_at, run_on}
use Rattle.layout_state.proofs.MirrorLaws.{ids_of}

-- ---- one turn of the loop

pub run_on_more : (xs : List Component) (i before q : ℕ) (x y : Component) → i < length xs → x ≡ get_or xs i x → y ≡ renamed (id_at before x) q x
    → take (i + 1) (set xs i y) ++ run_on (id_at before x) (q + 1) (drop (i + 1) (set xs i y)) ≡ take i xs ++ run_on before q (drop i xs)
run_on_more xs i before q x y lt is new =
    let front : take (i + 1) (set xs i y) ≡ take i xs ++ y ∷ [] = take_more_set xs i y lt in
    let back : drop (i + 1) (set xs i y) ≡ drop (i + 1) xs = drop-set-lt (i + 1) xs i y (omega arith) in
    let here : run_on before q (drop i xs) ≡ run_on before q (x ∷ drop (i + 1) xs) = at_drop_more (λ (cs : List Component). run_on before q cs) xs i x lt ∙ ap (λ (c : Component). run_on before q (c ∷ drop (i + 1) xs)) (sym is) in
    rw (front, back, here, new) (append_assoc (take i xs) (renamed (id_at before x) q x ∷ []) _)

-- ---- the mirrors with new ids

-- components of one mirror with this id and numbers from q on
abbrev pub number : ℕ → ℕ → List Component → List Component
number id q [] = []
number id q (c ∷ cs) = renamed id q c ∷ number id (q + 1) cs

-- the mirrors with ids from this one on, and numbers from q on
abbrev pub mirrors_in : ℕ → ℕ → List Mirror → List Mirror
mirrors_in id q [] = []
mirrors_in id q (m ∷ ms) = record { id = id; parts = number id q m.parts } ∷ mirrors_in (id + 1) (q + length m.parts) ms

run_rest : (id q at : ℕ) (cs rest : List Component) → 0 < at → Tiles at cs → run_on id q (cs ++ rest) ≡ number id q cs ++ run_on id (q + length cs) rest
run_rest id q at [] rest some t = let e : q + 0 ≡ q = omega arith in rw e refl
run_rest id q at (c ∷ cs) rest some t =
    let no = ne_eqb c.extent.start 0 (λ e. omega (arith, some, t.0, e)) in
    let e : q + suc (length cs) ≡ (q + 1) + length cs = omega arith in
    let ih = run_rest id (q + 1) c.extent.end cs rest (omega (arith, some, t.1)) t.3 in
    rw (no, e, ih) refl

run_part : (before q : ℕ) (cs rest : List Component) → Tiles 0 cs → run_on before q (cs ++ rest) ≡ number (before + 1) q cs ++ run_on (before + 1) (q + length cs) rest
run_part before q [] rest t = absurd (omega (arith, t))
run_part before q (c ∷ cs) rest t =
    let yes = eq-eqb c.extent.start 0 t.0 in
    let e : q + suc (length cs) ≡ (q + 1) + length cs = omega arith in
    let ih = run_rest (before + 1) (q + 1) c.extent.end cs rest (omega (arith, t.1)) t.3 in
    rw (yes, e, ih) refl

-- ids that go on at each component that begins a mirror are those of the mirrors
pub run_whole : (before q last next : ℕ) (ms : List Mirror) → Ascend last next ms → run_on before q (parts_of ms) ≡ parts_of (mirrors_in (before + 1) q ms)
run_whole before q last next [] a = refl
run_whole before q last next (m ∷ ms) a =
    run_part before q m.parts (parts_of ms) a.3 ∙ ap (λ (cs : List Component). number (before + 1) q m.parts ++ cs) (run_whole (before + 1) (q + length m.parts) m.id next ms a.4)

pub length_in : (id q : ℕ) (ms : List Mirror) → length (mirrors_in id q ms) ≡ length ms
length_in id q [] = refl
length_in id q (m ∷ ms) = ap suc (length_in (id + 1) (q + length m.parts) ms)

are_of : (id q : ℕ) (cs : List Component) → AreOf id (number id q cs)
are_of id q [] = tt
are_of id q (c ∷ cs) = (refl, are_of id (q + 1) cs)

tiles_in : (id q at : ℕ) (cs : List Component) → Tiles at cs → Tiles at (number id q cs)
tiles_in id q at [] t = t
tiles_in id q at (c ∷ cs) t = (t.0, t.1, t.2, tiles_in id (q + 1) c.extent.end cs t.3)

pub ascend_in : (k top id q last next : ℕ) (ms : List Mirror) → k < id → id + length ms ≤ top → Ascend last next ms → Ascend k top (mirrors_in id q ms)
ascend_in k top id q last next [] lt le a = tt
ascend_in k top id q last next (m ∷ ms) lt le a =
    (lt, omega (arith, le), are_of id q m.parts, tiles_in id q 0 m.parts a.3, ascend_in id top (id + 1) (q + length m.parts) m.id next ms (omega arith) (omega (arith, le)) a.4)

pub run_climbs : (before q : ℕ) (cs : List Component) → q + length cs ≤ 65536 → Climbs q (run_on before q cs)
run_climbs before q [] le = tt
run_climbs before q (c ∷ cs) le = (omega (arith, le), run_climbs (id_at before c) (q + 1) cs (omega (arith, le)))

pub run_shaped : (before q : ℕ) (cs : List Component) → q + length cs ≤ 65536 → AllByRecursion IsShaped cs → AllByRecursion IsShaped (run_on before q cs)
run_shaped before q [] le a = tt
run_shaped before q (c ∷ cs) le a = (
  record { id = omega (arith, le); stripe = a.0.stripe; one_each = a.0.one_each; objects = a.0.objects },
  run_shaped (id_at before c) (q + 1) cs (omega (arith, le)) a.1,
)

pub length_run : (before q : ℕ) (cs : List Component) → length (run_on before q cs) ≡ length cs
length_run before q [] = refl
length_run before q (c ∷ cs) = ap suc (length_run (id_at before c) (q + 1) cs)

-- ---- each mirror gets the id of its place

-- a component of the mirror with this id among these ids, renamed by its mirror's place
abbrev pub by_place : ℕ → List ℕ → ℕ × Component → Component
by_place id ids p = renamed (id + position_or_len (λ k. eqb k p.1.mirror) ids) p.0 p.1

enumerate_append : (q : ℕ) (xs ys : List Component) → enumerate_from q (xs ++ ys) ≡ enumerate_from q xs ++ enumerate_from (q + length xs) ys
enumerate_append q [] ys = let e : q + 0 ≡ q = omega arith in rw e refl
enumerate_append q (x ∷ xs) ys = let e : q + suc (length xs) ≡ (q + 1) + length xs = omega arith in rw (e, enumerate_append (q + 1) xs ys) refl

placed_part : (id mirror i q : ℕ) (ids : List ℕ) (cs : List Component) → AreOf mirror cs → position_or_len (λ k. eqb k mirror) ids ≡ i → map (by_place id ids) (enumerate_from q cs) ≡ number (id + i) q cs
placed_part id mirror i q ids [] o e = refl
placed_part id mirror i q ids (c ∷ cs) o e =
    let here : position_or_len (λ k. eqb k c.mirror) ids ≡ i = ap (λ (m : ℕ). position_or_len (λ k. eqb k m) ids) o.0 ∙ e in
    rw (here, placed_part id mirror i (q + 1) ids cs o.1 e) refl

-- all these ids are below
abbrev pub Below : ℕ → List ℕ → Type 0
Below id ids = AllByRecursion (λ k. k < id) ids

place_after : (mirror : ℕ) (front rest : List ℕ) → Below mirror front → position_or_len (λ k. eqb k mirror) (front ++ mirror ∷ rest) ≡ length front
place_after mirror [] rest b = rw (eq-eqb mirror mirror refl) refl
place_after mirror (k ∷ front) rest b = let rest_place = place_after mirror front rest b.1 in let e : 1 + length front ≡ suc (length front) = omega arith in rw (ne_eqb k mirror (λ e. omega (arith, b.0, e)), rest_place) e

below_more : (last id : ℕ) (ids : List ℕ) → Below last ids → last < id → Below id (ids ++ last ∷ [])
below_more last id [] b lt = (lt, tt)
below_more last id (k ∷ ids) b lt = (omega (arith, b.0, lt), below_more last id ids b.1 lt)

below_up : (last id : ℕ) (ids : List ℕ) → Below last ids → last ≤ id → Below id ids
below_up last id [] b le = tt
below_up last id (k ∷ ids) b le = (omega (arith, b.0, le), below_up last id ids b.1 le)

-- the ids so far stand below the next mirror's
placed_whole : (id q next last : ℕ) (front : List ℕ) (ms : List Mirror) → ((k : ℕ) → last < k → Below k front) → Ascend last next ms
    → map (by_place id (front ++ map (λ m. m.id) ms)) (enumerate_from q (parts_of ms)) ≡ parts_of (mirrors_in (id + length front) q ms)
placed_whole id q next last front [] b a = refl
placed_whole id q next last front (m ∷ ms) b a =
    let ids = front ++ map (λ m. m.id) (m ∷ ms) in
    let place = place_after m.id front (map (λ m. m.id) ms) (b m.id a.0) in
    let here = placed_part id m.id (length front) q ids m.parts a.2 place in
    let e : (front ++ m.id ∷ []) ++ map (λ m. m.id) ms ≡ ids = append_assoc front (m.id ∷ []) (map (λ m. m.id) ms) in
    let n : length (front ++ m.id ∷ []) ≡ length front + 1 = length-append front (m.id ∷ []) in
    let k : id + (length front + 1) ≡ (id + length front) + 1 = omega arith in
    let rest = placed_whole id (q + length m.parts) next m.id (front ++ m.id ∷ []) ms (λ k lt. below_more m.id k front (b m.id a.0) lt) a.4 in
    let back : map (by_place id ids) (enumerate_from (q + length m.parts) (parts_of ms)) ≡ parts_of (mirrors_in ((id + length front) + 1) (q + length m.parts) ms) = rw (e, n, k) at rest in
    ap (λ (ps : List (ℕ × Component)). map (by_place id ids) ps) (enumerate_append q m.parts (parts_of ms)) ∙ map-append (by_place id ids) (enumerate_from q m.parts) (enumerate_from (q + length m.parts) (parts_of ms)) ∙ rw (here, back) refl

-- ids that go on at each component that begins a mirror are those of the mirrors' places
pub run_taken : (l : Composite) → IsValid l → (before q : ℕ) → run_on before q l.components ≡ taken_in (before + 1) q l.components
run_taken l v before q =
    let ids = ids_of 0 l.next_mirror v.mirrors v.ascend in
    let e : (before + 1) + 0 ≡ before + 1 = omega arith in
    let placed : map (by_place (before + 1) (map (λ m. m.id) v.mirrors)) (enumerate_from q (parts_of v.mirrors)) ≡ parts_of (mirrors_in (before + 1) q v.mirrors) = rw e at (placed_whole (before + 1) q l.next_mirror 0 [] v.mirrors (λ k lt. tt) v.ascend) in
    let named : taken_in (before + 1) q (parts_of v.mirrors) ≡ map (by_place (before + 1) (map (λ m. m.id) v.mirrors)) (enumerate_from q (parts_of v.mirrors)) = ap (λ (ks : List ℕ). map (by_place (before + 1) ks) (enumerate_from q (parts_of v.mirrors))) ids in
    ap (λ (cs : List Component). run_on before q cs) v.whole ∙ run_whole before q 0 l.next_mirror v.mirrors v.ascend ∙ sym placed ∙ sym named ∙ ap (λ (cs : List Component). taken_in (before + 1) q cs) (sym v.whole)
