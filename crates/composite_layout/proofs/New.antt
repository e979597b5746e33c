-- The components of new mirrors, and that a new layout is valid.
use Rattle.std.proofs.Common.{◌≡◌, ℕ, suc, ◌+◌, ◌*◌, ◌<◌, ◌≤◌, ℤ, pos, negsuc, Bool, true, false, eqb, List, [], ◌∷◌, ◌++◌, length, refl, ap, subst, ◌∙◌, inl, inr, arith}
use Rattle.std.specs.List.{AllByRecursion}
use Rattle.std.proofs.lemmas.Bool.{cases_Bool, eqb-true, eqb-false, ne_eqb, or_from, or_left}
use Rattle.std.proofs.lemmas.List.{length-append}
use Rattle.composite_layout.specs.declared.component.Component.{Component}
use Rattle.composite_layout.specs.declared.component.State.{State}
use Rattle.composite_layout.specs.declared.spec.Part.{Part}
use Rattle.composite_layout.specs.declared.spec.MirrorSpec.{MirrorSpec}
use Rattle.composite_layout.specs.Layouts.{Mirror, Tiles, AreOf, Ascend, parts_of, counter_of, is_used, Numbered, IsShaped, all_fresh, some_fresh, least, most, IsValid}
use Rattle.composite_layout.specs.Specs.{PartsTile, IsCount, IsPart, IsMirrorSpec, IsSpec}
use Rattle.composite_layout.specs.Making.{stripes_of, new_parts, new_mirrors, part_count, new_state, new_layout}

-- the new mirrors, each with its components
abbrev pub mirrors_of : Bool → ℕ → ℕ → ℕ → List MirrorSpec → List Mirror
mirrors_of stale targets id q [] = []
mirrors_of stale targets id q (m ∷ ms) = record { id = id; parts = new_parts stale targets id m.prefer q 0 m.parts } ∷ mirrors_of stale targets (id + 1) (q + length m.parts) ms

pub new_whole : (stale : Bool) (targets id q : ℕ) (ms : List MirrorSpec) → new_mirrors stale targets id q ms ≡ parts_of (mirrors_of stale targets id q ms)
new_whole stale targets id q [] = refl
new_whole stale targets id q (m ∷ ms) = ap (λ (xs : List Component). new_parts stale targets id m.prefer q 0 m.parts ++ xs) (new_whole stale targets (id + 1) (q + length m.parts) ms)

pub length_mirrors : (stale : Bool) (targets id q : ℕ) (ms : List MirrorSpec) → length (mirrors_of stale targets id q ms) ≡ length ms
length_mirrors stale targets id q [] = refl
length_mirrors stale targets id q (m ∷ ms) = ap suc (length_mirrors stale targets (id + 1) (q + length m.parts) ms)

length_parts : (stale : Bool) (targets id : ℕ) (prefer : Bool) (q start : ℕ) (ps : List Part) → length (new_parts stale targets id prefer q start ps) ≡ length ps
length_parts stale targets id prefer q start [] = refl
length_parts stale targets id prefer q start (p ∷ ps) = ap suc (length_parts stale targets id prefer (q + 1) p.end ps)

-- as many components come as parts
pub length_new : (stale : Bool) (targets id q : ℕ) (ms : List MirrorSpec) → length (new_mirrors stale targets id q ms) ≡ part_count ms
length_new stale targets id q [] = refl
length_new stale targets id q (m ∷ ms) =
    let front = length_parts stale targets id m.prefer q 0 m.parts in
    let rest = length_new stale targets (id + 1) (q + length m.parts) ms in
    length-append (new_parts stale targets id m.prefer q 0 m.parts) _ ∙ omega (arith, front, rest)

count_below : (ms : List MirrorSpec) → AllByRecursion IsMirrorSpec ms → part_count ms ≤ length ms * 64
count_below [] a = omega arith
count_below (m ∷ ms) a = let ih = count_below ms a.1 in let few = a.0.few in omega (arith, ih, few)

-- a spec has at most 2048 parts
pub few_parts : (ms : List MirrorSpec) → IsSpec ms → part_count ms ≤ 2048
few_parts ms s = let le = count_below ms s.mirrors in let few = s.few in omega (arith, le, few)

are_of : (stale : Bool) (targets id : ℕ) (prefer : Bool) (q start : ℕ) (ps : List Part) → AreOf id (new_parts stale targets id prefer q start ps)
are_of stale targets id prefer q start [] = tt
are_of stale targets id prefer q start (p ∷ ps) = (refl, are_of stale targets id prefer (q + 1) p.end ps)

tiles : (stale : Bool) (targets id : ℕ) (prefer : Bool) (q start : ℕ) (ps : List Part) → PartsTile start ps → Tiles start (new_parts stale targets id prefer q start ps)
tiles stale targets id prefer q start [] t = t
tiles stale targets id prefer q start (p ∷ ps) t = (refl, t.0, t.1, tiles stale targets id prefer (q + 1) p.end ps t.2)

-- the new mirrors stand in ascending order
pub new_ascend : (stale : Bool) (targets last next id q : ℕ) (ms : List MirrorSpec) → last < id → id + length ms ≤ next → AllByRecursion IsMirrorSpec ms → Ascend last next (mirrors_of stale targets id q ms)
new_ascend stale targets last next id q [] lt le a = tt
new_ascend stale targets last next id q (m ∷ ms) lt le a = (lt, omega (arith, le), are_of stale targets id m.prefer q 0 m.parts, tiles stale targets id m.prefer q 0 m.parts a.0.tiles, new_ascend stale targets id next (id + 1) (q + length m.parts) ms (omega arith) (omega (arith, le)) a.1)

-- ---- numbers one after the other

abbrev pub Climbs : ℕ → List Component → Type 0
Climbs q [] = Unit {0}
Climbs q (c ∷ cs) = (counter_of c ≡ q) × Climbs (q + 1) cs

climbs_append : (q : ℕ) (xs ys : List Component) → Climbs q xs → Climbs (q + length xs) ys → Climbs q (xs ++ ys)
climbs_append q [] ys a b = let e : q + 0 ≡ q = omega arith in let P : ℕ → Type 0 = λ n. Climbs n ys in subst P e b
climbs_append q (x ∷ xs) ys a b =
    let e : q + suc (length xs) ≡ (q + 1) + length xs = omega arith in
    let P : ℕ → Type 0 = λ n. Climbs n ys in
    (a.0, climbs_append (q + 1) xs ys a.1 (subst P e b))

climbs_parts : (stale : Bool) (targets id : ℕ) (prefer : Bool) (q start : ℕ) (ps : List Part) → q + length ps ≤ 65536 → Climbs q (new_parts stale targets id prefer q start ps)
climbs_parts stale targets id prefer q start [] le = tt
climbs_parts stale targets id prefer q start (p ∷ ps) le = (omega arith, climbs_parts stale targets id prefer (q + 1) p.end ps (omega arith))

pub new_climbs : (stale : Bool) (targets id q : ℕ) (ms : List MirrorSpec) → q + part_count ms ≤ 65536 → Climbs q (new_mirrors stale targets id q ms)
new_climbs stale targets id q [] le = tt
new_climbs stale targets id q (m ∷ ms) le =
    let front = climbs_parts stale targets id m.prefer q 0 m.parts (omega (arith, le)) in
    let rest = new_climbs stale targets (id + 1) (q + length m.parts) ms (omega (arith, le)) in
    let e = length_parts stale targets id m.prefer q 0 m.parts in
    climbs_append q _ _ front (rw e rest)

-- all these numbers are below
abbrev pub AllBelow : ℕ → List Component → Type 0
AllBelow q cs = AllByRecursion (λ c. counter_of c < q) cs

pub unused : (q : ℕ) (seen : List Component) → AllBelow q seen → is_used q seen ≡ false
unused q [] a = refl
unused q (c ∷ cs) a = or_from _ _ (ne_eqb q (counter_of c) (λ e. omega (arith, a.0, e))) (unused q cs a.1)

below_more : (q : ℕ) (seen : List Component) (c : Component) → AllBelow q seen → counter_of c ≡ q → AllBelow (q + 1) (seen ++ c ∷ [])
below_more q [] c a e = (omega (arith, e), tt)
below_more q (d ∷ ds) c a e = (omega (arith, a.0), below_more q ds c a.1 e)

-- numbers that go on one after the other are used once
pub climbs_numbered : (next q : ℕ) (seen cs : List Component) → 0 < q → q + length cs ≤ next → AllBelow q seen → Climbs q cs → Numbered next seen cs
climbs_numbered next q seen [] some le a k = tt
climbs_numbered next q seen (c ∷ cs) some le a k =
    (omega (arith, k.0), omega (arith, k.0), rw k.0 (unused q seen a), climbs_numbered next (q + 1) (seen ++ c ∷ []) cs (omega arith) (omega (arith, le)) (below_more q seen c a k.0) k.1)

-- ---- each component by itself

pub all_append : {X : Type 0} (P : X → Type 0) (xs ys : List X) → AllByRecursion P xs → AllByRecursion P ys → AllByRecursion P (xs ++ ys)
all_append P [] ys a b = b
all_append P (x ∷ xs) ys a b = (a.0, all_append P xs ys a.1 b)

stripe_count : (targets : ℕ) (count : ℤ) → 0 < targets → targets ≤ 64 → IsCount count → (0 < stripes_of targets count) × (stripes_of targets count ≤ 64)
stripe_count targets (pos n) some few h = (omega arith, omega arith)
stripe_count targets (negsuc n) some few h = (some, few)

shaped_parts : (stale : Bool) (targets id : ℕ) (prefer : Bool) (q start : ℕ) (ps : List Part) → 0 < targets → targets ≤ 64 → q + length ps ≤ 65536 → AllByRecursion IsPart ps → AllByRecursion IsShaped (new_parts stale targets id prefer q start ps)
shaped_parts stale targets id prefer q start [] some few le a = tt
shaped_parts stale targets id prefer q start (p ∷ ps) some few le a =
    let n = stripe_count targets p.count some few a.0.count in (
      record {
        id = omega (arith, le);
        stripe = record { aligned = a.0.aligned; least_size = a.0.least_size; most_size = a.0.most_size; least_count = n.0; most_count = n.1 };
        one_each = refl;
        objects = tt;
      },
      shaped_parts stale targets id prefer (q + 1) p.end ps some few (omega (arith, le)) a.1,
    )

pub new_shaped : (stale : Bool) (targets id q : ℕ) (ms : List MirrorSpec) → 0 < targets → targets ≤ 64 → q + part_count ms ≤ 65536 → AllByRecursion IsMirrorSpec ms → AllByRecursion IsShaped (new_mirrors stale targets id q ms)
new_shaped stale targets id q [] some few le a = tt
new_shaped stale targets id q (m ∷ ms) some few le a =
    all_append IsShaped _ _ (shaped_parts stale targets id m.prefer q 0 m.parts some few (omega (arith, le)) a.0.parts) (new_shaped stale targets (id + 1) (q + length m.parts) ms some few (omega (arith, le)) a.1)

-- ---- a new layout

fresh_parts : (targets id : ℕ) (prefer : Bool) (q start : ℕ) (ps : List Part) → all_fresh (new_parts false targets id prefer q start ps) ≡ true
fresh_parts targets id prefer q start [] = refl
fresh_parts targets id prefer q start (p ∷ ps) = fresh_parts targets id prefer (q + 1) p.end ps

fresh_first : (targets : ℕ) (ms : List MirrorSpec) → 0 < length ms → some_fresh (mirrors_of false targets 1 1 ms) ≡ true
fresh_first targets [] some = absurd (omega (arith, some))
fresh_first targets (m ∷ ms) some = or_left _ _ (fresh_parts targets 1 m.prefer 1 0 m.parts)

-- a state that goes with so many mirrors
abbrev pub Goes : State → ℕ → Type 0
Goes s n = (least s ≤ n) × (n ≤ most s)

goes_new : (n : ℕ) → 0 < n → n ≤ 32 → Goes (new_state n) n
goes_new n some few = elim (cases_Bool (eqb n 1)) as (λ _. Goes (new_state n) n) [
  | inl e ↦ (let one = eqb-true n 1 e in rw e (omega (arith, one), omega (arith, one)))
  | inr e ↦ (let one = eqb-false n 1 e in rw e (omega (arith, one), omega (arith, few)))
]

pub part_count_some : (ms : List MirrorSpec) → AllByRecursion IsMirrorSpec ms → length ms ≤ part_count ms
part_count_some [] a = omega arith
part_count_some (m ∷ ms) a = let ih = part_count_some ms a.1 in let one = some_part m.parts a.0.tiles in omega (arith, ih, one)
  where
    some_part : (ps : List Part) → PartsTile 0 ps → 1 ≤ length ps
    some_part [] t = absurd (omega (arith, t))
    some_part (p ∷ ps) t = omega arith

-- the layout of a new file is valid
pub new_valid : (ms : List MirrorSpec) (targets : ℕ) → IsSpec ms → 0 < targets → targets ≤ 64 → IsValid (new_layout ms targets)
new_valid ms targets s some few =
    let count = few_parts ms s in
    let least_parts = part_count_some ms s.mirrors in
    let n = length_mirrors false targets 1 1 ms in
    let size = length_new false targets 1 1 ms in
    let goes = goes_new (length ms) s.some s.few in
    record {
      mirrors = mirrors_of false targets 1 1 ms;
      whole = new_whole false targets 1 1 ms;
      ascend = new_ascend false targets 0 (length ms + 1) 1 1 ms (omega arith) (omega arith) s.mirrors;
      numbered = climbs_numbered (part_count ms + 1) 1 [] (new_mirrors false targets 1 1 ms) (omega arith) (omega (arith, size)) tt (new_climbs false targets 1 1 ms (omega (arith, count)));
      shaped = new_shaped false targets 1 1 ms some few (omega (arith, count)) s.mirrors;
      fresh = fresh_first targets ms s.some;
      low = rw n goes.0;
      high = rw n goes.1;
      generation = omega arith;
      below = omega (arith, least_parts);
      few = omega (arith, count);
    }

-- a layout that has what a new one has is it
pub same_new : (ms : List MirrorSpec) (targets n q : ℕ) (s : State) (cs : List Component) → s ≡ new_state (length ms) → n ≡ length ms + 1 → q ≡ part_count ms + 1 → cs ≡ new_mirrors false targets 1 1 ms
    → record { generation = 1; state = s; next_mirror = n; next_counter = q; components = cs } ≡ new_layout ms targets
same_new ms targets n q s cs a b c d = cc

-- a new layout has as many components as the spec has parts
pub count_new : (ms : List MirrorSpec) (targets : ℕ) (xs cs : List Component) → xs ≡ cs → cs ≡ new_mirrors false targets 1 1 ms → length xs ≡ part_count ms
count_new ms targets xs cs a b = ap (λ (ys : List Component). length ys) (a ∙ b) ∙ length_new false targets 1 1 ms

-- a layout made of these counts is the new one
pub is_new : (ms rs : List MirrorSpec) (targets : ℕ) (s : State) (xs cs : List Component) → rs ≡ ms → s ≡ new_state (length rs) → xs ≡ cs → cs ≡ new_mirrors false targets 1 1 ms
    → record { generation = 1; state = s; next_mirror = length rs + 1; next_counter = length xs + 1; components = cs } ≡ new_layout ms targets
is_new ms rs targets s xs cs e state slice made =
    same_new ms targets (length rs + 1) (length xs + 1) s cs (state ∙ ap (λ (ys : List MirrorSpec). new_state (length ys)) e) (ap (λ (ys : List MirrorSpec). length ys + 1) e) (ap (λ (n : ℕ). n + 1) (count_new ms targets xs cs slice made)) made
