-- How many copies the blocks of a file have.
use Rattle.std.proofs.Common.{◌≡◌, ℕ, zero, suc, ◌+◌, ◌*◌, ◌<◌, ◌≤◌, Bool, true, false, cond, nat_lt, Option, Some, None, List, [], ◌∷◌, ◌++◌, length, filter, refl, ap, ◌∙◌, arith, length-append}
use Rattle.std.specs.List.{flat_map, range_with_len}
use Rattle.std.proofs.lemmas.Bool.Decides.{nat_tests}
use Rattle.std.proofs.lemmas.List.Elements.{filter-append}
use Rattle.flr_base.specs.declared.reply.Range.{Range}
use Rattle.composite_layout.specs.declared.component.Component.{Component}
use Rattle.composite_layout.specs.Layouts.{Ascend, Composite, IsValid, Mirror, Tiles, parts_of}
use Rattle.layout_state.proofs.MirrorLaws.{count_ids}
use Rattle.mirror_select.specs.Candidates.{is_candidate}
use Rattle.mirror_verify.specs.Blocks.{block, block_count, copies_from, copies_in, copies_of, holders}
use Rattle.flr_mirrors.proofs.Layouts.{mirrors_in}

-- ---- who has a byte

-- a component that may answer a byte has it
has_it : (byte : ℕ) (c : Component) → is_candidate [] byte c ≡ true → (c.extent.start ≤ byte) × (byte < c.extent.end)
has_it byte c e = (grind (arith, nat_tests), grind (arith, nat_tests))

-- components that follow each other from behind a byte don't have it
none_have : (byte at : ℕ) (cs : List Component) → byte < at → Tiles at cs → filter (is_candidate [] byte) cs ≡ []
none_have byte at [] past t = refl
none_have byte at (c ∷ cs) past t = by (is_candidate [] byte c) refl (none_have byte c.extent.end cs (omega (arith, past, t.1)) t.3)
  where
    by : (b : Bool) → is_candidate [] byte c ≡ b → filter (is_candidate [] byte) cs ≡ [] → cond b (c ∷ filter (is_candidate [] byte) cs) (filter (is_candidate [] byte) cs) ≡ []
    by true e rest = let has = has_it byte c e in absurd (omega (arith, has.0, past, t.0))
    by false e rest = rest

-- of one mirror one at most
one_has : (byte at : ℕ) (cs : List Component) → Tiles at cs → length (filter (is_candidate [] byte) cs) ≤ 1
one_has byte at [] t = omega arith
one_has byte at (c ∷ cs) t = by (is_candidate [] byte c) refl (one_has byte c.extent.end cs t.3)
  where
    by : (b : Bool) → is_candidate [] byte c ≡ b → length (filter (is_candidate [] byte) cs) ≤ 1 → length (cond b (c ∷ filter (is_candidate [] byte) cs) (filter (is_candidate [] byte) cs)) ≤ 1
    by true e rest =
        let none : length (filter (is_candidate [] byte) cs) ≡ 0 = ap (λ (ds : List Component). length ds) (none_have byte c.extent.end cs (has_it byte c e).1 t.3) in
        omega (arith, none)
    by false e rest = rest

few_have : (byte last next : ℕ) (ms : List Mirror) → Ascend last next ms → length (filter (is_candidate [] byte) (parts_of ms)) ≤ length ms
few_have byte last next [] a = omega arith
few_have byte last next (m ∷ ms) a =
    let one = one_has byte 0 m.parts a.3 in
    let rest = few_have byte m.id next ms a.4 in
    let both : length (filter (is_candidate [] byte) (m.parts ++ parts_of ms)) ≡ length (filter (is_candidate [] byte) m.parts) + length (filter (is_candidate [] byte) (parts_of ms)) =
    ap (λ (ds : List Component). length ds) (filter-append (is_candidate [] byte) m.parts (parts_of ms)) ∙ length-append (filter (is_candidate [] byte) m.parts) (filter (is_candidate [] byte) (parts_of ms)) in
    omega (arith, one, rest, both)

-- in a valid layout no more components have a block than there are mirrors
holders_few : (l : Composite) → IsValid l → (range : Range) → length (holders range l.components) ≤ mirrors_in l.components
holders_few l v range =
    let few = few_have range.start 0 l.next_mirror v.mirrors v.ascend in
    let same : length (holders range l.components) ≡ length (holders range (parts_of v.mirrors)) = ap (λ (cs : List Component). length (holders range cs)) v.whole in
    let count = count_ids l v in
    omega (arith, few, same, count)

-- ---- copies

one_each : (against : Option ℕ) (range : Range) (hs : List Component) → length (copies_from against range hs) ≡ length hs
one_each against range [] = refl
one_each None range (c ∷ hs) = ap suc (one_each (Some c.id) range hs)
one_each (Some first) range (c ∷ hs) = ap suc (one_each (Some first) range hs)

block_few : (cs : List Component) (range : Range) → length (copies_in cs range) ≤ length (holders range cs)
block_few cs range = by (nat_lt 1 (length (holders range cs)))
  where
    by : (b : Bool) → length (cond b (copies_from None range (holders range cs)) []) ≤ length (holders range cs)
    by true = let same = one_each None range (holders range cs) in omega (arith, same)
    by false = omega arith

-- as many lists, each of which is short
short_in : {X : Type 0} (most : ℕ) (f : ℕ → List X) → ((k : ℕ) → length (f k) ≤ most) → (a n : ℕ) → length (flat_map f (range_with_len a n)) ≤ most * n
short_in most f few a zero = omega arith
short_in most f few a (suc n) =
    let here = few a in
    let rest = short_in most f few (a + 1) n in
    let both : length (f a ++ flat_map f (range_with_len (a + 1) n)) ≡ length (f a) + length (flat_map f (range_with_len (a + 1) n)) = length-append (f a) (flat_map f (range_with_len (a + 1) n)) in
    omega (arith, here, rest, both)

-- a file has at most one copy of each block for each mirror
pub copies_few : (most : ℕ) (l : Composite) (size : ℕ) → IsValid l → mirrors_in l.components ≤ most → length (copies_of l.components size) ≤ most * block_count size
copies_few most l size v few = short_in most (λ index. copies_in l.components (block size index)) (λ k. (
    let a = block_few l.components (block size k) in
    let b = holders_few l v (block size k) in
    omega (arith, a, b, few)
    )) 0 (block_count size)
