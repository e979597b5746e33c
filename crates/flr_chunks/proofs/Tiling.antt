-- How many chunks the stale components of a valid layout have: no more than those of all mirrors but one.
use Rattle.std.proofs.Common.{◌≡◌, ℕ, ◌+◌, ◌-◌, ◌*◌, ◌≤◌, Bool, true, false, cond, not, min, List, [], ◌∷◌, ◌++◌, length, refl, ap, inl, inr, arith, add-mul, mul-le-mul_right}
use Rattle.std.proofs.lemmas.Bool.{and_parts, false≢true, not-true, or_cases}
use Rattle.flr_base.specs.declared.reply.Range.{Range}
use Rattle.composite_layout.specs.declared.component.Component.{Component}
use Rattle.composite_layout.specs.Layouts.{Ascend, Composite, IsValid, Mirror, Tiles, all_fresh, is_end, parts_of, some_fresh}
use Rattle.composite_layout.specs.LookUps.{mirror_ids}
use Rattle.composite_layout.proofs.Tiling.{edge, within}
use Rattle.layout_state.proofs.BreakLaws.{some_mirror}
use Rattle.layout_state.proofs.MirrorLaws.{count_ids}
use Rattle.resync_copy.specs.Chunks.{chunk_of, chunks_below}

-- the chunks of these bytes that begin below the size
abbrev pub chunks_over : ℕ → Range → ℕ
chunks_over size range = chunks_below (min range.end size) - chunk_of range.start

-- those of the stale components
abbrev pub stale_chunks : ℕ → List Component → ℕ
stale_chunks size [] = 0
stale_chunks size (c ∷ cs) = cond c.flags.stale (chunks_over size c.extent) 0 + stale_chunks size cs

-- a component has no more stale chunks than chunks
no_more : (stale : Bool) (n : ℕ) → cond stale n 0 ≤ n
no_more true n = omega arith
no_more false n = omega arith

-- the components that follow each other from a byte on have no more than the chunks from there
tiled_within : (size at : ℕ) (cs : List Component) → is_end at ≡ true → Tiles at cs → stale_chunks size cs ≤ chunks_below size - chunks_below at
tiled_within size at [] h t = omega arith
tiled_within size at (c ∷ cs) h t =
    let rest = tiled_within size c.extent.end cs t.2 t.3 in
    let here = no_more c.flags.stale (chunks_over size c.extent) in
    let top = within c.extent.end t.2 in
    elim (edge at h) as (λ _. stale_chunks size (c ∷ cs) ≤ chunks_below size - chunks_below at) [
      | inl past ↦ absurd (omega (arith, past, top, t.1))
      | inr even ↦ omega (arith, rest, here, even.0, t.0, t.1)
    ]

-- what is fresh has none
fresh_none : (size : ℕ) (cs : List Component) → all_fresh cs ≡ true → stale_chunks size cs ≡ 0
fresh_none size [] h = refl
fresh_none size (c ∷ cs) h =
    let parts = and_parts (not c.flags.stale) (all_fresh cs) h in
    let fresh : c.flags.stale ≡ false = not-true c.flags.stale parts.0 in
    let none : cond c.flags.stale (chunks_over size c.extent) 0 ≡ 0 = ap (λ (b : Bool). cond b (chunks_over size c.extent) 0) fresh in
    let rest = fresh_none size cs parts.1 in
    omega (arith, none, rest)

-- ---- mirrors

stale_append : (size : ℕ) (xs ys : List Component) → stale_chunks size (xs ++ ys) ≡ stale_chunks size xs + stale_chunks size ys
stale_append size [] ys = omega arith
stale_append size (x ∷ xs) ys = let rest = stale_append size xs ys in omega (arith, rest)

-- one mirror has no more chunks than the file
mirror_within : (size : ℕ) (cs : List Component) → Tiles 0 cs → stale_chunks size cs ≤ chunks_below size
mirror_within size cs t = let low = tiled_within size 0 cs refl t in omega (arith, low)

all_within : (size last next : ℕ) (ms : List Mirror) → Ascend last next ms → stale_chunks size (parts_of ms) ≤ length ms * chunks_below size
all_within size last next [] a = omega arith
all_within size last next (m ∷ ms) a =
    let rest = all_within size m.id next ms a.4 in
    let one = mirror_within size m.parts a.3 in
    let sum : stale_chunks size (parts_of (m ∷ ms)) ≡ stale_chunks size m.parts + stale_chunks size (parts_of ms) = stale_append size m.parts (parts_of ms) in
    let many = add-mul 1 (length ms) (chunks_below size) in
    omega (arith, rest, one, sum, many)

-- with a wholly fresh one, the stale chunks are those of the others
but_one : (size last next : ℕ) (ms : List Mirror) → Ascend last next ms → some_fresh ms ≡ true → stale_chunks size (parts_of ms) + chunks_below size ≤ length ms * chunks_below size
but_one size last next [] a h = absurd (false≢true h)
but_one size last next (m ∷ ms) a h =
    let one = mirror_within size m.parts a.3 in
    let sum : stale_chunks size (parts_of (m ∷ ms)) ≡ stale_chunks size m.parts + stale_chunks size (parts_of ms) = stale_append size m.parts (parts_of ms) in
    let many = add-mul 1 (length ms) (chunks_below size) in
    elim (or_cases (all_fresh m.parts) (some_fresh ms) h) as (λ _. stale_chunks size (parts_of (m ∷ ms)) + chunks_below size ≤ length (m ∷ ms) * chunks_below size) [
      | inl fresh ↦ (let none = fresh_none size m.parts fresh in let rest = all_within size m.id next ms a.4 in omega (arith, none, rest, sum, many))
      | inr later ↦ (let rest = but_one size m.id next ms a.4 later in omega (arith, one, rest, sum, many))
    ]

-- the stale components of a valid layout with at most so many mirrors have no more chunks than the file in all mirrors but one
pub stale_within : (l : Composite) → IsValid l → (size most : ℕ) → length (mirror_ids l.components) ≤ most → stale_chunks size l.components ≤ (most - 1) * chunks_below size
stale_within l v size most few =
    let count = count_ids l v in
    let some = some_mirror l v in
    let whole : stale_chunks size l.components ≡ stale_chunks size (parts_of v.mirrors) = ap (stale_chunks size) v.whole in
    let others = but_one size 0 l.next_mirror v.mirrors v.ascend v.fresh in
    let up : length v.mirrors * chunks_below size ≤ most * chunks_below size = mul-le-mul_right (chunks_below size) (omega (arith, count, few)) in
    let one : most ≡ (most - 1) + 1 = omega (arith, count, some, few) in
    let same : most * chunks_below size ≡ ((most - 1) + 1) * chunks_below size = ap (λ (n : ℕ). n * chunks_below size) one in
    let both = add-mul (most - 1) 1 (chunks_below size) in
    omega (arith, whole, others, up, same, both)
