-- Who answers the bytes of a chunk, and where nobody is left.
use Rattle.std.proofs.Common.{◌≡◌, ℕ, ◌^◌, ◌<◌, ◌≤◌, ◌&&◌, ◌||◌, Bool, true, false, cond, not, nat_eq, Some, None, List, [], ◌∷◌, inl, inr, refl, sym, ap, subst, ◌∙◌, arith}
use Rattle.std.specs.Prelude.{Contains, find}
use Rattle.std.specs.List.{list_all, list_any}
use Rattle.std.proofs.lemmas.Bool.{eqb-true, false≢true}
use Rattle.composite_layout.specs.declared.component.Component.{Component}
use Rattle.mirror_select.specs.Candidates.{chosen, comes_first, has_byte, is_candidate, is_least, is_usable}
use Rattle.mirror_select.proofs.Choices.{nobody_chosen}
use Rattle.mirror_select.proofs.Least.{In, from_contains, in_none, none_in, some_in}
use Rattle.mirror_select.proofs.Sound.{AreGood, IsGood, every_in, has_from, has_parts}
use Rattle.resync_copy.specs.Chunks.{chunk_start}
use Rattle.flr_steps.specs.Traces.{Made}
use Rattle.flr_claims.specs.Copies.{HaveFailed}
use Rattle.flr_claims.specs.Failures.{is_failed_take, is_unanswered, may_answer}
use Rattle.flr_honest.proofs.Copied.Chunks.{IsIn, covers_chunk}

-- ---- one component

-- a component that has a byte of the chunk has its first one
first_too : (c : Component) → IsGood c → (number y : ℕ) → has_byte y c ≡ true → IsIn number y → (c.extent.start ≤ chunk_start number) × (chunk_start number < c.extent.end)
first_too c good number y has is =
    let parts = has_parts y c has in
    let from = parts.0 in
    let to = parts.1 in
    let low = is.0 in
    let high = is.1 in
    let starts = good.starts in
    (omega (arith, from, high, starts), omega (arith, to, low))

-- two tests that follow from each other
both_ways : (a b : Bool) → (a ≡ true → b ≡ true) → (b ≡ true → a ≡ true) → a ≡ b
both_ways true b f g = sym (f refl)
both_ways false true f g = g refl
both_ways false false f g = refl

-- it has all bytes of a chunk or none, below the end of the greatest file
pub has_chunk : (c : Component) → IsGood c → (number y : ℕ) → IsIn number y → y < 2 ^ 40 → has_byte y c ≡ has_byte (chunk_start number) c
has_chunk c good number y is small =
    both_ways (has_byte y c) (has_byte (chunk_start number) c) (λ has. (let f = first_too c good number y has is in has_from (chunk_start number) c f.0 f.1)) (λ has. (let f = covers_chunk c good number y has is small in has_from y c f.0 f.1))

-- ---- who answers

-- tests that agree on a list
all_same : (p q : Component → Bool) (cs : List Component) → ((c : Component) → In c cs → p c ≡ q c) → list_all p cs ≡ list_all q cs
all_same p q [] same = refl
all_same p q (c ∷ cs) same = (λ j. same c (inl refl) j && all_same p q cs (λ d i. same d (inr i)) j)

-- and what they find
find_same : (p q : Component → Bool) (cs : List Component) → ((c : Component) → In c cs → p c ≡ q c) → find p cs ≡ find q cs
find_same p q [] same = refl
find_same p q (c ∷ cs) same = by (p c) (q c) (same c (inl refl)) (find_same p q cs (λ d i. same d (inr i)))
  where
    by : (a b : Bool) → a ≡ b → find p cs ≡ find q cs → cond a (Some c) (find p cs) ≡ cond b (Some c) (find q cs)
    by true true e rest = refl
    by false false e rest = rest
    by true false e rest = absurd (false≢true (sym e))
    by false true e rest = absurd (false≢true e)

-- the same component answers all bytes of a chunk
pub chosen_in_chunk : (cs : List Component) → AreGood cs → (failed : List ℕ) (number y : ℕ) → IsIn number y → y < 2 ^ 40 → chosen cs failed y ≡ chosen cs failed (chunk_start number)
chosen_in_chunk cs good failed number y is small = find_same (is_least cs failed y) (is_least cs failed (chunk_start number)) cs least
  where
    candidate : (c : Component) → In c cs → is_candidate failed y c ≡ is_candidate failed (chunk_start number) c
    candidate c i = ap (λ (b : Bool). b && is_usable failed c) (has_chunk c (good.each c i) number y is small)

    least : (c : Component) → In c cs → is_least cs failed y c ≡ is_least cs failed (chunk_start number) c
    least c i = (λ j. candidate c i j && all_same (λ d. not (is_candidate failed y d) || comes_first c d) (λ d. not (is_candidate failed (chunk_start number) d) || comes_first c d) cs (λ d k. ap (λ (b : Bool). not b || comes_first c d) (candidate d k)) j)

-- ---- nobody is left

-- where nobody is chosen, without those of which a read failed, nobody may answer
pub nobody_answers : (cs : List Component) → AreGood cs → (made : List Made) (failed : List ℕ) (byte : ℕ) → HaveFailed cs made failed → chosen cs failed byte ≡ None → is_unanswered cs made byte ≡ true
nobody_answers cs good made failed byte have none = ap not (in_none (may_answer made byte) cs each)
  where
    failed_take : (c : Component) → In c cs → list_any (λ id. nat_eq id c.id) failed ≡ true → list_any (is_failed_take c) made ≡ true
    failed_take c i any =
        let s = some_in (λ id. nat_eq id c.id) failed any in
        let h = every_in (λ (id : ℕ). (d : Component) × Contains cs d × (d.id ≡ id) × (list_any (is_failed_take d) made ≡ true)) failed s.0 have s.1 in
        let one : h.0 ≡ c = good.apart h.0 c (from_contains cs h.0 h.1) i (h.2 ∙ eqb-true s.0 c.id s.2) in
        subst (λ (d : Component). list_any (is_failed_take d) made ≡ true) one h.3

    split : (has fresh online listed took : Bool) → (has && (not fresh && (not online && not listed))) ≡ false → (listed ≡ true → took ≡ true) → (has && (not fresh && (not online && not took))) ≡ false
    split false fresh online listed took e f = refl
    split true true online listed took e f = refl
    split true false true listed took e f = refl
    split true false false true took e f = ap not (f refl)
    split true false false false took e f = absurd (false≢true (sym e))

    each : (c : Component) → In c cs → may_answer made byte c ≡ false
    each c i = split (has_byte byte c) c.flags.stale c.flags.offline (list_any (λ id. nat_eq id c.id) failed) (list_any (is_failed_take c) made) (none_in (is_candidate failed byte) cs c (nobody_chosen cs failed byte none) i) (failed_take c i)
