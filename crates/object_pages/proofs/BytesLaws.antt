-- Laws of the words on an object's bytes.
use Rattle.std.proofs.Common.{◌≡◌, ℕ, ◌+◌, ◌-◌, ◌<◌, ◌≤◌, cond, ◌&&◌, List, length, map, take, drop, replicate, get_or, refl, ap, ◌∙◌, sym, inl, inr, arith}
use Rattle.std.specs.Prelude.{max, nat_le, nat_lt}
use Rattle.std.specs.List.{range_with_len}
use Rattle.std.proofs.lemmas.Bool.{cases_lt}
use Rattle.std.proofs.lemmas.Bool.Decides.{nat_tests}
use Rattle.std.proofs.lemmas.List.{ext_get_or, get_or_past, get_or-take, get_or-drop, get_or-replicate, length-replicate, length-take, length-drop, length-take-le}
use Rattle.std.proofs.lemmas.List.FromFn.{length-map-range_with_len, get_or-map-range_with_len}
use Rattle.flr_base.specs.Bytes.{overlay}
use Rattle.flr_base.proofs.Bytes.{overlay_in, overlay_out}
use Rattle.object_pages.specs.Bytes.{overlaid}

-- a list made by a function of the index, from its bytes
pub made_by : (f : ℕ → ℕ) (xs : List ℕ) (a n : ℕ) → length xs ≡ n → ((k : ℕ) → k < n → get_or xs k 0 ≡ f (a + k)) → xs ≡ map f (range_with_len a n)
made_by f xs a n long each =
    ext_get_or 0 xs (map f (range_with_len a n)) (long ∙ sym (length-map-range_with_len f a n))
    (λ k h. let below : k < n = omega arith in each k below ∙ sym (get_or-map-range_with_len f a n k (a + k) 0 below refl))

-- two lists of one length and of the same bytes are one
pub same_bytes : (xs ys : List ℕ) → length xs ≡ length ys → ((x : ℕ) → get_or xs x 0 ≡ get_or ys x 0) → xs ≡ ys
same_bytes xs ys long each = ext_get_or 0 xs ys long (λ k h. each k)

-- inside the new bytes
pub overlaid_inside : (f : ℕ → ℕ) (offset : ℕ) (new : List ℕ) (x : ℕ) → offset ≤ x → x < offset + length new → overlaid f offset new x ≡ get_or new (x - offset) 0
overlaid_inside f offset new x low high = grind (arith, nat_tests)

-- before the new bytes
pub overlaid_before : (f : ℕ → ℕ) (offset : ℕ) (new : List ℕ) (x : ℕ) → x < offset → overlaid f offset new x ≡ f x
overlaid_before f offset new x low = grind (arith, nat_tests)

-- behind the new bytes
pub overlaid_behind : (f : ℕ → ℕ) (offset : ℕ) (new : List ℕ) (x : ℕ) → offset + length new ≤ x → overlaid f offset new x ≡ f x
overlaid_behind f offset new x high = grind (arith, nat_tests)

-- before, inside or behind the new bytes
pub by_place : (P : Type 0) (offset : ℕ) (new : List ℕ) (x : ℕ) → (x < offset → P) → (offset ≤ x → x < offset + length new → P) → (offset + length new ≤ x → P) → P
by_place P offset new x before inside behind =
    elim (cases_lt x offset) [
      | inl low ↦ before low
      | inr from ↦ elim (cases_lt x (offset + length new)) [ inl high ↦ inside from high | inr past ↦ behind past ]
    ]

-- the old bytes count where the new ones don't lie
pub overlaid_same : (f g : ℕ → ℕ) (offset : ℕ) (new : List ℕ) (x : ℕ) → f x ≡ g x → overlaid f offset new x ≡ overlaid g offset new x
overlaid_same f g offset new x same = ap (λ old. cond (nat_le offset x && nat_lt x (offset + length new)) (get_or new (x - offset) 0) old) same

-- a byte of an overlay, also past its end
pub byte-overlay : (old : List ℕ) (offset : ℕ) (new : List ℕ) (x : ℕ) → get_or (overlay old offset new) x 0 ≡ overlaid (λ y. get_or old y 0) offset new x
byte-overlay old offset new x =
    let f : ℕ → ℕ = λ y. get_or old y 0 in
    by_place (get_or (overlay old offset new) x 0 ≡ overlaid f offset new x) offset new x
    (λ low. overlay_out old offset new x (λ from high. omega arith) ∙ sym (overlaid_before f offset new x low))
    (λ from high. overlay_in old offset new x from high ∙ sym (overlaid_inside f offset new x from high))
    (λ past. overlay_out old offset new x (λ from high. omega arith) ∙ sym (overlaid_behind f offset new x past))

-- a byte of a list that is cut: before the cut it stays, behind it there are zeros
pub byte-take_before : (bytes : List ℕ) (n x : ℕ) → x < n → get_or (take n bytes) x 0 ≡ get_or bytes x 0
byte-take_before bytes n x below = get_or-take n bytes x 0 below

pub byte-take_behind : (bytes : List ℕ) (n x : ℕ) → n ≤ x → get_or (take n bytes) x 0 ≡ 0
byte-take_behind bytes n x past = get_or_past (take n bytes) x 0 (omega (arith, length-take n bytes))

-- new bytes laid part by part
pub overlaid_more : (f : ℕ → ℕ) (offset : ℕ) (new : List ℕ) (done stop x : ℕ) → done ≤ stop → stop ≤ length new → overlaid (overlaid f offset (take done new)) (offset + done) (take (stop - done) (drop done new)) x ≡ overlaid f offset (take stop new) x
overlaid_more f offset new done stop x order fits =
    let old : ℕ → ℕ = overlaid f offset (take done new) in
    let part : List ℕ = take (stop - done) (drop done new) in
    let all : List ℕ = take stop new in
    let long_part : length part ≡ stop - done = length-take-le (stop - done) (drop done new) (omega (arith, length-drop done new)) in
    let long_all : length all ≡ stop = length-take-le stop new fits in
    let long_done : length (take done new) ≡ done = length-take-le done new (omega arith) in
    by_place (overlaid old (offset + done) part x ≡ overlaid f offset all x) (offset + done) part x
    (λ before. overlaid_before old (offset + done) part x before ∙
    elim (cases_lt x offset) [
      | inl low ↦ overlaid_before f offset (take done new) x low ∙ sym (overlaid_before f offset all x low)
      | inr from ↦
          let below : x - offset < done = omega arith in
          let within : x - offset < stop = omega arith in
          overlaid_inside f offset (take done new) x from (omega arith)
          ∙ get_or-take done new (x - offset) 0 below
          ∙ sym (overlaid_inside f offset all x from (omega arith) ∙ get_or-take stop new (x - offset) 0 within)
    ])
    (λ from high.
    let below : x - (offset + done) < stop - done = omega arith in
    let within : x - offset < stop = omega arith in
    overlaid_inside old (offset + done) part x from high
    ∙ get_or-take (stop - done) (drop done new) (x - (offset + done)) 0 below
    ∙ get_or-drop done new (x - (offset + done)) 0
    ∙ ap (λ i. get_or new i 0) (let e : done + (x - (offset + done)) ≡ x - offset = omega arith in e)
    ∙ sym (overlaid_inside f offset all x (omega arith) (omega arith) ∙ get_or-take stop new (x - offset) 0 within))
    (λ past. overlaid_behind old (offset + done) part x past
    ∙ overlaid_behind f offset (take done new) x (omega arith)
    ∙ sym (overlaid_behind f offset all x (omega arith)))

-- each of some zeros is zero, and so is what is past them
pub get_or-zeros : (n : ℕ) (xs : List ℕ) → xs ≡ replicate n 0 → (k : ℕ) → get_or xs k 0 ≡ 0
get_or-zeros n xs zeros k =
    ap (λ ys. get_or ys k 0) zeros ∙
    elim (cases_lt k n) [
      | inl below ↦ get_or-replicate n k 0 0 below
      | inr past ↦ get_or_past (replicate n 0) k 0 (omega (arith, length-replicate {A = ℕ} n 0))
    ]
