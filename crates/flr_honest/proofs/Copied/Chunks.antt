-- The bytes of a chunk lie in one component, and in one stripe unit of it.
use Rattle.std.proofs.Common.{◌≡◌, ℕ, ◌+◌, ◌-◌, ◌*◌, ◌/◌, ◌%◌, ◌^◌, ◌<◌, ◌≤◌, true, None, inl, inr, ◌⊎◌, sym, ap, ◌∙◌, arith}
use Rattle.std.specs.Prelude.{is_some, slice_get}
use Rattle.std.proofs.lemmas.Nat.{div-add-mod', div-mul-add}
use Rattle.flr_base.specs.declared.reply.Stripe.{Stripe}
use Rattle.stripe_map.specs.Places.{place_of}
use Rattle.stripe_map.proofs.PlaceLaws.{chunk_in_one_unit, unit_consecutive}
use Rattle.composite_layout.specs.declared.component.Component.{Component}
use Rattle.composite_layout.specs.Layouts.{eof}
use Rattle.mirror_select.specs.Candidates.{has_byte}
use Rattle.mirror_select.specs.Laws.{LiesIn}
use Rattle.mirror_select.specs.Pieces.{piece_at}
use Rattle.mirror_select.proofs.Whole.{lies_in, piece_is}
use Rattle.mirror_select.proofs.Sound.{IsGood, has_parts}
use Rattle.resync_copy.specs.Chunks.{chunk_of, chunk_start}

-- the byte is one of the chunk with this number
abbrev pub IsIn : ℕ → ℕ → Type 0
IsIn number y = (chunk_start number ≤ y) × (y < chunk_start number + 65536)

-- which is the chunk that has it
pub number_of : (number y : ℕ) → IsIn number y → y / 65536 ≡ number
number_of number y is =
    let low = is.0 in
    let high = is.1 in
    let back : number * 65536 + (y - number * 65536) ≡ y = omega (arith, low) in
    ap (λ k. k / 65536) (sym back) ∙ div-mul-add number 65536 (y - number * 65536) (omega (arith, low, high))

pub is_in : (y : ℕ) → IsIn (chunk_of y) y
is_in y =
    let whole = div-add-mod' y 65536 in
    let rest : y % 65536 < 65536 = omega arith in
    (omega (arith, whole), omega (arith, whole, rest))

-- a component that has the chunk's first byte has all of them, but those past the greatest file
pub covers_chunk : (c : Component) → IsGood c → (number y : ℕ) → has_byte (chunk_start number) c ≡ true → IsIn number y → y < 2 ^ 40 → (c.extent.start ≤ y) × (y < c.extent.end)
covers_chunk c good number y has is small = (omega (arith, from, low), by good.ends)
  where
    parts : (c.extent.start ≤ chunk_start number) × (chunk_start number < c.extent.end)
    parts = has_parts (chunk_start number) c has

    from : c.extent.start ≤ chunk_start number
    from = parts.0

    to : number * 65536 < c.extent.end
    to = parts.1

    low : chunk_start number ≤ y
    low = is.0

    high : y < number * 65536 + 65536
    high = is.1

    wide : 2 ^ 40 < eof
    wide = omega arith

    by : (c.extent.end ≡ eof) ⊎ ((c.extent.end % 65536 ≡ 0) × (c.extent.end < eof)) → y < c.extent.end
    by (inl last) = omega (arith, last, small, wide)
    by (inr aligned) = let whole = div-add-mod' c.extent.end 65536 in let rest = aligned.0 in omega (arith, whole, rest, to, high)

-- each byte of the chunk lies as far behind the first one's place as it is behind the first
pub place_in_chunk : (stripe : Stripe) → stripe.size % 65536 ≡ 0 → (number y : ℕ) → IsIn number y → place_of y stripe ≡ record { index = (place_of (chunk_start number) stripe).index; offset = (place_of (chunk_start number) stripe).offset + (y - chunk_start number) }
place_in_chunk stripe aligned number y is =
    let low = is.0 in
    let back : chunk_start number + (y - chunk_start number) ≡ y = omega (arith, low) in
    let first : IsIn number (chunk_start number) = (omega arith, omega arith) in
    let unit : y / stripe.size ≡ chunk_start number / stripe.size = chunk_in_one_unit stripe y (chunk_start number) aligned (number_of number y is ∙ sym (number_of number (chunk_start number) first)) in
    ap (λ k. place_of k stripe) (sym back) ∙ unit_consecutive stripe (chunk_start number) (y - chunk_start number) (ap (λ k. k / stripe.size) back ∙ unit)

-- all in one unit
pub unit_in_chunk : (stripe : Stripe) → stripe.size % 65536 ≡ 0 → (number y : ℕ) → IsIn number y → y / stripe.size ≡ chunk_start number / stripe.size
unit_in_chunk stripe aligned number y is =
    let first : IsIn number (chunk_start number) = (omega arith, omega arith) in
    chunk_in_one_unit stripe y (chunk_start number) aligned (number_of number y is ∙ sym (number_of number (chunk_start number) first))

-- the component's object for the chunk
module _ (c : Component) (good : IsGood c) (number stop : ℕ) where
  -- is there where the component has its objects
  pub object_there : is_some (slice_get c.objects (place_of (chunk_start number) c.stripe).index) ≡ c.flags.init
  object_there = (piece_is (λ k. None) c good (chunk_start number) (chunk_start number) (λ y low high. absurd (omega (arith, low, high))) (λ y low high. absurd (omega (arith, low, high)))).object

  -- each byte of the chunk lies in it
  pub chunk_lies : (y : ℕ) → IsIn number y → has_byte y c ≡ true → LiesIn c (piece_at c (chunk_start number) stop) y
  chunk_lies y is has = lies_in (λ k. None) c good (chunk_start number) stop y is.0 (unit_in_chunk c.stripe good.shaped.stripe.aligned number y is) has
