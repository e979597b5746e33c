-- The places of RAID0: there and back, apart, and one after another within a unit.
use Rattle.std.proofs.Common.{◌≡◌, ℕ, zero, suc, ◌+◌, ◌*◌, ◌/◌, ◌%◌, ◌<◌, refl, sym, ap, ◌∙◌, arith, add_assoc}
use Rattle.std.proofs.Math.Nat.{div-div-eq-div-mul, mod-lt, mod-zero, mul-zero, zero-mul}
use Rattle.std.proofs.lemmas.Nat.{div-add-mod', div-mul-add, mod-mul-add}
use Rattle.flr_base.specs.declared.reply.Stripe.{Stripe}
use Rattle.stripe_map.specs.declared.places.Place.{Place}
use Rattle.stripe_map.specs.Places.{place_of, back_of}
use Rattle.stripe_map.specs.Laws.{PlacesAreApart, UnitIsConsecutive, ChunkLiesInOneUnit}

-- the unit of a byte, from its row and its stripe
pub unit_split : (s c x : ℕ) → x / (s * c) * c + (x / s) % c ≡ x / s
unit_split s c x = rw (← div-div-eq-div-mul x s c) (div-add-mod' (x / s) c)

back_of_byte : (s c x : ℕ) → (((x / (s * c)) * s + x % s) / s * c + (x / s) % c) * s + ((x / (s * c)) * s + x % s) % s ≡ x
back_of_byte zero c x = simp (mul-zero, zero-mul, mod-zero) (omega arith)
back_of_byte (suc s) c x =
    let low : x % suc s < suc s = mod-lt x (omega arith) in
    rw (div-mul-add (x / (suc s * c)) (suc s) (x % suc s) low, mod-mul-add (x / (suc s * c)) (suc s) (x % suc s) low, unit_split (suc s) c x) (div-add-mod' x (suc s))

pub back_of-place_of : (stripe : Stripe) (x : ℕ) → back_of (place_of x stripe) stripe ≡ x
back_of-place_of stripe x = back_of_byte stripe.size stripe.count x

pub places_apart : PlacesAreApart
places_apart stripe x y same =
    sym (back_of-place_of stripe x) ∙ ap (λ place. back_of place stripe) same ∙ back_of-place_of stripe y

place_of_unit : (s c row index low : ℕ) → low < s → index < c →
    (((row * c + index) * s + low) / s % c ≡ index) × (((row * c + index) * s + low) / (s * c) * s + ((row * c + index) * s + low) % s ≡ row * s + low)
place_of_unit s c row index low below few =
    let unit = div-mul-add (row * c + index) s low below in
    let rest = mod-mul-add (row * c + index) s low below in (
      rw unit (mod-mul-add row c index few),
      rw (← div-div-eq-div-mul ((row * c + index) * s + low) s c, unit, rest, div-mul-add row c index few) refl,
    )

pub place_of-back_of : (stripe : Stripe) (place : Place) → 0 < stripe.size → place.index < stripe.count → place_of (back_of place stripe) stripe ≡ place
place_of-back_of stripe place some few =
    let parts = place_of_unit stripe.size stripe.count (place.offset / stripe.size) place.index (place.offset % stripe.size) (mod-lt place.offset some) few in
    let offset = parts.1 ∙ div-add-mod' place.offset stripe.size in
    ap (λ (i : ℕ). record { index = i; offset = (place_of (back_of place stripe) stripe).offset }) parts.0
    ∙ ap (λ (o : ℕ). record { index = place.index; offset = o }) offset

pub unit_consecutive : UnitIsConsecutive
unit_consecutive stripe x far same =
    let s = stripe.size in
    let c = stripe.count in
    let whole : (x + far) / s * s + (x + far) % s ≡ x + far = div-add-mod' (x + far) s in
    let first : x / s * s + x % s ≡ x = div-add-mod' x s in
    let base : (x + far) / s * s ≡ x / s * s = ap (λ q. q * s) same in
    let low : (x + far) % s ≡ x % s + far = omega (arith, whole, first, base) in
    let index : (x + far) / s % c ≡ x / s % c = ap (λ q. q % c) same in
    let row : (x + far) / (s * c) ≡ x / (s * c) = sym (div-div-eq-div-mul (x + far) s c) ∙ ap (λ q. q / c) same ∙ div-div-eq-div-mul x s c in
    let offset : (x + far) / (s * c) * s + (x + far) % s ≡ x / (s * c) * s + x % s + far = rw (row, low) (sym (add_assoc (x / (s * c) * s) (x % s) far)) in
    ap (λ (i : ℕ). record { index = i; offset = (place_of (x + far) stripe).offset }) index
    ∙ ap (λ (o : ℕ). record { index = (place_of x stripe).index; offset = o }) offset

size_of_chunks : (s x : ℕ) → s % 65536 ≡ 0 → x / s ≡ x / 65536 / (s / 65536)
size_of_chunks s x aligned =
    let whole : 65536 * (s / 65536) ≡ s = omega (arith, div-add-mod' s 65536) in
    sym (div-div-eq-div-mul x 65536 (s / 65536) ∙ ap (λ n. x / n) whole)

pub chunk_in_one_unit : ChunkLiesInOneUnit
chunk_in_one_unit stripe x y aligned same =
    size_of_chunks stripe.size x aligned ∙ ap (λ q. q / (stripe.size / 65536)) same ∙ sym (size_of_chunks stripe.size y aligned)
