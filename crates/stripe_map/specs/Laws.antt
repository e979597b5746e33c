-- What whoever speaks of the byte that a component holds may use of RAID0.
use Rattle.std.specs.Prelude.{◌≡◌, ℕ, ◌+◌, ◌/◌, ◌%◌, ◌<◌, ◌≤◌, ◌↔◌}
use Rattle.flr_base.specs.declared.reply.Stripe.{Stripe}
use Rattle.stripe_map.specs.Places.{place_of, tail_of}

-- two bytes of the file at one place are one byte
abbrev pub PlacesAreApart : Type 0
PlacesAreApart = (stripe : Stripe) (x y : ℕ) → place_of x stripe ≡ place_of y stripe → x ≡ y

-- a byte further on in one stripe unit lies as much further on in the same object
abbrev pub UnitIsConsecutive : Type 0
UnitIsConsecutive =
    (stripe : Stripe) (x far : ℕ) → (x + far) / stripe.size ≡ x / stripe.size →
    place_of (x + far) stripe ≡ record { index = (place_of x stripe).index; offset = (place_of x stripe).offset + far }

-- the bytes of an aligned chunk of 65536 lie in one stripe unit
abbrev pub ChunkLiesInOneUnit : Type 0
ChunkLiesInOneUnit =
    (stripe : Stripe) (x y : ℕ) → stripe.size % 65536 ≡ 0 → x / 65536 ≡ y / 65536 → x / stripe.size ≡ y / stripe.size

-- of a stripe's bytes, those from `from` on are those at or past its tail's offset
abbrev pub TailBeginsAtTheCut : Type 0
TailBeginsAtTheCut =
    (stripe : Stripe) (from x : ℕ) →
    0 < stripe.size → 0 < stripe.count →
    (tail_of from stripe (place_of x stripe).index ≤ (place_of x stripe).offset) ↔ (from ≤ x)
