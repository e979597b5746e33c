-- A range of bytes of the file, cut by stripe unit.
use Rattle.std.specs.Prelude.{◌≡◌, ℕ, ◌+◌, ◌-◌, ◌*◌, ◌/◌, ◌<◌, ◌^◌, min, max, nat_lt, if◌then◌else◌, List, [], ◌∷◌, map}
use Rattle.std.specs.List.{range_with_len}
use Rattle.flr_base.specs.declared.reply.Range.{Range}
use Rattle.flr_base.specs.declared.reply.Stripe.{Stripe}
use Rattle.stripe_map.specs.declared.places.Cut.{Cut}
use Rattle.flr_base.specs.Stripes.{IsStripe}
use Rattle.stripe_map.specs.Places.{place_of}

-- the stripe units that a range touches, counted from 0 in the file
abbrev pub units_of : Range → ℕ → List ℕ
units_of range size =
    range_with_len (range.start / size) (if nat_lt range.start range.end then (range.end - 1) / size + 1 - range.start / size else 0)

-- the bytes from `start` to `end`, with the place of the first
abbrev pub cut_at : Stripe → ℕ → ℕ → Cut
cut_at stripe start end = record { range = record { start = start; end = end }; place = place_of start stripe }

-- the part of a range in each unit that it touches
abbrev pub cuts_of : Range → Stripe → List Cut
cuts_of range stripe =
    map (λ unit. cut_at stripe (max range.start (unit * stripe.size)) (min range.end ((unit + 1) * stripe.size)))
    (units_of range stripe.size)

-- the ranges adjoin in ascending order, each has a byte, and together they go from `start` to `end`
abbrev pub Tile : List Range → ℕ → ℕ → Type 0
Tile [] start end = start ≡ end
Tile (range ∷ ranges) start end = (range.start ≡ start) × (start < range.end) × Tile ranges range.end end

-- bytes of one stripe unit, with the place of the first
pub record IsCut (stripe : Stripe) (cut : Cut) : Type 0 where
  pub within : (cut.range.end - 1) / stripe.size ≡ cut.range.start / stripe.size
  pub first : cut.place ≡ place_of cut.range.start stripe

-- the unit of a cut
abbrev pub unit_of_cut : Stripe → Cut → ℕ
unit_of_cut stripe cut = cut.range.start / stripe.size

-- what is kept while a range is being cut
pub record CanCut (left : Range) (stripe : Stripe) : Type 0 where
  pub striped : IsStripe stripe
  pub below : left.end < 2 ^ 40
