-- RAID0: the object, by its stripe, and the offset there that hold a byte of the file.
use Rattle.std.specs.Prelude.{ℕ, ◌+◌, ◌*◌, ◌/◌, ◌%◌, ◌==◌, nat_lt, if◌then◌else◌}
use Rattle.flr_base.specs.declared.reply.Stripe.{Stripe}
use Rattle.stripe_map.specs.declared.places.Place.{Place}

-- the place of a byte of the file
abbrev pub place_of : ℕ → Stripe → Place
place_of x stripe = record {
  index = (x / stripe.size) % stripe.count;
  offset = (x / (stripe.size * stripe.count)) * stripe.size + x % stripe.size;
}

-- the byte of the file that a place holds
abbrev pub back_of : Place → Stripe → ℕ
back_of place stripe = ((place.offset / stripe.size) * stripe.count + place.index) * stripe.size + place.offset % stripe.size

-- the offset in a stripe's object at which its bytes from `from` on begin: in the row of units that `from` lies in,
-- past the unit of a stripe before the one that is cut, and at the front of the unit of one behind it
abbrev pub tail_of : ℕ → Stripe → ℕ → ℕ
tail_of from stripe index =
    let row = from / (stripe.size * stripe.count) in
    let here = (from / stripe.size) % stripe.count in
    if nat_lt index here then (row + 1) * stripe.size
    else (if index == here then row * stripe.size + from % stripe.size else row * stripe.size)
