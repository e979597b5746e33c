-- The stripes that a component may have.
use Rattle.std.specs.Prelude.{◌≡◌, ◌%◌, ◌^◌, ◌<◌, ◌≤◌}
use Rattle.flr_base.specs.declared.reply.Stripe.{Stripe}

-- a stripe unit is a multiple of 65536 bytes from 65536 to 2^30, and there are 1 to 64 stripes
pub record IsStripe (stripe : Stripe) : Type 0 where
  pub aligned : stripe.size % 65536 ≡ 0
  pub least_size : 65536 ≤ stripe.size
  pub most_size : stripe.size ≤ 2 ^ 30
  pub least_count : 0 < stripe.count
  pub most_count : stripe.count ≤ 64
