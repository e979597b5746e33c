-- Where the pieces of a write end.
use Rattle.std.specs.Prelude.{ℕ, ◌+◌, ◌*◌, ◌/◌, min}
use Rattle.composite_layout.specs.declared.component.Component.{Component}

-- where the piece ends that begins here, in this component: with its stripe unit, with the component or with the range
abbrev pub piece_end : Component → ℕ → ℕ → ℕ
piece_end c start end = min (min ((start / c.stripe.size + 1) * c.stripe.size) c.extent.end) end
