-- What the look-ups of a layout answer, by its list of components.
use Rattle.std.specs.Prelude.{ℕ, Bool, not, ◌&&◌, nat_eq, nat_lt, nat_le, List, map, filter}
use Rattle.std.specs.List.{list_any}
use Rattle.composite_layout.specs.declared.component.Component.{Component}

-- whether the component is of this mirror, and has this byte of the file
abbrev pub covers : ℕ → ℕ → Component → Bool
covers mirror byte c = nat_eq c.mirror mirror && (nat_le c.extent.start byte && nat_lt byte c.extent.end)

-- whether there is a mirror of this id
abbrev pub has_mirror : ℕ → List Component → Bool
has_mirror mirror cs = list_any (λ c. nat_eq c.mirror mirror) cs

-- whether one of the mirror's components is stale
abbrev pub has_stale : ℕ → List Component → Bool
has_stale mirror cs = list_any (λ c. nat_eq c.mirror mirror && c.flags.stale) cs

-- each mirror begins with the component that has byte 0
abbrev pub begins_mirror : Component → Bool
begins_mirror c = nat_eq c.extent.start 0

-- the mirrors' ids, in ascending order
abbrev pub mirror_ids : List Component → List ℕ
mirror_ids cs = map (λ c. c.mirror) (filter begins_mirror cs)

-- whether there is such a mirror, and none of its components is stale
abbrev pub wholly_fresh : ℕ → List Component → Bool
wholly_fresh mirror cs = has_mirror mirror cs && not (has_stale mirror cs)
