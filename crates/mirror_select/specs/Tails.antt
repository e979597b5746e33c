-- The tails of the mirror that takes a write of all bytes from one on.
use Rattle.std.specs.Prelude.{ℕ, ◌*◌, Bool, true, false, ◌&&◌, nat_eq, nat_le, nat_lt, not, ◌||◌, Option, Some, None, List, map, filter}
use Rattle.std.specs.List.{enumerate_from, flat_map, list_all, range_with_len, slice_index_or}
use Rattle.flr_base.specs.declared.reply.ObjectId.{ObjectId}
use Rattle.stripe_map.specs.Places.{tail_of}
use Rattle.composite_layout.specs.declared.component.Component.{Component}
use Rattle.composite_layout.specs.Layouts.{Composite, eof}
use Rattle.mirror_select.specs.declared.types.Tail.{Tail}
use Rattle.mirror_select.specs.Pieces.{ready_mirror}

-- a stripe of a component, with its object
pub record StripeObject : Type 0 where
  pub component : Component
  pub index : ℕ
  pub object : ObjectId

-- the stripes of a component that have an object, in their order, where the first of the objects is that of this stripe
abbrev pub stripes_from : Component → ℕ → List ObjectId → List StripeObject
stripes_from c index objects = map (λ e. record { component = c; index = e.0; object = e.1 }) (enumerate_from index objects)

-- the stripes of a component that have an object, in their order
abbrev pub stripes_in : Component → List StripeObject
stripes_in c = stripes_from c 0 c.objects

-- whether the component is of the mirror, if there is one, and ends above this byte
abbrev pub ends_above : Option ℕ → ℕ → Component → Bool
ends_above (Some mirror) from c = nat_eq c.mirror mirror && nat_lt from c.extent.end
ends_above None from c = false

-- the components with this id, of which there is one at most, that are of the mirror and end above the byte
abbrev pub with_id : List Component → Option ℕ → ℕ → ℕ → List Component
with_id cs mirror from id = filter (λ c. nat_eq c.id id && ends_above mirror from c) cs

-- the stripes of the mirror's components that end above the byte, by id and then by stripe: so many ids, from this one on
abbrev pub stripes_above : List Component → Option ℕ → ℕ → ℕ → ℕ → List StripeObject
stripes_above cs mirror from id count = flat_map (λ id. flat_map stripes_in (with_id cs mirror from id)) (range_with_len id count)

-- the mirror that takes a write of all bytes from this one on
abbrev pub tail_mirror : Composite → ℕ → Option ℕ
tail_mirror l from = ready_mirror l (record { start = from; end = eof })

-- the stripes that have a tail: those of the mirror that takes the write, of components that end above the byte, by id and then by stripe
unfoldable pub tail_stripes : Composite → ℕ → List StripeObject
tail_stripes l from = stripes_above l.components (tail_mirror l from) from 0 (l.next_mirror * 65536)

-- the tail of a stripe: what its object has from this byte of the file on
abbrev pub tail_in : ℕ → StripeObject → Tail
tail_in from s = record {
  component = s.component.id;
  object = s.object;
  offset = tail_of from s.component.stripe s.index;
}

-- the tails from this byte on
abbrev pub tails_of : Composite → ℕ → List Tail
tails_of l from = map (tail_in from) (tail_stripes l from)

-- whether the component ends above the byte, is of the mirror, and its id is at least this one
abbrev pub is_next : Option ℕ → ℕ → ℕ → Component → Bool
is_next mirror from id c = nat_le id c.id && ends_above mirror from c

-- whether the first component has the lower id, or is the second
abbrev pub has_lower_id : Component → Component → Bool
has_lower_id c d = nat_le c.id d.id

-- whether the component is the one with the lowest id of those
abbrev pub is_lowest : List Component → Option ℕ → ℕ → ℕ → Component → Bool
is_lowest cs mirror from id c = is_next mirror from id c && list_all (λ d. not (is_next mirror from id d) || has_lower_id c d) cs

-- whether the component has a lower id than the one at the best place so far, if there is one
abbrev pub is_better_id : List Component → Option ℕ → Component → Bool
is_better_id cs (Some place) c = not (has_lower_id (slice_index_or cs place c) c)
is_better_id cs None c = true
