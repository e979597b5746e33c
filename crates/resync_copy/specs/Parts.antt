-- The objects that a copy fences and resets, and the components that it copies to.
use Rattle.std.specs.Prelude.{ℕ, Bool, true, not, ◌&&◌, nat_eq, nat_lt, List, [], ◌∷◌, map, filter, find, Option, None, Some, is_none, is_some, slice_index_or, slice_set, if◌then◌else◌}
use Rattle.std.specs.List.{flat_map, list_any, list_all}
use Rattle.std.specs.Option.{option_map_or, option_or}
use Rattle.flr_base.specs.declared.reply.FailedCall.{FailedCall}
use Rattle.flr_base.specs.declared.reply.Left.{Left}
use Rattle.flr_base.specs.declared.reply.ObjectId.{ObjectId}
use Rattle.flr_base.specs.declared.reply.Range.{Range}
use Rattle.composite_layout.specs.declared.component.Component.{Component}
use Rattle.layout_state.specs.Selecting.{in_order}
use Rattle.resync_copy.specs.declared.parts.CopyObject.{CopyObject}
use Rattle.resync_copy.specs.declared.parts.Destination.{Destination}

-- two ranges have a byte in common
abbrev pub overlap : Range → Range → Bool
overlap a b = nat_lt a.start b.end && nat_lt b.start a.end

-- the component with this id
abbrev pub with_id : List Component → ℕ → Option Component
with_id cs id = find (λ (c : Component). nat_eq c.id id) cs

-- the objects of a component, in the order of its stripes
abbrev pub objects_of : Component → List CopyObject
objects_of c = map (λ (o : ObjectId). record { component = c.id; extent = c.extent; object = o }) c.objects

-- the objects of the component with this id, if it is there
abbrev pub objects_with : List Component → ℕ → List CopyObject
objects_with cs id = option_map_or objects_of (with_id cs id) []

-- the objects of the components with these ids, one component after the other
abbrev pub objects_in : List Component → List ℕ → List CopyObject
objects_in cs ids = flat_map (objects_with cs) ids

-- the bytes of the file that the component with this id has
abbrev pub extent_with : List Component → ℕ → Range
extent_with cs id = option_map_or (λ (c : Component). c.extent) (with_id cs id) (record { start = 0; end = 0 })

-- the component with this id, to be copied to
abbrev pub destination_with : List Component → ℕ → Destination
destination_with cs id = record { component = id; extent = extent_with cs id; left = None }

-- the components with these ids, to be copied to
abbrev pub destinations_in : List Component → List ℕ → List Destination
destinations_in cs ids = map (destination_with cs) ids

-- whether these bytes overlap one of the destinations
abbrev pub overlaps_any : List Destination → Range → Bool
overlaps_any ds range = list_any (λ (d : Destination). overlap d.extent range) ds

-- whether a copy to these destinations fences the component: it is fresh, has its objects, and overlaps one of them
abbrev pub is_fenced : List Destination → Component → Bool
is_fenced ds c = not c.flags.stale && (c.flags.init && overlaps_any ds c.extent)

-- the ids of the fenced components, in ascending order
abbrev pub fenced_ids : List Component → List Destination → List ℕ
fenced_ids cs ds = in_order (map (λ (c : Component). c.id) (filter (is_fenced ds) cs))

-- the fenced objects, by component, then by stripe
abbrev pub fenced_in : List Component → List Destination → List CopyObject
fenced_in cs ds = objects_in cs (fenced_ids cs ds)

-- ---- which destinations are left

-- the destination isn't left
abbrev pub is_kept : Destination → Bool
is_kept d = is_none d.left

-- the destination, left for this call if that is asked and it wasn't left before
abbrev pub left_if : Bool → FailedCall → Destination → Destination
left_if asked call d = if asked then record d { left = option_or d.left (Some call) } else d

-- the destinations, of which those that overlap these bytes are left for this call
abbrev pub left_over : Range → FailedCall → List Destination → List Destination
left_over range call ds = map (λ (d : Destination). left_if (overlap d.extent range) call d) ds

-- the destinations, of which the component with this id is left for this call
abbrev pub left_with : ℕ → FailedCall → List Destination → List Destination
left_with id call ds = map (λ (d : Destination). left_if (nat_eq d.component id) call d) ds

-- a destination by its place; behind the last there is none
abbrev pub destination_at : List Destination → ℕ → Destination
destination_at ds place = slice_index_or ds place (record { component = 0; extent = record { start = 0; end = 0 }; left = None })

-- the destinations, of which the one at this place is left for this call
abbrev pub left_at : ℕ → FailedCall → List Destination → List Destination
left_at place call ds = slice_set ds place (left_if true call (destination_at ds place))

-- whether the component with this id is one that isn't left
abbrev pub is_open : List Destination → ℕ → Bool
is_open ds id = list_any (λ (d : Destination). nat_eq d.component id && is_kept d) ds

-- every destination is left
abbrev pub all_left : List Destination → Bool
all_left ds = list_all (λ (d : Destination). is_some d.left) ds

-- whether these bytes overlap a destination that isn't left
abbrev pub overlaps_kept : List Destination → Range → Bool
overlaps_kept ds range = list_any (λ (d : Destination). is_kept d && overlap d.extent range) ds

-- the ids of the destinations that aren't left
abbrev pub cleared_of : List Destination → List ℕ
cleared_of ds = map (λ (d : Destination). d.component) (filter is_kept ds)

-- the component with the call for which it was left, if it was
abbrev pub left_entry : Destination → List Left
left_entry d = option_map_or (λ (call : FailedCall). record { component = d.component; call = call } ∷ []) d.left []

-- those that are left, each with its call
abbrev pub lefts_of : List Destination → List Left
lefts_of ds = flat_map left_entry ds
