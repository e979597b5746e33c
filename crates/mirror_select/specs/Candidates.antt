-- The components that may answer a byte of a read, and the one that does.
use Rattle.std.specs.Prelude.{◌≡◌, ℕ, ◌<◌, Bool, true, false, not, ◌&&◌, ◌||◌, nat_eq, nat_lt, nat_le, Option, Some, None, List, length, position, slice_get, if◌then◌else◌}
use Rattle.std.specs.List.{list_any, list_all, find, slice_index_or}
use Rattle.composite_layout.specs.declared.component.Component.{Component}
use Rattle.mirror_select.specs.declared.types.Choice.{Choice}
use Rattle.mirror_select.specs.declared.types.Choice.TheVariants as choices

-- whether the component has this byte of the file
abbrev pub has_byte : ℕ → Component → Bool
has_byte byte c = nat_le c.extent.start byte && nat_lt byte c.extent.end

-- whether the component may answer reads: it is fresh, isn't offline and isn't among the failed ones
abbrev pub is_usable : List ℕ → Component → Bool
is_usable failed c = not c.flags.stale && (not c.flags.offline && not (list_any (λ id. nat_eq id c.id) failed))

-- whether the component may answer this byte
abbrev pub is_candidate : List ℕ → ℕ → Component → Bool
is_candidate failed byte c = has_byte byte c && is_usable failed c

-- whether the first component comes before the second, or is it: those with prefer come before the others, and of two alike the one with the lower id
abbrev pub comes_first : Component → Component → Bool
comes_first c d = if c.flags.prefer then (not d.flags.prefer || nat_le c.id d.id) else (not d.flags.prefer && nat_le c.id d.id)

-- whether the component is the least of the candidates for this byte
abbrev pub is_least : List Component → List ℕ → ℕ → Component → Bool
is_least cs failed byte c = is_candidate failed byte c && list_all (λ d. not (is_candidate failed byte d) || comes_first c d) cs

-- the component that answers the byte
abbrev pub chosen : List Component → List ℕ → ℕ → Option Component
chosen cs failed byte = find (is_least cs failed byte) cs

-- whether the component comes before the one at the best place so far, if there is one
abbrev pub is_better : List Component → Option ℕ → Component → Bool
is_better cs (Some place) c = not (comes_first (slice_index_or cs place c) c)
is_better cs None c = true

-- whether each fresh component over the byte is offline
abbrev pub all_offline : List Component → ℕ → Bool
all_offline cs byte = list_all (λ c. c.flags.stale || (c.flags.offline || not (has_byte byte c))) cs

-- a choice by the place of the least candidate, or by why there is none
abbrev pub choice_at : Option ℕ → Bool → Choice
choice_at (Some place) offline = choices.Component place
choice_at None offline = if offline then choices.AllOffline else choices.AllFailed

-- the choice for a byte
abbrev pub choice_of : List Component → List ℕ → ℕ → Choice
choice_of cs failed byte = choice_at (position (is_least cs failed byte) cs) (all_offline cs byte)

-- what a choice says: it is the least candidate; or there is no candidate, and why
abbrev pub Chooses : List Component → List ℕ → ℕ → Choice → Type 0
Chooses cs failed byte (choices.Component place) = (place < length cs) × (slice_get cs place ≡ chosen cs failed byte)
Chooses cs failed byte choices.AllOffline = (list_any (is_candidate failed byte) cs ≡ false) × (all_offline cs byte ≡ true)
Chooses cs failed byte choices.AllFailed = (list_any (is_candidate failed byte) cs ≡ false) × (all_offline cs byte ≡ false)
