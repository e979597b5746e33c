-- Which components a resync copies to.
use Rattle.std.specs.Prelude.{◌≡◌, ◌↔◌, ℕ, zero, suc, ◌+◌, ◌-◌, ◌<◌, ◌≤◌, Bool, true, not, ◌&&◌, nat_eq, nat_lt, nat_le, List, [], ◌∷◌, map, filter, find, Option, None, Some, if◌then◌else◌, Any, Contains, option_map}
use Rattle.std.specs.List.{list_any}
use Rattle.std.specs.List.Sorted.{IsStrictlyIncreasing}
use Rattle.flr_base.specs.declared.reply.Range.{Range}
use Rattle.composite_layout.specs.declared.component.Component.{Component}
use Rattle.composite_layout.specs.LookUps.{has_mirror}
use Rattle.layout_state.specs.declared.error.StateError.{StateError}
use Rattle.layout_state.specs.declared.error.StateError.TheVariants as errors

-- whether the byte can be copied from the component, which has it, is fresh and isn't offline
abbrev pub is_source : ℕ → Component → Bool
is_source byte c = (nat_le c.extent.start byte && nat_lt byte c.extent.end) && (not c.flags.stale && not c.flags.offline)

-- whether some component is a source of the byte
abbrev pub has_source : List Component → ℕ → Bool
has_source cs byte = list_any (is_source byte) cs

-- whether each of so many bytes, of which this is the first, has a source
unfoldable pub all_have_sources : List Component → ℕ → ℕ → Bool
all_have_sources cs zero byte = true
all_have_sources cs (suc n) byte = has_source cs byte && all_have_sources cs n (byte + 1)

-- whether each byte of the range has a source
abbrev pub is_sourced : List Component → Range → Bool
is_sourced cs range = all_have_sources cs (range.end - range.start) range.start

-- each byte from the first up to the end has a source
abbrev pub AreSourced : List Component → ℕ → ℕ → Type 0
AreSourced cs first end = (byte : ℕ) → first ≤ byte → byte < end → has_source cs byte ≡ true

-- whether the component is asked for: it is of a mirror that is named, or none is named and it has no nosync
abbrev pub is_asked : Option (List ℕ) → Component → Bool
is_asked None c = not c.flags.nosync
is_asked (Some only) c = list_any (λ id. nat_eq id c.mirror) only

-- whether a resync copies to the component: it is stale, not offline and asked for, and each of its bytes has a source
abbrev pub is_selected : Option (List ℕ) → List Component → Component → Bool
is_selected only cs c = c.flags.stale && (not c.flags.offline && (is_asked only c && is_sourced cs c.extent))

-- the number, put before the first of ascending numbers that isn't less
abbrev pub put_in : ℕ → List ℕ → List ℕ
put_in n [] = n ∷ []
put_in n (k ∷ ks) = if nat_le n k then n ∷ k ∷ ks else k ∷ put_in n ks

-- the numbers in ascending order
abbrev pub in_order : List ℕ → List ℕ
in_order [] = []
in_order (n ∷ ns) = put_in n (in_order ns)

-- the ids of the components to which a resync copies, in ascending order
abbrev pub selected_of : Option (List ℕ) → List Component → List ℕ
selected_of only cs = in_order (map (λ c. c.id) (filter (is_selected only cs) cs))

-- the first named mirror that there isn't
abbrev pub absent_of : Option (List ℕ) → List Component → Option ℕ
absent_of None cs = None
absent_of (Some only) cs = find (λ id. not (has_mirror id cs)) only

-- why a choice is refused: for the first named mirror that there isn't
abbrev pub select_refusal : Option (List ℕ) → List Component → Option StateError
select_refusal only cs = option_map errors.NoMirrorId (absent_of only cs)

-- a component to which a resync copies
pub record IsSelected (only : Option (List ℕ)) (cs : List Component) (c : Component) : Type 0 where
  pub stale : c.flags.stale ≡ true
  pub online : not c.flags.offline ≡ true
  pub asked : is_asked only c ≡ true
  pub sourced : AreSourced cs c.extent.start c.extent.end

-- the ids ascend, none twice, and they are those of the selected components
pub record IsSelection (only : Option (List ℕ)) (cs : List Component) (ids : List ℕ) : Type 0 where
  pub ascend : IsStrictlyIncreasing ids
  pub members : (id : ℕ) → Contains ids id ↔ Any (λ c. (c.id ≡ id) × IsSelected only cs c) cs
