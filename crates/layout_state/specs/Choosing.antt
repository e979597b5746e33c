-- Which mirror takes the writes of a range.
use Rattle.std.specs.Prelude.{◌≡◌, ℕ, ◌≤◌, Bool, true, false, not, ◌&&◌, ◌||◌, nat_eq, List, Option, None, Some, find, ◌⊎◌}
use Rattle.std.specs.Option.{option_or}
use Rattle.std.specs.List.{list_any, list_all}
use Rattle.flr_base.specs.declared.reply.Range.{Range}
use Rattle.composite_layout.specs.declared.component.Component.{Component}
use Rattle.composite_layout.specs.LookUps.{mirror_ids, wholly_fresh}
use Rattle.composite_layout.specs.Choices.{overlaps}

-- whether the component is of this mirror and has bytes of the range
abbrev pub is_over : Range → ℕ → Component → Bool
is_over range mirror c = nat_eq c.mirror mirror && overlaps range c

-- whether one of the mirror's components over the range is offline
abbrev pub has_offline : Range → List Component → ℕ → Bool
has_offline range cs mirror = list_any (λ c. is_over range mirror c && c.flags.offline) cs

-- whether all of the mirror's components over the range are preferred
abbrev pub all_preferred : Range → List Component → ℕ → Bool
all_preferred range cs mirror = list_all (λ c. not (is_over range mirror c) || c.flags.prefer) cs

-- a candidate is a wholly fresh mirror with no component over the range offline
abbrev pub is_candidate : Range → List Component → ℕ → Bool
is_candidate range cs mirror = wholly_fresh mirror cs && not (has_offline range cs mirror)

-- a candidate all of whose components over the range are preferred
abbrev pub is_preferred : Range → List Component → ℕ → Bool
is_preferred range cs mirror = is_candidate range cs mirror && all_preferred range cs mirror

-- the primary of a range: the lowest preferred candidate, else the lowest candidate
abbrev pub primary_of : Range → List Component → Option ℕ
primary_of range cs = option_or (find (is_preferred range cs) (mirror_ids cs)) (find (is_candidate range cs) (mirror_ids cs))

-- the number passes the test, and it is the least that does
pub record IsLeast (test : ℕ → Bool) (n : ℕ) : Type 0 where
  pub passes : test n ≡ true
  pub least : (k : ℕ) → test k ≡ true → n ≤ k

-- no number passes the test
abbrev pub PassesNone : (ℕ → Bool) → Type 0
PassesNone test = (k : ℕ) → test k ≡ false

-- the primary is the least of the preferred candidates, or with none such the least candidate; there is none where there is no candidate
abbrev pub IsPrimary : Range → List Component → Option ℕ → Type 0
IsPrimary range cs None = PassesNone (is_candidate range cs)
IsPrimary range cs (Some mirror) = IsLeast (is_preferred range cs) mirror ⊎ PassesNone (is_preferred range cs) × IsLeast (is_candidate range cs) mirror

-- all components of other mirrors over the range are stale
abbrev pub others_stale : Range → List Component → ℕ → Bool
others_stale range cs mirror = list_all (λ c. not (overlaps range c) || (nat_eq c.mirror mirror || c.flags.stale)) cs

-- no other mirror than this is wholly fresh
abbrev pub IsOnlyFresh : List Component → ℕ → Type 0
IsOnlyFresh cs mirror = (k : ℕ) → wholly_fresh k cs ≡ true → k ≡ mirror

-- whether some mirror is wholly fresh
abbrev pub has_fresh : List Component → Bool
has_fresh cs = list_any (λ id. wholly_fresh id cs) (mirror_ids cs)
