-- How mirrors come to a layout and go from it.
use Rattle.std.specs.Prelude.{◌≡◌, ℕ, ◌+◌, ◌*◌, true, false, not, nat_eq, nat_lt, max, List, [], ◌∷◌, ◌++◌, length, map, filter, Option, Some, None, if◌then◌else◌}
use Rattle.std.specs.List.{position_or_len, enumerate_from}
use Rattle.composite_layout.specs.declared.component.Component.{Component}
use Rattle.composite_layout.specs.declared.component.State.{State}
use Rattle.composite_layout.specs.declared.component.State.TheVariants as states
use Rattle.composite_layout.specs.declared.spec.MirrorSpec.{MirrorSpec}
use Rattle.composite_layout.specs.Layouts.{Composite}
use Rattle.composite_layout.specs.LookUps.{begins_mirror, has_mirror, mirror_ids}
use Rattle.composite_layout.specs.Making.{new_mirrors, part_count}
use Rattle.layout_state.specs.Choosing.{has_fresh}
use Rattle.layout_state.specs.declared.error.StateError.{StateError}
use Rattle.layout_state.specs.declared.error.StateError.TheVariants as errors

-- ---- mirrors come

-- why so many mirrors, with so many components, can't come to a layout of at most so many mirrors
abbrev pub excess : Composite → ℕ → ℕ → ℕ → Option StateError
excess l mirrors components most =
    if nat_lt most (length (mirror_ids l.components) + mirrors) then Some errors.TooManyMirrors else (if nat_lt 65536 (l.next_counter + components) then Some errors.TooManyComponents else None)

-- the state of a layout to which stale mirrors came: a single mirror isn't single any more
abbrev pub added_state : State → State
added_state states.Single = states.WritePending
added_state states.ReadOnly = states.ReadOnly
added_state states.WritePending = states.WritePending
added_state states.SyncPending = states.SyncPending

-- new mirrors stand at the end: all their components are stale, and none has its objects
pub record IsAdd (mirrors : List MirrorSpec) (targets : ℕ) (old new : Composite) : Type 0 where
  pub generation : new.generation ≡ old.generation + 1
  pub state : new.state ≡ added_state old.state
  pub next_mirror : new.next_mirror ≡ old.next_mirror + length mirrors
  pub next_counter : new.next_counter ≡ old.next_counter + part_count mirrors
  pub components : new.components ≡ old.components ++ new_mirrors true targets old.next_mirror old.next_counter mirrors

-- the component with this mirror and this number in its file; all else stays
abbrev pub renamed : ℕ → ℕ → Component → Component
renamed mirror q c = record c { id = mirror * 65536 + q; mirror = mirror }

-- the place of a mirror among the mirrors of these components
abbrev pub place_of : ℕ → List Component → ℕ
place_of mirror cs = position_or_len (λ id. nat_eq id mirror) (mirror_ids cs)

-- the components as they come to another file: its mirror ids go on from this one, and its numbers from q on, both in their order; flags, extents, stripes and objects stay
abbrev pub taken_in : ℕ → ℕ → List Component → List Component
taken_in id q cs = map (λ p. renamed (id + place_of p.1.mirror cs) p.0 p.1) (enumerate_from q cs)

-- the mirror id at a component, after one of this mirror: one more where it begins a mirror
abbrev pub id_at : ℕ → Component → ℕ
id_at before c = if begins_mirror c then before + 1 else before

-- the components with numbers from q on, and with mirror ids that go on from this one
abbrev pub run_on : ℕ → ℕ → List Component → List Component
run_on before q [] = []
run_on before q (c ∷ cs) = renamed (id_at before c) q c ∷ run_on (id_at before c) (q + 1) cs

-- a file takes in the mirrors of another: they stand at the end, and the state is that of mirrors that hold the same
pub record Merge (old victim new : Composite) : Type 0 where
  pub generation : new.generation ≡ max old.generation victim.generation + 1
  pub state : new.state ≡ states.ReadOnly
  pub next_mirror : new.next_mirror ≡ old.next_mirror + length (mirror_ids victim.components)
  pub next_counter : new.next_counter ≡ old.next_counter + length victim.components
  pub components : new.components ≡ old.components ++ taken_in old.next_mirror old.next_counter victim.components

-- ---- a mirror goes

-- the components of a mirror
abbrev pub of_mirror : ℕ → List Component → List Component
of_mirror mirror cs = filter (λ c. nat_eq c.mirror mirror) cs

-- the components of the other mirrors
abbrev pub without : ℕ → List Component → List Component
without mirror cs = filter (λ c. not (nat_eq c.mirror mirror)) cs

-- why a mirror can't go: it isn't there, or no wholly fresh one would be left
abbrev pub keeping : ℕ → List Component → Option StateError
keeping mirror cs = if has_mirror mirror cs then (if has_fresh (without mirror cs) then None else Some (errors.LastFresh mirror)) else Some (errors.NoMirrorId mirror)

-- the state of a layout that so many mirrors are left: one is single
abbrev pub left_state : ℕ → State → State
left_state mirrors state = if nat_eq mirrors 1 then states.Single else state

-- a mirror's components go; all else stays
pub record IsRemove (mirror : ℕ) (old new : Composite) : Type 0 where
  pub generation : new.generation ≡ old.generation + 1
  pub state : new.state ≡ left_state (length (mirror_ids new.components)) old.state
  pub next_mirror : new.next_mirror ≡ old.next_mirror
  pub next_counter : new.next_counter ≡ old.next_counter
  pub components : new.components ≡ without mirror old.components

-- a file that is split off has the mirror's components with their ids, and the old file's counters
pub record Off (mirror : ℕ) (old part : Composite) : Type 0 where
  pub generation : part.generation ≡ old.generation + 1
  pub state : part.state ≡ states.Single
  pub next_mirror : part.next_mirror ≡ old.next_mirror
  pub next_counter : part.next_counter ≡ old.next_counter
  pub components : part.components ≡ of_mirror mirror old.components

-- ---- what mirrors keep

-- a component as a new mirror has it: stale, and without its objects
abbrev pub IsNew : Component → Type 0
IsNew c = (c.flags.stale ≡ true) × (c.flags.init ≡ false) × (c.objects ≡ [])

-- the component with its mirror and its number left out: what is left are flags, extent, stripe and objects
abbrev pub unnamed : Component → Component
unnamed c = renamed 0 0 c
