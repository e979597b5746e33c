-- What the end of a copy, a change of flags, the begin of a copy and a write's intent do to a layout.
use Rattle.std.specs.Prelude.{◌≡◌, ℕ, ◌+◌, Bool, true, false, not, ◌&&◌, ◌||◌, nat_eq, List, length, map, find, Option, option_map, Some, None, is_none, if◌then◌else◌}
use Rattle.std.specs.List.{list_any}
use Rattle.flr_base.specs.declared.reply.Range.{Range}
use Rattle.flr_base.specs.declared.reply.Stripe.{Stripe}
use Rattle.composite_layout.specs.declared.component.Component.{Component}
use Rattle.composite_layout.specs.declared.component.Flags.{Flags}
use Rattle.composite_layout.specs.declared.component.State.TheVariants as states
use Rattle.composite_layout.specs.Choices.{overlaps}
use Rattle.composite_layout.specs.FlagChanges.{FlagSets}
use Rattle.composite_layout.specs.Layouts.{Composite}
use Rattle.composite_layout.specs.LookUps.{mirror_ids}
use Rattle.composite_layout.specs.Making.{new_state}
use Rattle.layout_state.specs.declared.error.StateError.{StateError}
use Rattle.layout_state.specs.declared.error.StateError.TheVariants as errors
use Rattle.layout_state.specs.Breaking.{pending, unleased}
use Rattle.layout_state.specs.Choosing.{has_fresh, is_over, primary_of}
use Rattle.layout_state.specs.Making.{with_new_objects, new_targets, nexts_after}

-- whether the component's id is one of these
abbrev pub is_named : List ℕ → Component → Bool
is_named ids c = list_any (nat_eq c.id) ids

-- the component, stale or not
abbrev pub with_stale : Bool → Component → Component
with_stale stale c = record c { flags = record c.flags { stale = stale } }

-- what of a component no mark changes
pub record Frame : Type 0 where
  pub id : ℕ
  pub mirror : ℕ
  pub extent : Range
  pub stripe : Stripe

abbrev pub frame_of : Component → Frame
frame_of c = record { id = c.id; mirror = c.mirror; extent = c.extent; stripe = c.stripe }

-- ---- the end of a copy

-- the component, without stale where it is named
abbrev pub fresh_if_named : List ℕ → Component → Component
fresh_if_named ids c = if is_named ids c then with_stale false c else c

-- the named components lose stale, and the state is that of a new file with these mirrors; one generation more, and all else stays
abbrev pub IsDone : List ℕ → Composite → Composite → Type 0
IsDone ids old new =
    new ≡ record old { generation = old.generation + 1; state = new_state (length (mirror_ids old.components)); components = map (fresh_if_named ids) old.components }

-- ---- a change of flags

-- the flags, with those of the change set and cleared; init stays, and nothing clears stale
abbrev pub with_change : FlagSets → Flags → Flags
with_change change f = record {
  init = f.init;
  stale = f.stale || change.set.stale;
  prefer = (f.prefer || change.set.prefer) && not change.clear.prefer;
  offline = (f.offline || change.set.offline) && not change.clear.offline;
  nosync = (f.nosync || change.set.nosync) && not change.clear.nosync;
}

-- the component, with its flags changed where it has this id
abbrev pub changed_if_named : ℕ → FlagSets → Component → Component
changed_if_named id change c = if nat_eq c.id id then record c { flags = with_change change c.flags } else c

-- the flags of the component with this id are changed, after a break where a copy is under way; one generation more, and all else stays
abbrev pub IsFlagChange : ℕ → FlagSets → Composite → Composite → Type 0
IsFlagChange id change old new =
    new ≡ record (unleased old) { generation = (unleased old).generation + 1; components = map (changed_if_named id change) old.components }

-- the mirror of the component with this id
abbrev pub mirror_of : ℕ → List Component → Option ℕ
mirror_of id cs = option_map (λ c. c.mirror) (find (λ c. nat_eq c.id id) cs)

-- why a change of flags is refused, if it is: there is no such component, or no mirror would be left wholly fresh
abbrev pub flags_refusal : ℕ → FlagSets → List Component → Option StateError
flags_refusal id change cs = refusal_at (mirror_of id cs)
  where
    refusal_at : Option ℕ → Option StateError
    refusal_at None = Some (errors.NoComponent id)
    refusal_at (Some mirror) = if has_fresh (map (changed_if_named id change) cs) then None else Some (errors.LastFresh mirror)

-- ---- the begin of a copy

-- the named components have objects, the new ones made for this file, and a copy is under way; one generation more, and all else stays
pub record IsBegin (ids : List ℕ) (file : ℕ) (nexts : List ℕ) (old new : Composite) (after : List ℕ) : Type 0 where
  pub layout : new ≡ record old { generation = old.generation + 1; state = states.SyncPending; components = with_new_objects (is_named ids) file nexts old.components }
  -- the next numbers stand past those that were used
  pub past : after ≡ nexts_after nexts (new_targets (is_named ids) (length nexts) file old.components)

-- ---- a write's intent

-- the component, stale where it is of another mirror and has bytes of the range
abbrev pub stale_if_behind : Range → ℕ → Component → Component
stale_if_behind range mirror c = if not (nat_eq c.mirror mirror) && overlaps range c then with_stale true c else c

-- over the range this mirror's components have objects, the new ones made for this file, and those of the other mirrors are stale; after a break where a copy is under way one generation more, and all else stays
pub record IsIntent (range : Range) (mirror file : ℕ) (nexts : List ℕ) (old new : Composite) (after : List ℕ) : Type 0 where
  pub layout :
      new
      ≡ record (unleased old) {
        generation = (unleased old).generation + 1;
        state = pending (length (mirror_ids old.components));
        components = map (stale_if_behind range mirror) (with_new_objects (is_over range mirror) file nexts old.components);
      }
  -- the next numbers stand past those that were used
  pub past : after ≡ nexts_after nexts (new_targets (is_over range mirror) (length nexts) file old.components)

-- why an intent is refused: there is no primary
abbrev pub intent_refusal : Range → List Component → Option StateError
intent_refusal range cs = if is_none (primary_of range cs) then Some (errors.NoPrimary range) else None
