-- The rule of the table under a cell, and what each step on it tells. Word 0 is twice the number of places in the value's schedule, and one more while a seat has the turn. Slot 0 has the value while no seat has the turn.
use Rattle.std.specs.Prelude.{◌≡◌, ◌≢◌, ℕ, ◌+◌, ◌*◌, ◌^◌, ◌<◌, ◌≤◌, true, List, [], ◌∷◌, length, slice_index, Option, Some, Contains}
use Rattle.std.specs.List.Sorted.{IsStrictlyIncreasing}
use mathlib.Core.Option.{some, none}
use lib.ListN.{get_elem?}
use Rattle.atomic_table.specs.Table.{State, Me, Step}
use Rattle.turn_cell.specs.declared.view.View.{View}
use Rattle.turn_cell.specs.Schedules.{IsFront}
use Rattle.turn_cell.specs.Places.{ArePlaces}
use Rattle.turn_cell.specs.Views.{view_after_load, view_after_claim, view_after_lost_claim, view_after_step, view_after_release}

-- What holds of the view of a seat, where the value has this origin and came to this schedule: what it has seen or was told are fronts of that. Whoever has the turn has seen all of it. Its places are within what it has seen, and are its own.
pub record IsSoundView {O : Type 0} (origin : O) (past : List ℕ) (held holder : ℕ) (maker : ℕ → ℕ) (seat : ℕ) (v : View O) : Type 0 where
  pub same : (x : O) → v.origin ≡ Some x → x ≡ origin
  pub seen : IsFront v.seen past
  pub told : IsFront v.told past
  pub turn : v.has_turn ≡ true → (held ≡ 1) × (seat ≡ holder) × (v.seen ≡ past)
  pub ascending : IsStrictlyIncreasing v.mine
  pub within : (place : ℕ) → Contains v.mine place → (0 < place) × (place ≤ length v.seen) × (maker place ≡ seat)

module _ {W O : Type 0} (schedule : W → List ℕ) (origin : W → O) where
  -- The value came to the schedule `past`. `held` is 1 while the seat `holder` has the turn. The seat `maker p` made the place p, so that no two seats share a place.
  pub record IsSoundTable (o : O) (s : State (Option W) (View O)) : Type 0 where
    pub past : List ℕ
    pub held : ℕ
    pub holder : ℕ
    pub maker : ℕ → ℕ
    pub word : slice_index s.words 0 ≡ 2 * length past + held
    pub one : length s.words ≡ 1
    pub flag : held ≤ 1
    pub few : length past < 2 ^ 32
    pub each : (seat : ℕ) (v : View O) → get_elem? s.views seat ≡ some v → IsSoundView o past held holder maker seat v
    pub taken : held ≡ 1 → (v : View O) × (get_elem? s.views holder ≡ some v) × (v.has_turn ≡ true)
    pub out : held ≡ 1 → get_elem? s.homes 0 ≡ some none
    pub at_home : held ≡ 0 → (x : W) × (get_elem? s.homes 0 ≡ some (some (Some x))) × (schedule x ≡ past) × (origin x ≡ o)

  -- a claim at the word that was read: where it is found, the seat has the turn, and takes the value with a schedule that begins with what it has seen; else another seat was quicker
  abbrev pub TellsClaim : Step (Option W) → Me (Option W) (View O) → ℕ → Me (Option W) (View O) → Type 0
  TellsClaim claim old found new =
      old.0.read ≡ Some claim.first
      → (found ≡ claim.first → (x : W) × (new ≡ (view_after_claim (schedule x) old.0, (0, Some x) ∷ old.1)) × ((o : O) → old.0.origin ≡ Some o → origin x ≡ o)
      × IsFront old.0.seen (schedule x) × (claim.first ≡ 2 * length (schedule x)) × (length (schedule x) < 2 ^ 32))
      × (found ≢ claim.first → new ≡ (view_after_lost_claim old.0, old.1))

module _ {W O : Type 0} (schedule : W → List ℕ) where
  -- the turn is given up with the value, which made a step
  abbrev pub TellsStep : Step (Option W) → Me (Option W) (View O) → ℕ → Me (Option W) (View O) → Type 0
  TellsStep release old found new = (x : W) → old.1 ≡ (0, Some x) ∷ [] → new ≡ (view_after_step (schedule x) old.0, [])

module _ {S O : Type 0} where
  -- the turn is given up with the value, which made no step
  abbrev pub TellsRelease : Step S → Me S (View O) → ℕ → Me S (View O) → Type 0
  TellsRelease release old found new = (x : S) → old.1 ≡ (0, x) ∷ [] → new ≡ (view_after_release old.0, [])

  -- the word is loaded
  abbrev pub TellsLoad : Step S → Me S (View O) → ℕ → Me S (View O) → Type 0
  TellsLoad load old found new = new ≡ (view_after_load found old.0, old.1)

  -- the word is loaded after a join, which tells that what the one seat has seen begins with what the other has seen; the view stays
  abbrev pub TellsJoin : Step S → Me S (View O) → ℕ → Me S (View O) → Type 0
  TellsJoin load old found new = (new ≡ old) × (length old.0.told ≤ length old.0.seen → IsFront old.0.told old.0.seen) × ArePlaces old.0.mine old.0.seen
