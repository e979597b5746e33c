-- The destinations of a copy by their places, and the components that they are.
use Rattle.std.proofs.Common.{◌≡◌, ℕ, zero, suc, ◌+◌, ◌<◌, true, Some, List, [], ◌∷◌, length, drop, get_or, map, set, sym, ap, ◌∙◌, refl, arith, get_or-set_other}
use Rattle.std.proofs.lemmas.Bool.{false≢true}
use Rattle.flr_base.specs.declared.reply.FailedCall.{FailedCall}
use Rattle.composite_layout.specs.declared.component.Component.{Component}
use Rattle.composite_layout.specs.Layouts.{IsValid}
use Rattle.mirror_select.proofs.Least.{from_contains}
use Rattle.resync_copy.specs.declared.parts.Destination.{Destination}
use Rattle.resync_copy.specs.Copies.{leaves_at}
use Rattle.resync_copy.specs.Parts.{destination_at, destinations_in, extent_with, is_kept, left_at, left_if, with_id}
use Rattle.resync_copy.specs.Views.{CopyingView}
use Rattle.copy_laws.proofs.Less.{IsFrame, at_left, frame_at, length_at}
use Rattle.copy_laws.proofs.Places.{extent_of, with_own}
use Rattle.flr_sole.specs.Copies.{unleft}
use Rattle.flr_bytes.specs.Calls.{IsKeptDestination}

module _ (x : CopyingView) (valid : IsValid x.side.layout) (same : map unleft x.destinations ≡ destinations_in x.side.layout.components x.ids) (place : ℕ) (d : Component) (is : IsKeptDestination x place d) where
  frame : IsFrame x.side.layout.components x.ids place (destination_at x.destinations place)
  frame = frame_at x.side.layout.components x.ids x.destinations same place is.within

  -- it has an id there
  pub id_there : place < length x.ids
  id_there = frame.there

  -- which is the component's
  pub id_is : get_or x.ids place 0 ≡ d.id
  id_is = sym frame.component ∙ sym is.same

  own : with_id x.side.layout.components d.id ≡ Some d
  own = with_own x.side.layout valid d (from_contains x.side.layout.components d is.listed)

  -- so the component is the one with that id
  pub with_there : with_id x.side.layout.components (get_or x.ids place 0) ≡ Some d
  with_there = ap (with_id x.side.layout.components) id_is ∙ own

  -- and the destination has its extent
  pub extent_is : (destination_at x.destinations place).extent ≡ d.extent
  extent_is = frame.extent ∙ ap (extent_with x.side.layout.components) id_is ∙ extent_of x.side.layout.components d.id d own

-- ---- with one left

module _ (x : CopyingView) (place : ℕ) (call : FailedCall) where
  -- who isn't left then is at another place, and wasn't left before
  pub kept_before : (p : ℕ) (d : Component) → IsKeptDestination (leaves_at x place call) p d → (p ≡ place → ⊥) × IsKeptDestination x p d
  kept_before p d is = (apart, record { within = within; kept = ap is_kept (sym stays) ∙ is.kept; listed = is.listed; same = is.same ∙ ap (λ (e : Destination). e.component) stays })
    where
      within : p < length x.destinations
      within = let low = is.within in let long = length_at place call x.destinations in omega (arith, low, long)

      apart : p ≡ place → ⊥
      apart e = let less : place < length x.destinations = omega (arith, e, within) in false≢true (sym (at_left place call x.destinations less) ∙ ap (λ k. is_kept (destination_at (left_at place call x.destinations) k)) (sym e) ∙ is.kept)

      stays : destination_at (left_at place call x.destinations) p ≡ destination_at x.destinations p
      stays = get_or-set_other x.destinations place p (left_if true call (destination_at x.destinations place)) (destination_at [] 0) apart

-- a place that is set doesn't matter behind it
drop_suc : {X : Type 0} (xs : List X) (place : ℕ) (v : X) → drop (suc place) (set xs place v) ≡ drop (suc place) xs
drop_suc [] place v = refl
drop_suc (x ∷ xs) zero v = refl
drop_suc (x ∷ xs) (suc place) v = drop_suc xs place v

next : (place : ℕ) → place + 1 ≡ suc place
next place = omega arith

pub drop_set : {X : Type 0} (xs : List X) (place : ℕ) (v : X) → drop (place + 1) (set xs place v) ≡ drop (place + 1) xs
drop_set xs place v = ap (λ k. drop k (set xs place v)) (next place) ∙ drop_suc xs place v ∙ sym (ap (λ k. drop k xs) (next place))

-- what is dropped up to a place, by the place
first_suc : {X : Type 0} (xs : List X) (place : ℕ) (y : X) (ys : List X) (none : X) → drop place xs ≡ y ∷ ys → (place < length xs) × (get_or xs place none ≡ y) × (drop (suc place) xs ≡ ys)
first_suc [] zero y ys none e = absurd (cc)
first_suc [] (suc place) y ys none e = absurd (cc)
first_suc (x ∷ xs) zero y ys none e = (omega arith, cc, cc)
first_suc (x ∷ xs) (suc place) y ys none e = let r = first_suc xs place y ys none e in let less = r.0 in (omega (arith, less), r.1, r.2)

pub dropped_first : {X : Type 0} (xs : List X) (place : ℕ) (y : X) (ys : List X) (none : X) → drop place xs ≡ y ∷ ys → (place < length xs) × (get_or xs place none ≡ y) × (drop (place + 1) xs ≡ ys)
dropped_first xs place y ys none e = let r = first_suc xs place y ys none e in (r.0, r.1, ap (λ k. drop k xs) (next place) ∙ r.2)

pub dropped_none : {X : Type 0} (xs : List X) (place p : ℕ) → drop place xs ≡ [] → p < length xs → p < place
dropped_none [] place p e less = absurd (omega (arith, less))
dropped_none (x ∷ xs) zero p e less = absurd (cc)
dropped_none (x ∷ xs) (suc place) zero e less = omega arith
dropped_none (x ∷ xs) (suc place) (suc p) e less = let r = dropped_none xs place p e (omega (arith, less)) in omega (arith, r)
