-- The destinations of a copy: which components they are, and what stays of them where one is left.
use Rattle.std.proofs.Common.{◌≡◌, ℕ, ◌<◌, true, ltb, Some, length, map, sym, ap, subst, ◌∙◌, arith, get_or-set_other, ◌≤◌}
use Rattle.std.proofs.lemmas.Bool.{and_from, false≢true, lt-ltb}
use Rattle.flr_base.specs.declared.reply.FailedCall.{FailedCall}
use Rattle.flr_base.specs.declared.reply.Range.{Range}
use Rattle.composite_layout.specs.declared.component.Component.{Component}
use Rattle.composite_layout.specs.Layouts.{IsValid}
use Rattle.mirror_select.proofs.Least.{In, from_contains}
use Rattle.resync_copy.specs.declared.parts.Destination.{Destination}
use Rattle.resync_copy.specs.Copies.{leaves_at}
use Rattle.resync_copy.specs.Parts.{destination_at, destinations_in, is_kept, left_at, left_if, overlap, overlaps_kept, with_id}
use Rattle.resync_copy.specs.Views.{CopyingView}
use Rattle.copy_laws.proofs.Less.{IsFrame, at_left, frame_at, kept_over, length_at}
use Rattle.copy_laws.proofs.Places.{extent_of, with_own}
use Rattle.flr_sole.specs.Copies.{unleft}
use Rattle.flr_bytes.specs.Calls.{IsKeptDestination}
use Rattle.std.specs.Prelude.{slice_index}

module _ (x : CopyingView) (valid : IsValid x.side.layout) (same : map unleft x.destinations ≡ destinations_in x.side.layout.components x.ids) (place : ℕ) (d : Component) (is : IsKeptDestination x place d) where
  pub destination_in : In d x.side.layout.components
  destination_in = from_contains x.side.layout.components d is.listed

  frame : IsFrame x.side.layout.components x.ids place (destination_at x.destinations place)
  frame = frame_at x.side.layout.components x.ids x.destinations same place is.within

  -- the component has the id at that place
  pub destination_id : slice_index x.ids place ≡ d.id
  destination_id = sym frame.component ∙ sym is.same

  pub destination_there : place < length x.ids
  destination_there = frame.there

  pub destination_found : with_id x.side.layout.components (slice_index x.ids place) ≡ Some d
  destination_found = ap (with_id x.side.layout.components) destination_id ∙ with_own x.side.layout valid d destination_in

  -- its bytes are those of the destination
  pub destination_extent : (destination_at x.destinations place).extent ≡ d.extent
  destination_extent = frame.extent ∙ extent_of x.side.layout.components (slice_index x.ids place) d destination_found

  -- what has one of its bytes overlaps a destination that isn't left
  pub destination_over : (y : ℕ) (r : Range) → d.extent.start ≤ y → y < d.extent.end → r.start ≤ y → y < r.end → overlaps_kept x.destinations r ≡ true
  destination_over y r low high from to =
      kept_over x.destinations place r is.within is.kept
      (ap (λ (e : Range). overlap e r) destination_extent ∙ and_from (ltb d.extent.start r.end) (ltb r.start d.extent.end) (lt-ltb d.extent.start r.end (omega (arith, low, to))) (lt-ltb r.start d.extent.end (omega (arith, from, high))))

-- where one is left, those that aren't were so before, and are others
pub still_kept : (x : CopyingView) (place : ℕ) (call : FailedCall) (p : ℕ) (d : Component) → IsKeptDestination (leaves_at x place call) p d → (p ≡ place → ⊥) × IsKeptDestination x p d
still_kept x place call p d is = (apart, record { within = within; kept = ap is_kept (sym same) ∙ is.kept; listed = is.listed; same = is.same ∙ ap (λ (e : Destination). e.component) same })
  where
    within : p < length x.destinations
    within = let less = is.within in let long = length_at place call x.destinations in omega (arith, less, long)

    apart : p ≡ place → ⊥
    apart e =
        false≢true (sym (at_left place call x.destinations (subst (λ k. k < length x.destinations) e within)) ∙ ap (λ k. is_kept (destination_at (left_at place call x.destinations) k)) (sym e) ∙ is.kept)

    same : destination_at (left_at place call x.destinations) p ≡ destination_at x.destinations p
    same = get_or-set_other x.destinations place p (left_if true call (destination_at x.destinations place)) _ apart
