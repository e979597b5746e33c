-- How many takes and puts of chunks a copy has left.
use Rattle.std.proofs.Common.{◌≡◌, ℕ, zero, suc, ◌+◌, ◌-◌, ◌*◌, ◌≤◌, ◌<◌, Bool, true, false, cond, not, nat_lt, Option, Some, None, option_map, position, find, List, [], ◌∷◌, length, drop, refl, sym, ap, subst, ◌∙◌, arith}
use Rattle.std.specs.Prelude.{unwrap_or}
use Rattle.std.specs.List.{range_with_len}
use Rattle.std.proofs.Math.Seq.{drop-nil}
use Rattle.std.proofs.lemmas.Bool.Decides.{nat_tests}
use Rattle.std.proofs.lemmas.List.{drop-set-lt, length-drop}
use Rattle.std.proofs.lemmas.List.Quantifiers.{position-Some}
use Rattle.flr_base.specs.declared.reply.FailedCall.{FailedCall}
use Rattle.composite_layout.specs.declared.component.Component.{Component}
use Rattle.mirror_select.specs.Candidates.{chosen}
use Rattle.resync_copy.specs.declared.parts.CopyObject.{CopyObject}
use Rattle.resync_copy.specs.declared.parts.Destination.{Destination}
use Rattle.resync_copy.specs.declared.phase.CopyStage.{CopyStage}
use Rattle.resync_copy.specs.declared.phase.CopyStage.TheVariants as stage
use Rattle.resync_copy.specs.Chunks.{chunk_of, chunk_start, chunks_below, chunks_between, first_solid, is_hole}
use Rattle.resync_copy.specs.Copies.{clears, copies_chunks, copies_each, copies_from, copies_solid, chunks_from, end_of, fences_from, leaves_at, no_call, resets_at, resets_from, settles_from, takes_from}
use Rattle.resync_copy.specs.Parts.{all_left, destination_at, is_kept, is_open}
use Rattle.resync_copy.specs.Views.{CopyingView, fences_of, resets_of}
use Rattle.flr_work.specs.Known.{chunks_of}
use Rattle.flr_work.specs.Left.{IsInHand, stage_left}

-- ---- lists

-- what is found among numbers is one of them
pub found_between : (p : ℕ → Bool) (a n k : ℕ) → find p (range_with_len a n) ≡ Some k → (a ≤ k) × (k < a + n)
found_between p a zero k e = absurd (cc)
found_between p a (suc n) k e = by (p a) e (found_between p (a + 1) n k)
  where
    by : (b : Bool) → cond b (Some a) (find p (range_with_len (a + 1) n)) ≡ Some k → (find p (range_with_len (a + 1) n) ≡ Some k → (a + 1 ≤ k) × (k < (a + 1) + n)) → (a ≤ k) × (k < a + suc n)
    by true e rest = let same : a ≡ k = cc in (omega arith, omega arith)
    by false e rest = let h = rest e in (omega (arith, h.0), omega (arith, h.1))

-- the destination at a place, and those behind it
at_front : (ds : List Destination) (place : ℕ) (d : Destination) (rest : List Destination) → drop place ds ≡ d ∷ rest → (destination_at ds place ≡ d) × (drop (place + 1) ds ≡ rest)
at_front [] place d rest e = absurd (let none : drop place [] ≡ [] = drop-nil {A = Destination} place in let clash : [] ≡ d ∷ rest = sym none ∙ e in cc)
at_front (x ∷ xs) zero d rest e = let first : x ≡ d = cc in let more : xs ≡ rest = cc in (first, more)
at_front (x ∷ xs) (suc place) d rest e =
    let h = at_front xs place d rest e in
    let one : suc place + 1 ≡ suc (place + 1) = omega arith in
    (h.0, ap (λ (k : ℕ). drop k (x ∷ xs)) one ∙ h.1)

-- ---- the stages of a copy

-- a stage that has at most so much left, with what is in hand there
pub record IsWithin (room most : ℕ) (next : CopyStage) : Type 0 where
  pub left : stage_left room next ≤ most
  pub hand : IsInHand next

-- a destination that is left leaves those behind it
pub left_ahead : (x : CopyingView) (place : ℕ) (call : FailedCall) → drop (place + 1) (leaves_at x place call).destinations ≡ drop (place + 1) x.destinations
left_ahead x place call = drop-set-lt (place + 1) x.destinations place _ (omega arith)

-- ---- takes and puts

module _ (room size place : ℕ) (failed : List ℕ) (last : Option FailedCall) (others : CopyingView → CopyStage) (rest : List Destination)
    (beyond : (x : CopyingView) → drop (place + 1) x.destinations ≡ rest → IsWithin room (2 * chunks_of size rest + 1) (others x)) where
  taken : (x : CopyingView) (number first : ℕ) (source : Option Component) → drop (place + 1) x.destinations ≡ rest → first ≤ number → number < chunks_below (end_of size (destination_at x.destinations place))
      → IsWithin room (2 * ((chunks_below (end_of size (destination_at x.destinations place)) - first) + chunks_of size rest) + 1) (takes_from size place failed last others x number source)
  taken x number first (Some component) e low high =
      let same : chunks_of size (drop (place + 1) x.destinations) ≡ chunks_of size rest = ap (chunks_of size) e in
      record { left = omega (arith, same, low, high); hand = high }
  taken x number first None e low high =
      let call : FailedCall = unwrap_or last no_call in
      let h = beyond (leaves_at x place call) (left_ahead x place call ∙ e) in
      record { left = omega (arith, h.left); hand = h.hand }

  solid : (x : CopyingView) (first : ℕ) (o : Option ℕ) → drop (place + 1) x.destinations ≡ rest
      → ((number : ℕ) → o ≡ Some number → (first ≤ number) × (number < chunks_below (end_of size (destination_at x.destinations place))))
      → IsWithin room (2 * ((chunks_below (end_of size (destination_at x.destinations place)) - first) + chunks_of size rest) + 1) (copies_solid size place failed last others x o)
  solid x first (Some number) e found = let h = found number refl in taken x number first (chosen x.side.layout.components failed (chunk_start number)) e h.0 h.1
  solid x first None e found = let h = beyond x e in record { left = omega (arith, h.left); hand = h.hand }

  pub chunked : (x : CopyingView) (first : ℕ) → drop (place + 1) x.destinations ≡ rest
      → IsWithin room (2 * ((chunks_below (end_of size (destination_at x.destinations place)) - first) + chunks_of size rest) + 1)
      (copies_chunks size place failed last others x (chunks_between first (end_of size (destination_at x.destinations place))))
  chunked x first e =
      let below : ℕ = chunks_below (end_of size (destination_at x.destinations place)) in
      solid x first (first_solid x.side.layout.components failed (chunks_between first (end_of size (destination_at x.destinations place)))) e
      (λ number k. (let h = found_between (λ chunk. not (is_hole x.side.layout.components failed chunk)) first (below - first) number k in (h.0, omega (arith, h.0, h.1))))

-- the destinations from a place on
pub each_within : (room size : ℕ) (place : ℕ) (ds : List Destination) (x : CopyingView) → drop place x.destinations ≡ ds → IsWithin room (2 * chunks_of size ds + 1) (copies_each size place ds x)
each_within room size place [] x e = record { left = omega arith; hand = tt }
each_within room size place (d ∷ ds) x e = by (is_kept d) refl (each_within room size (place + 1) ds)
  where
    front : (destination_at x.destinations place ≡ d) × (drop (place + 1) x.destinations ≡ ds)
    front = at_front x.destinations place d ds e

    by : (b : Bool) → is_kept d ≡ b → ((y : CopyingView) → drop (place + 1) y.destinations ≡ ds → IsWithin room (2 * chunks_of size ds + 1) (copies_each size (place + 1) ds y))
        → IsWithin room (2 * (cond b (chunks_below (end_of size d) - chunk_of d.extent.start) 0 + chunks_of size ds) + 1)
        (cond b (copies_chunks size place [] None (copies_each size (place + 1) ds) x (chunks_between (chunk_of d.extent.start) (end_of size d))) (copies_each size (place + 1) ds x))
    by true kept more =
        subst (λ (y : Destination). IsWithin room (2 * ((chunks_below (end_of size y) - chunk_of d.extent.start) + chunks_of size ds) + 1) (copies_chunks size place [] None (copies_each size (place + 1) ds) x (chunks_between (chunk_of d.extent.start) (end_of size y)))) front.0
        (chunked room size place [] None (copies_each size (place + 1) ds) ds more x (chunk_of d.extent.start) front.1)
    by false kept more = let h = more x front.1 in record { left = omega (arith, h.left); hand = h.hand }

pub from_within : (room size place : ℕ) (x : CopyingView) → IsWithin room (2 * chunks_of size (drop place x.destinations) + 1) (copies_from size place x)
from_within room size place x = each_within room size place (drop place x.destinations) x refl

-- the chunks of one destination from this one on, and then the others
pub chunks_within : (room size place : ℕ) (failed : List ℕ) (last : Option FailedCall) (number : ℕ) (x : CopyingView)
    → IsWithin room (2 * ((chunks_below (end_of size (destination_at x.destinations place)) - number) + chunks_of size (drop (place + 1) x.destinations)) + 1) (chunks_from size place failed last number x)
chunks_within room size place failed last number x =
    chunked room size place failed last (copies_from size (place + 1)) (drop (place + 1) x.destinations)
    (λ y e. subst (λ (ds : List Destination). IsWithin room (2 * chunks_of size ds + 1) (copies_from size (place + 1) y)) e (from_within room size (place + 1) y)) x number refl

-- ---- fences and resets

settled_within : (room : ℕ) (x : CopyingView) → IsWithin room (2 + room) (settles_from x)
settled_within room x = by (all_left x.destinations)
  where
    by : (b : Bool) → IsWithin room (2 + room) (cond b (clears x) (stage.Settle x))
    by true = record { left = omega arith; hand = tt }
    by false = record { left = omega arith; hand = tt }

pub resets_within : (room : ℕ) (x : CopyingView) (place : ℕ) → IsWithin room (((length (resets_of x) - place) + 2) + room) (resets_from x place)
resets_within room x place = by (position test (drop place (resets_of x))) refl
  where
    test : CopyObject → Bool
    test o = is_open x.destinations o.component

    none : CopyObject
    none = record { component = 0; extent = record { start = 0; end = 0 }; object = record { target = 0; number = 0 } }

    by : (o : Option ℕ) → position test (drop place (resets_of x)) ≡ o → IsWithin room (((length (resets_of x) - place) + 2) + room) (resets_at x (option_map (λ i. place + i) o))
    by (Some i) e =
        let within = (position-Some test (drop place (resets_of x)) i none e).0 in
        let long = length-drop place (resets_of x) in
        record { left = omega arith; hand = omega (arith, within, long) }
    by None e = let h = settled_within room x in record { left = omega (arith, h.left); hand = h.hand }

pub fences_within : (room : ℕ) (x : CopyingView) (next : ℕ) → IsWithin room ((((length (fences_of x) - next) + length (resets_of x)) + 2) + room) (fences_from x next)
fences_within room x next = by (nat_lt next (length (fences_of x))) refl
  where
    by : (b : Bool) → nat_lt next (length (fences_of x)) ≡ b → IsWithin room ((((length (fences_of x) - next) + length (resets_of x)) + 2) + room) (cond b (stage.Fence x next) (resets_from x 0))
    by true e = record { left = omega arith; hand = grind (arith, nat_tests) }
    by false e = let h = resets_within room x 0 in record { left = omega (arith, h.left); hand = h.hand }
