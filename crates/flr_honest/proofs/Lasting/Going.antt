-- What comes next of a copy that goes through the chunks of its destinations, by what holds on the way.
use Rattle.std.proofs.Common.{◌≡◌, ℕ, zero, suc, ◌+◌, ◌-◌, ◌<◌, ◌≤◌, Bool, true, false, not, cond, List, [], ◌∷◌, length, drop, Option, None, Some, refl, sym, ap, subst, ◌∙◌, arith}
use Rattle.std.specs.Prelude.{unwrap_or}
use Rattle.std.specs.Option.{option_map_or}
use Rattle.std.proofs.lemmas.Bool.{false≢true}
use Rattle.flr_base.specs.declared.reply.FailedCall.{FailedCall}
use Rattle.composite_layout.specs.declared.component.Component.{Component}
use Rattle.mirror_select.specs.Candidates.{chosen}
use Rattle.resync_copy.specs.declared.parts.Destination.{Destination}
use Rattle.resync_copy.specs.declared.phase.CopyStage.{CopyStage}
use Rattle.resync_copy.specs.declared.phase.CopyStage.TheVariants as stage
use Rattle.resync_copy.specs.Chunks.{chunk_of, chunk_start, chunks_below, chunks_between, first_solid, is_hole}
use Rattle.resync_copy.specs.Copies.{chunks_from, clears, copies_chunks, copies_each, copies_from, copies_solid, end_of, leaves_at, no_call, takes_from}
use Rattle.resync_copy.specs.Parts.{destination_at, is_kept, left_at}
use Rattle.resync_copy.specs.Views.{CopyingView}
use Rattle.copy_laws.proofs.Finds.{IsFirst, chunk_within, first_found, none_found}
use Rattle.copy_laws.proofs.Going.{drop_first, drop_left, drop_next}

-- who is to answer the chunk has no objects
abbrev pub IsHoleOf : List Component → List ℕ → ℕ → Type 0
IsHoleOf cs failed n = (c : Component) × (chosen cs failed (chunk_start n) ≡ Some c) × (c.flags.init ≡ false)

-- where the bytes end that are copied to the destination at a place
abbrev pub end_at : ℕ → CopyingView → ℕ → ℕ
end_at size x place = end_of size (destination_at x.destinations place)

-- What holds before the destination at a place is begun, and what holds before a chunk of it: chunks that are holes are passed over, and so are destinations that are left.
pub record Goes (P : CopyStage → Type 0) (size : ℕ) (Ready : CopyingView → ℕ → Type 0) (At : CopyingView → ℕ → ℕ → Type 0) : Type 0 where
  pub skips : (x : CopyingView) (place number next : ℕ) (failed : List ℕ) → At x place number → ((n : ℕ) → number ≤ n → n < next → IsHoleOf x.side.layout.components failed n) → number ≤ next → At x place next
  pub ends : (x : CopyingView) (place number : ℕ) (failed : List ℕ) → At x place number → ((n : ℕ) → number ≤ n → chunk_start n < end_at size x place → IsHoleOf x.side.layout.components failed n) → Ready x (place + 1)
  pub leaves : (x : CopyingView) (place number : ℕ) (call : FailedCall) → At x place number → Ready (leaves_at x place call) (place + 1)
  pub passes : (x : CopyingView) (place : ℕ) → Ready x place → is_kept (destination_at x.destinations place) ≡ false → Ready x (place + 1)
  pub starts : (x : CopyingView) (place : ℕ) → Ready x place → place < length x.destinations → is_kept (destination_at x.destinations place) ≡ true → At x place (chunk_of (destination_at x.destinations place).extent.start)
  pub clears : (x : CopyingView) (place : ℕ) → Ready x place → length x.destinations ≤ place → P (clears x)
  pub takes : (x : CopyingView) (place number : ℕ) (failed : List ℕ) (last : Option FailedCall) → At x place number → (c : Component) → chosen x.side.layout.components failed (chunk_start number) ≡ Some c → c.flags.init ≡ true
      → P (stage.Take (record { copying = x; size = size; place = place; number = number; failed = failed; last = last }))

hole_there : (o : Option Component) → not (option_map_or (λ (c : Component). not c.flags.init) o false) ≡ false → (source : Component) × (o ≡ Some source) × (source.flags.init ≡ false)
hole_there None e = absurd (false≢true (sym e))
hole_there (Some c) e = (c, refl, init c.flags.init e)
  where
    init : (b : Bool) → not (not b) ≡ false → b ≡ false
    init true e = absurd (false≢true (sym e))
    init false e = refl

solid_there : (o : Option Component) (c : Component) → o ≡ Some c → not (option_map_or (λ (c : Component). not c.flags.init) o false) ≡ true → c.flags.init ≡ true
solid_there o c is e = init c.flags.init (ap (λ (p : Option Component). not (option_map_or (λ (c : Component). not c.flags.init) p false)) (sym is) ∙ e)
  where
    init : (b : Bool) → not (not b) ≡ true → b ≡ true
    init true e = refl
    init false e = absurd (false≢true e)

drop_none : (xs : List Destination) (place : ℕ) → [] ≡ drop place xs → length xs ≤ place
drop_none [] place e = omega arith
drop_none (x ∷ xs) zero e = absurd (cc)
drop_none (x ∷ xs) (suc place) e = let le : length xs ≤ place = drop_none xs place e in omega (arith, le)

module _ (P : CopyStage → Type 0) (size : ℕ) (Ready : CopyingView → ℕ → Type 0) (At : CopyingView → ℕ → ℕ → Type 0) (g : Goes P size Ready At) where
  -- what comes next of a destination's chunks, and then of the others behind it
  chunks_go : (x : CopyingView) (place number : ℕ) (failed : List ℕ) (last : Option FailedCall) (others : CopyingView → CopyStage) → At x place number → (Ready x (place + 1) → P (others x))
      → ((call : FailedCall) → Ready (leaves_at x place call) (place + 1) → P (others (leaves_at x place call)))
      → P (copies_chunks size place failed last others x (chunks_between number (end_of size (destination_at x.destinations place))))
  chunks_go x place number failed last others k more less = by (first_solid cs failed (chunks_between number end)) refl
    where
      cs : List Component
      cs = x.side.layout.components

      end : ℕ
      end = end_of size (destination_at x.destinations place)

      solid : ℕ → Bool
      solid chunk = not (is_hole cs failed chunk)

      taken : (j : ℕ) → IsFirst solid number j → (o : Option Component) → chosen cs failed (chunk_start j) ≡ o → P (takes_from size place failed last others x j o)
      taken j first (Some c) is = g.takes x place j failed last (g.skips x place number j failed k (λ n low lt. hole_there (chosen cs failed (chunk_start n)) (first.none n low lt)) first.low) c is (solid_there (chosen cs failed (chunk_start j)) c is first.passes)
      taken j first None is = less (unwrap_or last no_call) (g.leaves x place number (unwrap_or last no_call) k)

      by : (o : Option ℕ) → first_solid cs failed (chunks_between number end) ≡ o → P (copies_solid size place failed last others x o)
      by (Some j) e = taken j (first_found solid number (chunks_below end - number) j e) (chosen cs failed (chunk_start j)) refl
      by None e = more (g.ends x place number failed k (λ n low below. hole_there (chosen cs failed (chunk_start n)) (none_found solid number (chunks_below end - number) n e low (chunk_within number end n low below))))

  each_goes : (ds : List Destination) (place : ℕ) (x : CopyingView) → ds ≡ drop place x.destinations → Ready x place → P (copies_each size place ds x)
  each_goes [] place x e r = g.clears x place r (drop_none x.destinations place e)
  each_goes (d ∷ ds) place x e r = by (λ y more ready. each_goes ds (place + 1) y more ready) (is_kept d) refl
    where
      parts : (place < length x.destinations) × (destination_at x.destinations place ≡ d) × (ds ≡ drop (suc place) x.destinations)
      parts = drop_first x.destinations place d ds e

      by : ((y : CopyingView) → ds ≡ drop (place + 1) y.destinations → Ready y (place + 1) → P (copies_each size (place + 1) ds y))
          → (b : Bool) → is_kept d ≡ b → P (cond b (copies_chunks size place [] None (copies_each size (place + 1) ds) x (chunks_between (chunk_of d.extent.start) (end_of size d))) (copies_each size (place + 1) ds x))
      by others true kept =
          subst (λ (e : Destination). P (copies_chunks size place [] None (copies_each size (place + 1) ds) x (chunks_between (chunk_of e.extent.start) (end_of size e)))) parts.1
          (chunks_go x place (chunk_of (destination_at x.destinations place).extent.start) [] None (copies_each size (place + 1) ds) (g.starts x place r parts.0 (ap is_kept parts.1 ∙ kept))
          (λ ready. others x (parts.2 ∙ drop_next place x.destinations) ready)
          (λ call ready. others (leaves_at x place call) (parts.2 ∙ sym (drop_left place call x.destinations) ∙ drop_next place (left_at place call x.destinations)) ready))
      by others false isnt = others x (parts.2 ∙ drop_next place x.destinations) (g.passes x place r (ap is_kept parts.1 ∙ isnt))

  -- the destinations from a place on
  pub copies_go : (place : ℕ) (x : CopyingView) → Ready x place → P (copies_from size place x)
  copies_go place x r = each_goes (drop place x.destinations) place x refl r

  -- the chunks of a destination from this one on
  pub chunks_from_go : (x : CopyingView) (place number : ℕ) (failed : List ℕ) (last : Option FailedCall) → At x place number → P (chunks_from size place failed last number x)
  chunks_from_go x place number failed last k = chunks_go x place number failed last (copies_from size (place + 1)) k (λ ready. copies_go (place + 1) x ready) (λ call ready. copies_go (place + 1) (leaves_at x place call) ready)
