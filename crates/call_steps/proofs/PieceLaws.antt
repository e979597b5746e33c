-- Where the pieces of a range lie.
use Rattle.std.proofs.Common.{◌≡◌, ℕ, zero, suc, ◌+◌, ◌-◌, ◌*◌, ◌/◌, ◌%◌, ◌<◌, ◌≤◌, List, [], ◌∷◌, length, map, get_or, Option, Some, None, refl, sym, ap, subst, ◌∙◌, arith}
use Rattle.std.specs.Prelude.{slice_get, Contains}
use Rattle.std.proofs.Math.Nat.{div-div-eq-div-mul, div-le_self, mul-le-mul_right}
use Rattle.std.proofs.lemmas.Nat.{div-add-mod'}
use Rattle.std.proofs.lemmas.Option.{get_or_from_slice_get, slice_get_within}
use Rattle.flr_base.specs.declared.reply.ObjectId.{ObjectId}
use Rattle.flr_base.specs.declared.reply.Range.{Range}
use Rattle.flr_base.specs.declared.reply.Stripe.{Stripe}
use Rattle.stripe_map.specs.Cutting.{Tile}
use Rattle.stripe_map.specs.Places.{place_of}
use Rattle.composite_layout.specs.declared.component.Component.{Component}
use Rattle.mirror_select.specs.declared.types.Piece.{Piece}
use Rattle.mirror_select.specs.Laws.{ArePieces, IsPieceOf}
use Rattle.call_steps.specs.Pieces.{IsNamed, IsWithin, length_of}

-- each piece has bytes, and they are of the range
tiled : (ps : List Piece) (start end : ℕ) → Tile (map (λ (p : Piece). p.range) ps) start end → (i : ℕ) (d : Piece) → i < length ps → (start ≤ (get_or ps i d).range.start) × ((get_or ps i d).range.start < (get_or ps i d).range.end) × ((get_or ps i d).range.end ≤ end)
tiled [] start end t i d h = absurd (omega arith)
tiled (p ∷ ps) start end t zero d h = (omega (arith, t.0), omega (arith, t.0, t.1), ends ps p.range.end end t.2)
  where
    ends : (qs : List Piece) (a b : ℕ) → Tile (map (λ (q : Piece). q.range) qs) a b → a ≤ b
    ends [] a b t = omega (arith, t)
    ends (q ∷ qs) a b t = let more : q.range.end ≤ b = ends qs q.range.end b t.2 in omega (arith, t.0, t.1)
tiled (p ∷ ps) start end t (suc i) d h = let rest = tiled ps p.range.end end t.2 i d (omega arith) in (omega (arith, t.0, t.1, rest.0), rest.1, rest.2)

-- a byte lies no further behind in its object than in the file
offset_below : (stripe : Stripe) (x : ℕ) → (place_of x stripe).offset ≤ x
offset_below stripe x =
    let row : x / (stripe.size * stripe.count) ≤ x / stripe.size = rw (← div-div-eq-div-mul x stripe.size stripe.count) (div-le_self (x / stripe.size) stripe.count) in
    omega (arith, mul-le-mul_right stripe.size row, div-add-mod' x stripe.size)

-- where the piece at a place lies
pub within : (whose : ℕ → Option Component) (range : Range) (ps : List Piece) → ArePieces whose range ps → (i : ℕ) (d : Piece) → i < length ps → IsWithin range (get_or ps i d)
within whose range ps are i d h =
    let t = tiled ps range.start range.end are.tile i d h in
    let of = are.each i d h in
    let last : ℕ = (get_or ps i d).range.end - 1 in
    let lies = of.1.bytes last (omega (arith, t.1)) (omega (arith, t.1)) in
    let low : (place_of last of.0.stripe).offset ≤ last = offset_below of.0.stripe last in
    record { some = t.1; low = t.0; high = t.2; offset = omega (arith, lies.offset, low, t.1) }

-- whose object it is
pub named : (whose : ℕ → Option Component) (range : Range) (cs : List Component) (ps : List Piece) → ((x : ℕ) (c : Component) → whose x ≡ Some c → Contains cs c) → ArePieces whose range ps → (i : ℕ) (d : Piece) → i < length ps → (o : ObjectId) → (get_or ps i d).object ≡ Some o → IsNamed cs o
named whose range cs ps among are i d h o e =
    let t = tiled ps range.start range.end are.tile i d h in
    let of = are.each i d h in
    let first : ℕ = (get_or ps i d).range.start in
    let index : ℕ = (place_of first of.0.stripe).index in
    let object = (of.1.bytes first (omega arith) t.1).object ∙ e in
    (of.0, among first of.0 (of.1.whole first (omega arith) t.1), (index, slice_get_within of.0.objects index o object, get_or_from_slice_get of.0.objects index o o object))
