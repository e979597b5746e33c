-- Which byte of the file a byte of an object is.
use Rattle.std.proofs.Common.{◌≡◌, ℕ, ◌+◌, ◌-◌, ◌<◌, ◌≤◌, Option, Some, List, [], ◌∷◌, Contains, inl, inr, refl, sym, ap, subst, ◌∙◌, arith}
use Rattle.flr_base.specs.declared.reply.ObjectId.{ObjectId}
use Rattle.flr_base.specs.declared.reply.Range.{Range}
use Rattle.stripe_map.specs.Places.{place_of}
use Rattle.stripe_map.proofs.PlaceLaws.{places_apart}
use Rattle.composite_layout.specs.declared.component.Component.{Component}
use Rattle.composite_layout.specs.Layouts.{Composite}
use Rattle.mirror_select.specs.declared.types.Piece.{Piece}
use Rattle.mirror_select.specs.Laws.{IsPiece}
use Rattle.extent_lock.specs.declared.lock.Lock.{Lock}
use Rattle.extent_lock.specs.Conflicts.{Covers}
use Rattle.extent_lock.proofs.Members.{Contains-cases, Contains-nil}
use Rattle.call_steps.specs.Pieces.{length_of}
use Rattle.flr_shapes.specs.Sentences.{HasShape, IsStripe, IsStripeIn, Shape}
use Rattle.flr_live.proofs.Pieces.{IsLockOf}

-- the object has this shape in the layout, and by that this byte of it is that byte of the file
pub record IsByte (l : Composite) (o : ObjectId) (shape : Shape) (x y : ℕ) : Type 0 where
  pub has : HasShape o shape l
  pub at : place_of x shape.stripe ≡ record { index = shape.index; offset = y }

-- a byte of an object that has one shape is one byte of the file
pub one_byte : (l m : Composite) (o : ObjectId) (a b : Shape) (x z y : ℕ) → a ≡ b → IsByte l o a x y → IsByte m o b z y → x ≡ z
one_byte l m o a b x z y same h k =
    let there : place_of z a.stripe ≡ record { index = a.index; offset = y } = subst (λ (shape : Shape). place_of z shape.stripe ≡ record { index = shape.index; offset = y }) (sym same) k.at in
    places_apart a.stripe x z (h.at ∙ sym there)

-- the bytes of the piece lie in its object one behind the other
abbrev pub LiesIn : Composite → Piece → Type 0
LiesIn l p = (o : ObjectId) → p.object ≡ Some o → (x : ℕ) → p.range.start ≤ x → x < p.range.end → (shape : Shape) × IsByte l o shape x (p.offset + (x - p.range.start))

stripe_in : (o : ObjectId) (shape : Shape) (cs : List Component) (c : Component) → Contains cs c → IsStripe o shape c → IsStripeIn o shape cs
stripe_in o shape [] c h is = absurd (Contains-nil c h)
stripe_in o shape (d ∷ ds) c h is = elim (Contains-cases d ds c h) [
  | inl same ↦ inl (subst (IsStripe o shape) (sym same) is)
  | inr more ↦ inr (stripe_in o shape ds c more is)
]

-- those of a piece of a range do, where who has a byte is a component of the layout
pub piece_lies : (l : Composite) (whose : ℕ → Option Component) (p : Piece) → ((x : ℕ) (c : Component) → whose x ≡ Some c → Contains l.components c) → IsPiece whose p → LiesIn l p
piece_lies l whose p among of o is x low high =
    let c : Component = of.0 in
    let lies = of.1.bytes x low high in
    let shape : Shape = record { extent = c.extent; stripe = c.stripe; index = (place_of x c.stripe).index } in (
      shape,
      record {
        has = stripe_in o shape l.components c (among x c (of.1.whole x low high)) (refl, refl, lies.object ∙ is);
        at = λ j. record { index = (place_of x c.stripe).index; offset = lies.offset j };
      },
    )

-- a byte of the object that the lock is on is a byte of the piece
pub record IsByteOf (l : Composite) (p : Piece) (o : ObjectId) (y : ℕ) : Type 0 where
  pub byte : ℕ
  pub low : p.range.start ≤ byte
  pub high : byte < p.range.end
  pub shape : Shape
  pub is : IsByte l o shape byte y

pub byte_of : (l : Composite) (p : Piece) (lock : Lock) (y : ℕ) → LiesIn l p → IsLockOf p lock → Covers lock.range y → IsByteOf l p lock.object y
byte_of l p lock y lies of covers =
    let start : lock.range.start ≡ p.offset = ap (λ (r : Range). r.start) of.range in
    let end : lock.range.end ≡ p.offset + length_of p = ap (λ (r : Range). r.end) of.range in
    let from = covers.from in
    let below = covers.below in
    let byte : ℕ = p.range.start + (y - p.offset) in
    let low : p.range.start ≤ byte = omega arith in
    let high : byte < p.range.end = omega (arith, start, end, from, below) in
    let found = lies lock.object of.object byte low high in
    let level : p.offset + (byte - p.range.start) ≡ y = omega (arith, start, from) in
    record { byte = byte; low = low; high = high; shape = found.0; is = subst (IsByte l lock.object found.0 byte) level found.1 }
