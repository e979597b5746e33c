-- What a part of a writing call that lands does to the byte that its component holds.
use Rattle.std.proofs.Common.{◌≡◌, ℕ, ◌+◌, ◌-◌, ◌<◌, ◌≤◌, true, Option, Some, None, List, length, ◌⊎◌, inl, inr, sym, ap, subst, ◌∙◌, arith, get_or}
use Rattle.std.specs.Prelude.{slice_get, ◌↔◌}
use Rattle.std.proofs.lemmas.Bool.{cases_eq, cases_lt}
use Rattle.flr_base.specs.declared.reply.ObjectId.{ObjectId}
use Rattle.flr_base.specs.declared.reply.Stripe.{Stripe}
use Rattle.stripe_map.specs.Places.{place_of}
use Rattle.stripe_map.proofs.PlaceLaws.{places_apart}
use Rattle.composite_layout.specs.declared.component.Component.{Component}
use Rattle.composite_layout.specs.Layouts.{Composite, IsValid}
use Rattle.mirror_select.specs.declared.types.Piece.{Piece}
use Rattle.mirror_select.specs.Held.{held}
use Rattle.mirror_select.specs.Laws.{HasTail}
use Rattle.mirror_select.proofs.TailLaws.{covers_from}
use Rattle.mirror_select.specs.Tails.{StripeObject, tail_in}
use Rattle.call_steps.specs.Servers.{Servers}
use Rattle.flr_claims.specs.Honesty.{content}
use Rattle.flr_bytes.specs.Writing.{AreCut, AreWritten}
use Rattle.flr_bytes.proofs.Held.{held_below, held_beside, held_cut, held_elsewhere, held_over}

-- the object is one stripe of the component
abbrev pub IsOnceIn : ObjectId → Component → Type 0
IsOnceIn o d = (i j : ℕ) → slice_get d.objects i ≡ Some o → slice_get d.objects j ≡ Some o → i ≡ j

-- whether two objects are the same
pub decide : (a b : ObjectId) → (a ≡ b) ⊎ (a ≡ b → ⊥)
decide a b = elim (cases_eq a.target b.target) as (λ _. (a ≡ b) ⊎ (a ≡ b → ⊥)) [
  | inl target ↦ elim (cases_eq a.number b.number) as (λ _. (a ≡ b) ⊎ (a ≡ b → ⊥)) [
    | inl number ↦ inl (λ j. record { target = target j; number = number j })
    | inr apart ↦ inr (λ same. apart (ap (λ (x : ObjectId). x.number) same))
  ]
  | inr apart ↦ inr (λ same. apart (ap (λ (x : ObjectId). x.target) same))
]

-- either the component's object for the byte is this one, or it isn't
pub whose : (d : Component) (o : ObjectId) (x : ℕ) → (slice_get d.objects (place_of x d.stripe).index ≡ Some o) ⊎ (slice_get d.objects (place_of x d.stripe).index ≡ Some o → ⊥)
whose d o x = by (slice_get d.objects (place_of x d.stripe).index)
  where
    at : (q : ObjectId) → (q ≡ o) ⊎ (q ≡ o → ⊥) → (Some q ≡ Some o) ⊎ (Some q ≡ Some o → ⊥)
    at q (inl same) = inl (ap (λ (k : ObjectId). Some k) same)
    at q (inr apart) = inr (λ e. apart (cc e))

    by : (q : Option ObjectId) → (q ≡ Some o) ⊎ (q ≡ Some o → ⊥)
    by None = inr (λ e. absurd (cc e))
    by (Some q) = at q (decide q o)

-- ---- a piece of a write

-- the component has the byte in the piece's object, as far behind the piece's offset as the byte is behind its first
abbrev pub LiesOn : Component → Piece → ObjectId → ℕ → Type 0
LiesOn d p o x = (slice_get d.objects (place_of x d.stripe).index ≡ Some o) × ((place_of x d.stripe).offset ≡ p.offset + (x - p.range.start))

module _ (s after : Servers) (d : Component) (p : Piece) (o : ObjectId) (init : d.flags.init ≡ true) (once : IsOnceIn o d) (lies : (x : ℕ) → p.range.start ≤ x → x < p.range.end → LiesOn d p o x)
    (bytes : List ℕ) (long : length bytes ≡ p.range.end - p.range.start) (w : AreWritten s after o p.offset bytes) where
  -- a byte of the piece is the one that was written there
  pub piece_over : (x : ℕ) → p.range.start ≤ x → x < p.range.end → held (content after) d x ≡ get_or bytes (x - p.range.start) 0
  piece_over x low high =
      let l = lies x low high in
      let at = l.1 in
      held_over s after o d x init l.0 p.offset bytes w (omega (arith, at)) (omega (arith, at, long, low, high))
      ∙ ap (λ k. get_or bytes k 0) (let gone : (place_of x d.stripe).offset - p.offset ≡ x - p.range.start = omega (arith, at) in gone)

  -- who lies in the bytes of the object that were written is a byte of the piece
  within : (x : ℕ) → slice_get d.objects (place_of x d.stripe).index ≡ Some o → p.offset ≤ (place_of x d.stripe).offset → (place_of x d.stripe).offset < p.offset + length bytes → (p.range.start ≤ x) × (x < p.range.end)
  within x at low high =
      let y : ℕ = p.range.start + ((place_of x d.stripe).offset - p.offset) in
      let from : p.range.start ≤ y = omega arith in
      let to : y < p.range.end = omega (arith, low, high, long) in
      let l = lies y from to in
      let index : (place_of y d.stripe).index ≡ (place_of x d.stripe).index = once (place_of y d.stripe).index (place_of x d.stripe).index l.0 at in
      let far = l.1 in
      let offset : (place_of y d.stripe).offset ≡ (place_of x d.stripe).offset = omega (arith, far, low) in
      let same : y ≡ x = places_apart d.stripe y x (λ j. record { index = index j; offset = offset j }) in
      (omega (arith, same, from), omega (arith, same, to))

  -- and any other is as it was
  pub piece_beside : (x : ℕ) → (p.range.start ≤ x → x < p.range.end → ⊥) → held (content after) d x ≡ held (content s) d x
  piece_beside x out = elim (whose d o x) as (λ _. held (content after) d x ≡ held (content s) d x) [
    | inl here ↦ held_beside s after o d x init here p.offset bytes w (λ low high. (let is = within x here low high in out is.0 is.1))
    | inr elsewhere ↦ held_elsewhere s after o w.others d x elsewhere
  ]

-- ---- a tail of a truncate

module _ (s after : Servers) (l : Composite) (valid : IsValid l) (from : ℕ) (t : StripeObject) (has : HasTail l from t) (d : Component) (same : d.stripe ≡ t.component.stripe) (init : d.flags.init ≡ true) (once : IsOnceIn t.object d) (at : slice_get d.objects t.index ≡ Some t.object)
    (c : AreCut s after t.object (tail_in from t).offset) where
  -- of the bytes of its stripe exactly those from there on are past the tail's offset
  covers : (x : ℕ) → (place_of x d.stripe).index ≡ t.index → ((tail_in from t).offset ≤ (place_of x d.stripe).offset) ↔ (from ≤ x)
  covers x index = subst (λ (k : Stripe). (place_of x k).index ≡ t.index → ((tail_in from t).offset ≤ (place_of x k).offset) ↔ (from ≤ x)) (sym same) (covers_from l from t x valid has) index

  here : (x : ℕ) → (place_of x d.stripe).index ≡ t.index → slice_get d.objects (place_of x d.stripe).index ≡ Some t.object
  here x index = ap (slice_get d.objects) index ∙ at

  -- the bytes of the stripe from there on are gone
  pub tail_over : (x : ℕ) → (place_of x d.stripe).index ≡ t.index → from ≤ x → held (content after) d x ≡ 0
  tail_over x index past = held_cut s after t.object d x init (here x index) (tail_in from t).offset c ((covers x index).1 past)

  -- and any other is as it was
  pub tail_beside : (x : ℕ) → ((place_of x d.stripe).index ≡ t.index → from ≤ x → ⊥) → held (content after) d x ≡ held (content s) d x
  tail_beside x out = elim (cases_eq (place_of x d.stripe).index t.index) as (λ _. held (content after) d x ≡ held (content s) d x) [
    | inl index ↦ elim (cases_lt (place_of x d.stripe).offset (tail_in from t).offset) as (λ _. held (content after) d x ≡ held (content s) d x) [
      | inl less ↦ held_below s after t.object d x init (here x index) (tail_in from t).offset c less
      | inr past ↦ absurd (out index ((covers x index).0 past))
    ]
    | inr apart ↦ held_elsewhere s after t.object c.others d x (λ mine. apart (once (place_of x d.stripe).index t.index mine at))
  ]
