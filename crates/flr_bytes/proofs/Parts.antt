-- Where the bytes of a part of a running writing call lie: in the part's object, wherever that stands.
use Rattle.std.proofs.Common.{◌≡◌, ℕ, zero, suc, ◌<◌, ◌≤◌, true, ◌&&◌, ltb, nat_eq, nat_le, Option, Some, None, List, [], ◌∷◌, map, inl, inr, refl, sym, ap, subst, ◌∙◌, arith}
use Rattle.std.specs.Prelude.{Contains, is_some, slice_get, unwrap_or}
use Rattle.std.proofs.lemmas.Bool.{and_parts, eqb-true, leb-true, ltb-true}
use Rattle.flr_base.specs.declared.reply.ObjectId.{ObjectId}
use Rattle.flr_base.specs.declared.reply.Range.{Range}
use Rattle.flr_base.specs.declared.reply.Stripe.{Stripe}
use Rattle.stripe_map.specs.Places.{place_of}
use Rattle.composite_layout.specs.declared.component.Component.{Component}
use Rattle.composite_layout.specs.Layouts.{Composite, IsValid}
use Rattle.composite_layout.specs.LookUps.{covers}
use Rattle.mirror_select.specs.declared.types.Piece.{Piece}
use Rattle.mirror_select.specs.Laws.{HasTail, IsPieceOf, LiesIn, TakesWrites}
use Rattle.mirror_select.specs.Pieces.{component_of, write_pieces_of}
use Rattle.mirror_select.specs.Tails.{StripeObject, tail_stripes}
use Rattle.mirror_select.proofs.ChoiceLaws.{write_pieces}
use Rattle.mirror_select.proofs.Least.{In, found_in, from_contains, to_contains}
use Rattle.mirror_select.proofs.Sound.{has_parts}
use Rattle.mirror_select.proofs.TailLaws.{are_all}
use Rattle.meta_server.specs.declared.answers.Opened.{Opened}
use Rattle.meta_server.specs.Files.{File, file_of}
use Rattle.client_write.specs.declared.phase.CutAt.{CutAt}
use Rattle.client_write.specs.declared.phase.CutAt.TheVariants as cut
use Rattle.client_write.specs.declared.phase.WriteAt.{WriteAt}
use Rattle.client_write.specs.declared.phase.WriteAt.TheVariants as write
use Rattle.client_write.specs.Calls.{TruncateView, WriteView}
use Rattle.client_write.specs.CutFitting.{HasTails, IsSoundCutAt}
use Rattle.client_write.specs.Fitting.{HasPieces, IsAsked, IsSoundAt}
use Rattle.client_write.specs.Views.{CuttingView, WritingView}
use Rattle.client_write.specs.Writes.{range_of}
use Rattle.flr_numbers.specs.Calls.{cut_hand, write_hand}
use Rattle.flr_numbers.specs.Sentences.{Holds, IsCallOf}
use Rattle.flr_shapes.specs.Sentences.{HasShape, HasShapeAmong, HaveOneShape, Shape, layout_of, layouts_of}
use Rattle.flr_steps.specs.declared.client.Running.{Running}
use Rattle.flr_steps.specs.declared.client.Running.TheVariants as running
use Rattle.flr_steps.specs.States.{State}
use Rattle.flr_claims.specs.Honesty.{IsAttempting}
use Rattle.flr_claims.specs.Sending.{Attempt, OfTruncate, OfWrite, Part, attempt_of, cut_attempt, is_over, part_object, write_attempt}
use Rattle.flr_bytes.specs.Sentences.{offset_in}
use Rattle.flr_bytes.proofs.Once.{shape_of, stripe_in}

-- the component has the byte in the part's object, where the part has it
pub record Lies (c : Component) (p : Part) (x : ℕ) : Type 0 where
  pub covered : (c.extent.start ≤ x) × (x < c.extent.end)
  pub object : slice_get c.objects (place_of x c.stripe).index ≡ Some (part_object p)
  pub offset : (place_of x c.stripe).offset ≡ offset_in p x

-- each byte of the part lies so in a component of the layout
abbrev pub LiesAmong : Composite → Part → Type 0
LiesAmong l p = (x : ℕ) → is_over x p ≡ true → (c : Component) × In c l.components × Lies c p x

-- ---- in the layout of the call's open

-- what is at a place of a mapped list
mapped_at : {X Y : Type 0} (f : X → Y) (xs : List X) (i : ℕ) (y : Y) → slice_get (map f xs) i ≡ Some y → (x : X) × In x xs × (f x ≡ y)
mapped_at f [] i y e = absurd (cc)
mapped_at f (x ∷ xs) zero y e = (x, inl refl, cc)
mapped_at f (x ∷ xs) (suc i) y e = let r = mapped_at f xs i y e in (r.0, inr r.1, r.2)

-- an object that is there is that of the piece
solid : (o : Option ObjectId) → is_some o ≡ true → o ≡ Some (unwrap_or o (record { target = 0; number = 0 }))
solid (Some x) e = refl
solid None e = absurd (cc)

-- a byte of a piece of a component that has its objects
made_lies : (c : Component) (p : Piece) (x : ℕ) → is_some p.object ≡ true → LiesIn c p x → Lies c (OfWrite p) x
made_lies c p x some lies = record { covered = has_parts x c lies.covered; object = lies.object ∙ solid p.object some; offset = lies.offset }

-- a piece of a write
piece_lies : (w : WriteView) (x : WritingView) → IsAsked (range_of w) → HasPieces (range_of w) x → (p : Piece) → In p x.pieces → LiesAmong x.opened.layout (OfWrite p)
piece_lies w x asked has p i y over =
    let law = write_pieces x.opened.layout (range_of w) has.valid has.ready (omega (arith, asked.some)) (omega (arith, has.below)) in
    let listed : Contains (write_pieces_of x.opened.layout (range_of w)) p = to_contains (write_pieces_of x.opened.layout (range_of w)) p (subst (In p) has.are i) in
    let own = subst (λ (q : Piece). (c : Component) × IsPieceOf (component_of x.opened.layout.components (Some law.0)) c q × TakesWrites law.0 c) listed.2 (law.3 listed.0 p listed.1) in
    let c : Component = own.0 in
    let is : IsPieceOf (component_of x.opened.layout.components (Some law.0)) c p = own.1 in
    let within = and_parts (nat_le p.range.start y) (ltb y p.range.end) over in
    let low = leb-true p.range.start y within.0 in
    let high = ltb-true y p.range.end within.1 in
    (c, (found_in (covers law.0 y) x.opened.layout.components c (is.whole y low high)).0, made_lies c p y (is.object ∙ own.2.init) (is.bytes y low high))

-- a tail of a truncate
tail_lies : (size : ℕ) (l : Composite) → IsValid l → (s : StripeObject) → In s (tail_stripes l size) → LiesAmong l (OfTruncate size s)
tail_lies size l valid s i y over =
    let has : HasTail l size s = (are_all l size s valid).0 (to_contains (tail_stripes l size) s i) in
    let rest = (and_parts (nat_le size y) (nat_le s.component.extent.start y && ltb y s.component.extent.end && nat_eq (place_of y s.component.stripe).index s.index) over).1 in
    let parts = and_parts (nat_le s.component.extent.start y && ltb y s.component.extent.end) (nat_eq (place_of y s.component.stripe).index s.index) rest in
    let index : (place_of y s.component.stripe).index ≡ s.index = eqb-true (place_of y s.component.stripe).index s.index parts.1 in (
      s.component,
      from_contains l.components s.component has.there,
      record {
        covered = has_parts y s.component parts.0;
        object = ap (slice_get s.component.objects) index ∙ has.object;
        offset = refl;
      },
    )

writes_part : (w : WriteView) (x : WritingView) (a : Attempt) (place : ℕ) (p : Part) → IsAsked (range_of w) → HasPieces (range_of w) x → Some (record { opened = x.opened; parts = map OfWrite x.pieces }) ≡ Some a → slice_get a.parts place ≡ Some p → LiesAmong a.opened.layout p
writes_part w x a place p asked has is there =
    let one : record { opened = x.opened; parts = map OfWrite x.pieces } ≡ a = cc in
    let r = mapped_at OfWrite x.pieces place p (ap (λ (y : Attempt). slice_get y.parts place) one ∙ there) in
    let q : Piece = r.0 in
    let same : OfWrite q ≡ p = r.2 in
    subst (λ (y : Attempt). LiesAmong y.opened.layout p) one (subst (LiesAmong x.opened.layout) {x = OfWrite q} same (piece_lies w x asked has q r.1))

cuts_part : (size : ℕ) (x : CuttingView) (a : Attempt) (place : ℕ) (p : Part) → HasTails size x → Some (record { opened = x.opened; parts = map (OfTruncate size) (tail_stripes x.opened.layout size) }) ≡ Some a → slice_get a.parts place ≡ Some p → LiesAmong a.opened.layout p
cuts_part size x a place p has is there =
    let one : record { opened = x.opened; parts = map (OfTruncate size) (tail_stripes x.opened.layout size) } ≡ a = cc in
    let r = mapped_at (OfTruncate size) (tail_stripes x.opened.layout size) place p (ap (λ (y : Attempt). slice_get y.parts place) one ∙ there) in
    let s : StripeObject = r.0 in
    let same : OfTruncate size s ≡ p = r.2 in
    subst (λ (y : Attempt). LiesAmong y.opened.layout p) one (subst (LiesAmong x.opened.layout) {x = OfTruncate size s} same (tail_lies size x.opened.layout has.valid s r.1))

write_part : (w : WriteView) (at : WriteAt) (a : Attempt) (place : ℕ) (p : Part) → IsAsked (range_of w) → IsSoundAt at (range_of w) → write_attempt at ≡ Some a → slice_get a.parts place ≡ Some p → LiesAmong a.opened.layout p
write_part w write.Open a place p asked sound is there = absurd (cc)
write_part w (write.Lock x next) a place p asked sound is there = writes_part w x a place p asked sound.0 is there
write_part w (write.Send x next) a place p asked sound is there = writes_part w x a place p asked sound.0 is there
write_part w (write.Commit x end came) a place p asked sound is there = writes_part w x a place p asked sound.0 is there
write_part w write.UnlockAgain a place p asked sound is there = absurd (cc)
write_part w write.Unlock a place p asked sound is there = absurd (cc)

cut_part : (size : ℕ) (at : CutAt) (a : Attempt) (place : ℕ) (p : Part) → IsSoundCutAt at size → cut_attempt size at ≡ Some a → slice_get a.parts place ≡ Some p → LiesAmong a.opened.layout p
cut_part size cut.Open a place p sound is there = absurd (cc)
cut_part size (cut.Lock x) a place p sound is there = cuts_part size x a place p sound is there
cut_part size (cut.Punch x next) a place p sound is there = cuts_part size x a place p sound.0 is there
cut_part size (cut.Commit x came) a place p sound is there = cuts_part size x a place p sound.0 is there
cut_part size cut.UnlockAgain a place p sound is there = absurd (cc)
cut_part size cut.Unlock a place p sound is there = absurd (cc)

-- a part of a call's attempt
call_part : (client : ℕ) (call : Running) (a : Attempt) (place : ℕ) (p : Part) → IsCallOf client call → attempt_of call ≡ Some a → slice_get a.parts place ≡ Some p → LiesAmong a.opened.layout p
call_part client running.Idle a place p of is there = absurd (cc)
call_part client (running.Read call) a place p of is there = absurd (cc)
call_part client (running.Write call) a place p of is there = write_part call call.at a place p of.1 of.2 is there
call_part client (running.Truncate call) a place p of is there = cut_part call.size call.at a place p of.1 is there
call_part client (running.Copy call) a place p of is there = absurd (cc)
call_part client (running.Verify call) a place p of is there = absurd (cc)

-- ---- wherever the object stands

-- what stands in the layout of the call's open stands in one that it has in hand
write_hands : (w : WriteView) (at : WriteAt) (a : Attempt) (o : ObjectId) (shape : Shape) → w.at ≡ at → write_attempt at ≡ Some a → HasShape o shape a.opened.layout → HasShapeAmong o shape (layouts_of (running.Write w))
write_hands w write.Open a o shape e is has = absurd (cc)
write_hands w (write.Lock x next) a o shape e is has = let one : x.opened ≡ a.opened = cc in subst (λ (y : WriteAt). HasShapeAmong o shape (layout_of (write_hand y).opened)) (sym e) (inl (subst (λ (y : Opened). HasShape o shape y.layout) (sym one) has))
write_hands w (write.Send x next) a o shape e is has = let one : x.opened ≡ a.opened = cc in subst (λ (y : WriteAt). HasShapeAmong o shape (layout_of (write_hand y).opened)) (sym e) (inl (subst (λ (y : Opened). HasShape o shape y.layout) (sym one) has))
write_hands w (write.Commit x end came) a o shape e is has = let one : x.opened ≡ a.opened = cc in subst (λ (y : WriteAt). HasShapeAmong o shape (layout_of (write_hand y).opened)) (sym e) (inl (subst (λ (y : Opened). HasShape o shape y.layout) (sym one) has))
write_hands w write.UnlockAgain a o shape e is has = absurd (cc)
write_hands w write.Unlock a o shape e is has = absurd (cc)

cut_hands : (t : TruncateView) (at : CutAt) (a : Attempt) (o : ObjectId) (shape : Shape) → t.at ≡ at → cut_attempt t.size at ≡ Some a → HasShape o shape a.opened.layout → HasShapeAmong o shape (layouts_of (running.Truncate t))
cut_hands t cut.Open a o shape e is has = absurd (cc)
cut_hands t (cut.Lock x) a o shape e is has = let one : x.opened ≡ a.opened = cc in subst (λ (y : CutAt). HasShapeAmong o shape (layout_of (cut_hand y).opened)) (sym e) (inl (subst (λ (y : Opened). HasShape o shape y.layout) (sym one) has))
cut_hands t (cut.Punch x next) a o shape e is has = let one : x.opened ≡ a.opened = cc in subst (λ (y : CutAt). HasShapeAmong o shape (layout_of (cut_hand y).opened)) (sym e) (inl (subst (λ (y : Opened). HasShape o shape y.layout) (sym one) has))
cut_hands t (cut.Commit x came) a o shape e is has = let one : x.opened ≡ a.opened = cc in subst (λ (y : CutAt). HasShapeAmong o shape (layout_of (cut_hand y).opened)) (sym e) (inl (subst (λ (y : Opened). HasShape o shape y.layout) (sym one) has))
cut_hands t cut.UnlockAgain a o shape e is has = absurd (cc)
cut_hands t cut.Unlock a o shape e is has = absurd (cc)

call_hands : (call : Running) (a : Attempt) (o : ObjectId) (shape : Shape) → attempt_of call ≡ Some a → HasShape o shape a.opened.layout → HasShapeAmong o shape (layouts_of call)
call_hands running.Idle a o shape is has = absurd (cc)
call_hands (running.Read call) a o shape is has = absurd (cc)
call_hands (running.Write call) a o shape is has = write_hands call call.at a o shape refl is has
call_hands (running.Truncate call) a o shape is has = cut_hands call call.at a o shape refl is has
call_hands (running.Copy call) a o shape is has = absurd (cc)
call_hands (running.Verify call) a o shape is has = absurd (cc)

-- a component of the layout of the call's open that has an object, and one of a file that does, have one shape there
pub hand_shape : (s : State) → HaveOneShape s → (c : ℕ) (a : Attempt) → IsAttempting s c a → (o : ObjectId) (d : Component) (i : ℕ) → In d a.opened.layout.components → slice_get d.objects i ≡ Some o
    → (n : ℕ) (f : File) (e : Component) (j : ℕ) → file_of n s.shared.meta.files ≡ Some f → In e f.layout.components → slice_get e.objects j ≡ Some o → shape_of d i ≡ shape_of e j
hand_shape s shapes c a is o d i mine there n f e j found listed at =
    shapes o (shape_of d i) (shape_of e j)
    (inr (record { number = c; client = is.client; here = is.here; has = call_hands is.client.call a o (shape_of d i) is.attempt (stripe_in o a.opened.layout.components d i mine there) }))
    (inl (record { number = n; file = f; there = found; has = stripe_in o f.layout.components e j listed at }))

-- a component of a file that has the part's object has each byte of the part in it
pub part_lies : (s : State) → Holds s → HaveOneShape s → (c : ℕ) (a : Attempt) (place : ℕ) (p : Part) → IsAttempting s c a → slice_get a.parts place ≡ Some p
    → (n : ℕ) (f : File) (e : Component) (j : ℕ) → file_of n s.shared.meta.files ≡ Some f → In e f.layout.components → slice_get e.objects j ≡ Some (part_object p) → (x : ℕ) → is_over x p ≡ true → Lies e p x
part_lies s h shapes c a place p is there n f e j found i at x over =
    let lies = call_part c is.client.call a place p (h.clients c is.client is.here).call is.attempt there x over in
    let d : Component = lies.0 in
    let same : shape_of d (place_of x d.stripe).index ≡ shape_of e j = hand_shape s shapes c a is (part_object p) d (place_of x d.stripe).index lies.1 lies.2.object n f e j found i at in
    let extent : d.extent ≡ e.extent = ap (λ (y : Shape). y.extent) same in
    let stripe : d.stripe ≡ e.stripe = ap (λ (y : Shape). y.stripe) same in
    let index : (place_of x e.stripe).index ≡ j = ap (λ (k : Stripe). (place_of x k).index) (sym stripe) ∙ ap (λ (y : Shape). y.index) same in
    record {
      covered = subst (λ (r : Range). (r.start ≤ x) × (x < r.end)) extent lies.2.covered;
      object = ap (slice_get e.objects) index ∙ at;
      offset = ap (λ (k : Stripe). (place_of x k).offset) (sym stripe) ∙ lies.2.offset;
    }

-- ---- a tail of a truncate

-- the stripe of a tail has it in a valid layout
pub record IsTailIn (l : Composite) (size : ℕ) (s : StripeObject) : Type 0 where
  pub valid : IsValid l
  pub has : HasTail l size s

no_tail : (xs : List Piece) (i size : ℕ) (s : StripeObject) → slice_get (map OfWrite xs) i ≡ Some (OfTruncate size s) → ⊥
no_tail [] i size s e = cc
no_tail (x ∷ xs) zero size s e = let no : OfWrite x ≡ OfTruncate size s = cc in cc
no_tail (x ∷ xs) (suc i) size s e = no_tail xs i size s e

tail_at : (most : ℕ) (x : CuttingView) (a : Attempt) (place size : ℕ) (s : StripeObject) → HasTails most x → Some (record { opened = x.opened; parts = map (OfTruncate most) (tail_stripes x.opened.layout most) }) ≡ Some a → slice_get a.parts place ≡ Some (OfTruncate size s) → IsTailIn a.opened.layout size s
tail_at most x a place size s has is there =
    let one : record { opened = x.opened; parts = map (OfTruncate most) (tail_stripes x.opened.layout most) } ≡ a = cc in
    let r = mapped_at (OfTruncate most) (tail_stripes x.opened.layout most) place (OfTruncate size s) (ap (λ (y : Attempt). slice_get y.parts place) one ∙ there) in
    let stripe : r.0 ≡ s = (let e = r.2 in cc) in
    let bound : most ≡ size = (let e = r.2 in cc) in
    let mine : HasTail x.opened.layout most r.0 = (are_all x.opened.layout most r.0 has.valid).0 (to_contains (tail_stripes x.opened.layout most) r.0 r.1) in
    subst (λ (y : Attempt). IsTailIn y.opened.layout size s) one (record { valid = has.valid; has = subst (λ k. HasTail x.opened.layout k s) bound (subst (HasTail x.opened.layout most) stripe mine) })

cut_tail : (most : ℕ) (at : CutAt) (a : Attempt) (place size : ℕ) (s : StripeObject) → IsSoundCutAt at most → cut_attempt most at ≡ Some a → slice_get a.parts place ≡ Some (OfTruncate size s) → IsTailIn a.opened.layout size s
cut_tail most cut.Open a place size s sound is there = absurd (cc)
cut_tail most (cut.Lock x) a place size s sound is there = tail_at most x a place size s sound is there
cut_tail most (cut.Punch x next) a place size s sound is there = tail_at most x a place size s sound.0 is there
cut_tail most (cut.Commit x came) a place size s sound is there = tail_at most x a place size s sound.0 is there
cut_tail most cut.UnlockAgain a place size s sound is there = absurd (cc)
cut_tail most cut.Unlock a place size s sound is there = absurd (cc)

write_tail : (at : WriteAt) (a : Attempt) (place size : ℕ) (s : StripeObject) → write_attempt at ≡ Some a → slice_get a.parts place ≡ Some (OfTruncate size s) → ⊥
write_tail write.Open a place size s is there = cc
write_tail (write.Lock x next) a place size s is there = let one : record { opened = x.opened; parts = map OfWrite x.pieces } ≡ a = cc in no_tail x.pieces place size s (ap (λ (y : Attempt). slice_get y.parts place) one ∙ there)
write_tail (write.Send x next) a place size s is there = let one : record { opened = x.opened; parts = map OfWrite x.pieces } ≡ a = cc in no_tail x.pieces place size s (ap (λ (y : Attempt). slice_get y.parts place) one ∙ there)
write_tail (write.Commit x end came) a place size s is there = let one : record { opened = x.opened; parts = map OfWrite x.pieces } ≡ a = cc in no_tail x.pieces place size s (ap (λ (y : Attempt). slice_get y.parts place) one ∙ there)
write_tail write.UnlockAgain a place size s is there = cc
write_tail write.Unlock a place size s is there = cc

-- each tail of an attempt is one of the layout of its open
pub attempt_tail : (client : ℕ) (call : Running) (a : Attempt) (place size : ℕ) (s : StripeObject) → IsCallOf client call → attempt_of call ≡ Some a → slice_get a.parts place ≡ Some (OfTruncate size s) → IsTailIn a.opened.layout size s
attempt_tail client running.Idle a place size s of is there = absurd (cc)
attempt_tail client (running.Read call) a place size s of is there = absurd (cc)
attempt_tail client (running.Write call) a place size s of is there = absurd (write_tail call.at a place size s is there)
attempt_tail client (running.Truncate call) a place size s of is there = cut_tail call.size call.at a place size s of.1 is there
attempt_tail client (running.Copy call) a place size s of is there = absurd (cc)
attempt_tail client (running.Verify call) a place size s of is there = absurd (cc)
