-- A byte that has landed is under a PW of its call, on the bytes of the object where it lies.
use Rattle.std.proofs.Common.{◌≡◌, ℕ, zero, suc, ◌*◌, ◌/◌, ◌^◌, ◌<◌, ◌≤◌, true, ◌&&◌, ltb, nat_eq, nat_le, Some, List, [], ◌∷◌, map, inl, inr, refl, sym, ap, subst, ◌∙◌, arith}
use Rattle.std.specs.Prelude.{slice_get}
use Rattle.std.proofs.lemmas.Bool.{and_parts, eqb-true, leb-true, ltb-true}
use Rattle.std.proofs.Math.Nat.{div-div-eq-div-mul, div-le_self, mul-le-mul_right}
use Rattle.std.proofs.lemmas.Nat.{div-add-mod'}
use Rattle.flr_base.specs.declared.reply.Stripe.{Stripe}
use Rattle.stripe_map.specs.Places.{place_of}
use Rattle.composite_layout.specs.Layouts.{Composite, IsValid, eof}
use Rattle.extent_lock.specs.declared.lock.Lock.{Lock}
use Rattle.extent_lock.specs.declared.lock.Mode.TheVariants.{PW}
use Rattle.extent_lock.specs.Conflicts.{Covers}
use Rattle.mirror_select.specs.declared.types.Piece.{Piece}
use Rattle.mirror_select.specs.declared.types.Tail.{Tail}
use Rattle.mirror_select.specs.Laws.{HasTail}
use Rattle.mirror_select.specs.Tails.{StripeObject, tail_in, tail_stripes}
use Rattle.mirror_select.proofs.Least.{In, to_contains}
use Rattle.mirror_select.proofs.TailLaws.{are_all, covers_from}
use Rattle.object_target.specs.declared.fail.Fail.{Fail}
use Rattle.client_write.specs.declared.phase.CutAt.{CutAt}
use Rattle.client_write.specs.declared.phase.CutAt.TheVariants as cut
use Rattle.client_write.specs.declared.phase.WriteAt.{WriteAt}
use Rattle.client_write.specs.declared.phase.WriteAt.TheVariants as write
use Rattle.client_write.specs.Calls.{TruncateView, WriteView}
use Rattle.client_write.specs.CutFitting.{HasTails, IsSoundCutAt}
use Rattle.client_write.specs.Truncates.{tail_lock}
use Rattle.client_write.specs.Views.{CuttingView, WritingView}
use Rattle.client_write.specs.Writes.{lock_for}
use Rattle.flr_locks.specs.Phases.{AreCutLocks, AreLocksOf, AreWriteLocks}
use Rattle.flr_numbers.specs.Sentences.{IsCallOf}
use Rattle.flr_steps.specs.declared.client.Running.{Running}
use Rattle.flr_steps.specs.declared.client.Running.TheVariants as running
use Rattle.flr_steps.specs.Traces.{Doing, sent_calls}
use Rattle.flr_claims.specs.Sending.{Attempt, HasLanded, OfTruncate, OfWrite, Part, attempt_of, cut_attempt, is_over, part_object, write_attempt}
use Rattle.flr_sole.specs.Sentences.{HasSent, HasSentPieces, HasSentTails}
use Rattle.flr_sole.proofs.Holding.{nothing_sent}
use Rattle.flr_bytes.specs.Sentences.{offset_in}

-- a PW of this client on the byte of the part's object is among the locks
pub record IsCovered (client : ℕ) (own : List Lock) (p : Part) (x : ℕ) : Type 0 where
  pub lock : Lock
  pub held : In lock own
  pub holder : lock.holder ≡ client
  pub object : lock.object ≡ part_object p
  pub mode : lock.mode ≡ PW
  pub covers : Covers lock.range (offset_in p x)

-- the lock of what is at a place of the list
mapped_in : {X Y Z : Type 0} (f : X → Y) (g : X → Z) (xs : List X) (i : ℕ) (y : Y) → slice_get (map f xs) i ≡ Some y → (x : X) × In x xs × In (g x) (map g xs) × (f x ≡ y)
mapped_in f g [] i y e = absurd (cc)
mapped_in f g (x ∷ xs) zero y e = (x, inl refl, inl refl, cc)
mapped_in f g (x ∷ xs) (suc i) y e = let r = mapped_in f g xs i y e in (r.0, inr r.1, inr r.2, r.3)

-- a byte lies no further behind in its object than in the file
offset_below : (stripe : Stripe) (x : ℕ) → (place_of x stripe).offset ≤ x
offset_below stripe x =
    let row : x / (stripe.size * stripe.count) ≤ x / stripe.size = rw (← div-div-eq-div-mul x stripe.size stripe.count) (div-le_self (x / stripe.size) stripe.count) in
    omega (arith, mul-le-mul_right stripe.size row, div-add-mod' x stripe.size)

-- the tail of a stripe has the byte
tail_covers : (l : Composite) (size : ℕ) → IsValid l → (s : StripeObject) → In s (tail_stripes l size) → (x : ℕ) → x < 2 ^ 40 → is_over x (OfTruncate size s) ≡ true → Covers (record { start = (tail_in size s).offset; end = eof }) (offset_in (OfTruncate size s) x)
tail_covers l size valid s i x small over =
    let has : HasTail l size s = (are_all l size s valid).0 (to_contains (tail_stripes l size) s i) in
    let parts = and_parts (nat_le size x) (nat_le s.component.extent.start x && ltb x s.component.extent.end && nat_eq (place_of x s.component.stripe).index s.index) over in
    let rest = and_parts (nat_le s.component.extent.start x && ltb x s.component.extent.end) (nat_eq (place_of x s.component.stripe).index s.index) parts.1 in
    let index : (place_of x s.component.stripe).index ≡ s.index = eqb-true (place_of x s.component.stripe).index s.index rest.1 in
    let low = offset_below s.component.stripe x in
    record { from = (covers_from l size s x valid has index).1 (leb-true size x parts.0); below = omega (arith, low, small) }

module _ (fails : List Fail) (client : ℕ) (own : List Lock) (d : Doing) (a : Attempt) (place : ℕ) (p : Part) (l : HasLanded fails a d place p) (y : ℕ) (small : y < 2 ^ 40) (over : is_over y p ≡ true) where
  piece_covered : (w : WriteView) (q : Piece) → In (lock_for w q) own → w.client ≡ client → OfWrite q ≡ p → IsCovered client own p y
  piece_covered w q i mine e =
      let there : is_over y (OfWrite q) ≡ true = subst (λ (r : Part). is_over y r ≡ true) (sym e) over in
      let parts = and_parts (nat_le q.range.start y) (ltb y q.range.end) there in
      let low = leb-true q.range.start y parts.0 in
      let high = ltb-true y q.range.end parts.1 in
      subst (λ (r : Part). IsCovered client own r y) e (record { lock = lock_for w q; held = i; holder = mine; object = refl; mode = refl; covers = record { from = omega (arith, low); below = omega (arith, low, high) } })

  write_under : (w : WriteView) (x : WritingView) → w.client ≡ client → own ≡ map (lock_for w) x.pieces → Some (record { opened = x.opened; parts = map OfWrite x.pieces }) ≡ Some a → IsCovered client own p y
  write_under w x mine locks is =
      let one : record { opened = x.opened; parts = map OfWrite x.pieces } ≡ a = cc in
      let r = mapped_in OfWrite (lock_for w) x.pieces place p (ap (λ (b : Attempt). slice_get b.parts place) one ∙ l.there) in
      piece_covered w r.0 (subst (In (lock_for w r.0)) (sym locks) r.2) mine r.3

  write_holds : (w : WriteView) (at : WriteAt) → w.client ≡ client → AreWriteLocks w at own → write_attempt at ≡ Some a → HasSentPieces at d → IsCovered client own p y
  write_holds w write.Open mine locks is sent = absurd (cc)
  write_holds w (write.Lock x next) mine locks is sent = absurd (nothing_sent (sent_calls d) place l.made sent l.sent)
  write_holds w (write.Send x next) mine locks is sent = write_under w x mine locks is
  write_holds w (write.Commit x end came) mine locks is sent = write_under w x mine locks is
  write_holds w write.UnlockAgain mine locks is sent = absurd (cc)
  write_holds w write.Unlock mine locks is sent = absurd (cc)

  -- the lock of a stripe's tail
  abbrev stripe_lock : TruncateView → StripeObject → Lock
  stripe_lock t s = tail_lock t.client (tail_in t.size s)

  tail_covered : (t : TruncateView) (k : Composite) → IsValid k → (s : StripeObject) → In s (tail_stripes k t.size) → In (stripe_lock t s) own → t.client ≡ client → OfTruncate t.size s ≡ p → IsCovered client own p y
  tail_covered t k valid s listed i mine e =
      let there : is_over y (OfTruncate t.size s) ≡ true = subst (λ (r : Part). is_over y r ≡ true) (sym e) over in
      subst (λ (r : Part). IsCovered client own r y) e (record { lock = stripe_lock t s; held = i; holder = mine; object = refl; mode = refl; covers = tail_covers k t.size valid s listed y small there })

  cut_under : (t : TruncateView) (x : CuttingView) → t.client ≡ client → HasTails t.size x → own ≡ map (tail_lock t.client) x.tails
      → Some (record { opened = x.opened; parts = map (OfTruncate t.size) (tail_stripes x.opened.layout t.size) }) ≡ Some a → IsCovered client own p y
  cut_under t x mine has locks is =
      let one : record { opened = x.opened; parts = map (OfTruncate t.size) (tail_stripes x.opened.layout t.size) } ≡ a = cc in
      let r = mapped_in (OfTruncate t.size) (stripe_lock t) (tail_stripes x.opened.layout t.size) place p (ap (λ (b : Attempt). slice_get b.parts place) one ∙ l.there) in
      let listed : own ≡ map (stripe_lock t) (tail_stripes x.opened.layout t.size) = locks ∙ ap (map (tail_lock t.client)) has.are ∙ composed (tail_lock t.client) (tail_in t.size) (tail_stripes x.opened.layout t.size) in
      tail_covered t x.opened.layout has.valid r.0 r.1 (subst (In (stripe_lock t r.0)) (sym listed) r.2) mine r.3
    where
      composed : (f : Tail → Lock) (g : StripeObject → Tail) (xs : List StripeObject) → map f (map g xs) ≡ map (λ x. f (g x)) xs
      composed f g [] = refl
      composed f g (x ∷ xs) = ap (λ (ys : List Lock). f (g x) ∷ ys) (composed f g xs)

  cut_holds : (t : TruncateView) (at : CutAt) → t.client ≡ client → IsSoundCutAt at t.size → AreCutLocks t at own → cut_attempt t.size at ≡ Some a → HasSentTails at d → IsCovered client own p y
  cut_holds t cut.Open mine sound locks is sent = absurd (cc)
  cut_holds t (cut.Lock x) mine sound locks is sent = absurd (nothing_sent (sent_calls d) place l.made sent l.sent)
  cut_holds t (cut.Punch x next) mine sound locks is sent = cut_under t x mine sound.0 locks is
  cut_holds t (cut.Commit x came) mine sound locks is sent = cut_under t x mine sound.0 locks is
  cut_holds t cut.UnlockAgain mine sound locks is sent = absurd (cc)
  cut_holds t cut.Unlock mine sound locks is sent = absurd (cc)

  -- a byte of a part that has landed is under a lock of its call
  pub call_covers : (call : Running) → IsCallOf client call → AreLocksOf call own → attempt_of call ≡ Some a → HasSent call d → IsCovered client own p y
  call_covers running.Idle of locks is sent = absurd (cc)
  call_covers (running.Read call) of locks is sent = absurd (cc)
  call_covers (running.Write call) of locks is sent = write_holds call call.at of.0 locks is sent
  call_covers (running.Truncate call) of locks is sent = cut_holds call call.at of.0 of.1 locks is sent
  call_covers (running.Copy call) of locks is sent = absurd (cc)
  call_covers (running.Verify call) of locks is sent = absurd (cc)
