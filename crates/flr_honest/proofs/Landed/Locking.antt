-- Each byte that a part has in its object is under a PW of its call, so that no other client writes there.
use Rattle.std.proofs.Common.{◌≡◌, ℕ, ◌+◌, ◌-◌, ◌<◌, ◌≤◌, Bool, true, false, cond, ◌&&◌, ltb, nat_eq, nat_le, Some, List, [], ◌∷◌, map, filter, ◌==◌, inl, inr, refl, sym, ap, subst, ◌∙◌, arith}
use Rattle.std.specs.Prelude.{Contains, slice_get}
use Rattle.std.proofs.lemmas.Bool.{and_parts, eqb-true, leb-true, ltb-true}
use Rattle.flr_base.specs.declared.reply.ObjectId.{ObjectId}
use Rattle.stripe_map.specs.Places.{place_of}
use Rattle.extent_lock.specs.declared.lock.Lock.{Lock}
use Rattle.extent_lock.specs.declared.lock.Mode.TheVariants.{PW}
use Rattle.extent_lock.specs.Conflicts.{AreApart, Covers}
use Rattle.extent_lock.specs.Extents.{locks_of}
use Rattle.composite_layout.specs.Layouts.{eof}
use Rattle.mirror_select.specs.declared.types.Piece.{Piece}
use Rattle.mirror_select.specs.declared.types.Tail.{Tail}
use Rattle.mirror_select.specs.Laws.{HasTail}
use Rattle.mirror_select.specs.Tails.{StripeObject, tail_in, tail_stripes}
use Rattle.mirror_select.proofs.Least.{In, to_contains}
use Rattle.mirror_select.proofs.TailLaws.{are_all, covers_from}
use Rattle.object_target.specs.declared.fail.Fail.{Fail}
use Rattle.call_steps.specs.Pieces.{length_of, object_of}
use Rattle.client_write.specs.declared.phase.CutAt.{CutAt}
use Rattle.client_write.specs.declared.phase.CutAt.TheVariants as cut
use Rattle.client_write.specs.declared.phase.WriteAt.{WriteAt}
use Rattle.client_write.specs.declared.phase.WriteAt.TheVariants as write
use Rattle.client_write.specs.Calls.{TruncateView, WriteView}
use Rattle.client_write.specs.CutFitting.{HasTails, IsSoundCutAt}
use Rattle.client_write.specs.Truncates.{tail_lock}
use Rattle.client_write.specs.Views.{CuttingView, WritingView}
use Rattle.client_write.specs.Writes.{lock_for}
use Rattle.flr_locks.specs.Phases.{AreCutLocks, AreLocksOf, AreWriteLocks}
use Rattle.flr_numbers.specs.Sentences.{IsCallOf}
use Rattle.flr_steps.specs.declared.client.Running.{Running}
use Rattle.flr_steps.specs.declared.client.Running.TheVariants as running
use Rattle.flr_steps.specs.Traces.{Doing, sent_calls}
use Rattle.flr_claims.specs.Sending.{Attempt, HasLanded, OfTruncate, OfWrite, Part, attempt_of, cut_attempt, is_over, part_object, write_attempt}
use Rattle.flr_sole.specs.Sentences.{HasSent, HasSentPieces, HasSentTails}
use Rattle.flr_sole.proofs.Holding.{nothing_sent}
use Rattle.flr_bytes.specs.Sentences.{offset_in}
use Rattle.flr_honest.proofs.Landed.Lists.{got_back, got_in, map_got, map_in}

-- a PW of this client on the object covers the byte
pub record IsHeldOver (client : ℕ) (held : List Lock) (o : ObjectId) (y : ℕ) : Type 0 where
  pub lock : Lock
  pub listed : Contains held lock
  pub holder : lock.holder ≡ client
  pub object : lock.object ≡ o
  pub mode : lock.mode ≡ PW
  pub covers : Covers lock.range y

-- two clients never hold one byte so
pub never_both : (held : List Lock) → AreApart held → (c k : ℕ) (o : ObjectId) (y : ℕ) → (k ≡ c → ⊥) → IsHeldOver c held o y → IsHeldOver k held o y → ⊥
never_both held apart c k o y other mine theirs =
    apart mine.lock theirs.lock mine.listed theirs.listed (record { clients = λ same. other (sym theirs.holder ∙ sym same ∙ mine.holder); on = mine.object ∙ sym theirs.object; byte = y; ours = mine.covers; theirs = theirs.covers; exclusive = inl mine.mode })

-- ---- locks in lists

among : {X : Type 0} (q : X → Bool) (xs : List X) (x : X) → In x (filter q xs) → In x xs
among q [] x i = absurd i
among q (y ∷ ys) x i = by (q y) i (among q ys x)
  where
    by : (b : Bool) → In x (cond b (y ∷ filter q ys) (filter q ys)) → (In x (filter q ys) → In x ys) → In x (y ∷ ys)
    by true (inl one) rest = inl one
    by true (inr more) rest = inr (rest more)
    by false i rest = inr (rest i)

own_held : (held : List Lock) (client : ℕ) (lock : Lock) → In lock (locks_of client held) → Contains held lock
own_held held client lock i = to_contains held lock (among (λ (l : Lock). l.holder == client) held lock i)

-- ---- pieces and tails

-- the bytes of a piece
pub write_over : (held : List Lock) (client : ℕ) (w : WriteView) (pieces : List Piece) → w.client ≡ client → locks_of client held ≡ map (lock_for w) pieces → (i : ℕ) (q : Piece) → slice_get pieces i ≡ Some q → (y : ℕ) → q.offset ≤ y → y < q.offset + length_of q → IsHeldOver client held (object_of q) y
write_over held client w pieces mine locks i q there y low high = record {
  lock = lock_for w q;
  listed = own_held held client (lock_for w q) (subst (In (lock_for w q)) (sym locks) (map_in (lock_for w) pieces i q there));
  holder = mine;
  object = refl;
  mode = refl;
  covers = record { from = low; below = high };
}

-- the bytes of a tail
pub cut_over : (held : List Lock) (client : ℕ) (t : TruncateView) (tails : List Tail) (stripes : List StripeObject) → t.client ≡ client → locks_of client held ≡ map (tail_lock t.client) tails → tails ≡ map (tail_in t.size) stripes → (i : ℕ) (r : StripeObject) → slice_get stripes i ≡ Some r
    → (y : ℕ) → (tail_in t.size r).offset ≤ y → y < eof → IsHeldOver client held r.object y
cut_over held client t tails stripes mine locks are i r there y low high = record {
  lock = tail_lock t.client (tail_in t.size r);
  listed = own_held held client (tail_lock t.client (tail_in t.size r)) (subst (In (tail_lock t.client (tail_in t.size r))) (sym locks) (map_in (tail_lock t.client) tails i (tail_in t.size r) (ap (λ (ts : List Tail). slice_get ts i) are ∙ map_got (tail_in t.size) stripes i r there)));
  holder = mine;
  object = refl;
  mode = refl;
  covers = record { from = low; below = high };
}

-- ---- a part that has landed

module _ (fails : List Fail) (held : List Lock) (client : ℕ) (d : Doing) (a : Attempt) (place : ℕ) (p : Part) (l : HasLanded fails a d place p) (x : ℕ) (over : is_over x p ≡ true) (below : offset_in p x < eof) where
  abbrev IsOver : Type 0
  IsOver = IsHeldOver client held (part_object p) (offset_in p x)

  of_piece : (w : WriteView) (v : WritingView) → w.client ≡ client → locks_of client held ≡ map (lock_for w) v.pieces → Some (record { opened = v.opened; parts = map OfWrite v.pieces }) ≡ Some a → IsOver
  of_piece w v mine locks is =
      let one : record { opened = v.opened; parts = map OfWrite v.pieces } ≡ a = cc in
      let r = got_back OfWrite v.pieces place p (ap (λ (y : Attempt). slice_get y.parts place) one ∙ l.there) in
      subst (λ (z : Part). is_over x z ≡ true → IsHeldOver client held (part_object z) (offset_in z x)) r.2 (λ on. by r.0 r.1 on) over
    where
      by : (q : Piece) → slice_get v.pieces place ≡ Some q → is_over x (OfWrite q) ≡ true → IsHeldOver client held (object_of q) (q.offset + (x - q.range.start))
      by q there on =
          let parts = and_parts (nat_le q.range.start x) (ltb x q.range.end) on in
          let low = leb-true q.range.start x parts.0 in
          let high = ltb-true x q.range.end parts.1 in
          write_over held client w v.pieces mine locks place q there (q.offset + (x - q.range.start)) (omega arith) (omega (arith, low, high))

  write_holds : (w : WriteView) (at : WriteAt) → w.client ≡ client → AreWriteLocks w at (locks_of client held) → write_attempt at ≡ Some a → HasSentPieces at d → IsOver
  write_holds w write.Open mine locks is sent = absurd (cc)
  write_holds w (write.Lock v next) mine locks is sent = absurd (nothing_sent (sent_calls d) place l.made sent l.sent)
  write_holds w (write.Send v next) mine locks is sent = of_piece w v mine locks is
  write_holds w (write.Commit v end came) mine locks is sent = of_piece w v mine locks is
  write_holds w write.UnlockAgain mine locks is sent = absurd (cc)
  write_holds w write.Unlock mine locks is sent = absurd (cc)

  of_tail : (t : TruncateView) (v : CuttingView) → t.client ≡ client → HasTails t.size v → locks_of client held ≡ map (tail_lock t.client) v.tails → Some (record { opened = v.opened; parts = map (OfTruncate t.size) (tail_stripes v.opened.layout t.size) }) ≡ Some a → IsOver
  of_tail t v mine has locks is =
      let one : record { opened = v.opened; parts = map (OfTruncate t.size) (tail_stripes v.opened.layout t.size) } ≡ a = cc in
      let r = got_back (OfTruncate t.size) (tail_stripes v.opened.layout t.size) place p (ap (λ (y : Attempt). slice_get y.parts place) one ∙ l.there) in
      subst (λ (z : Part). is_over x z ≡ true → offset_in z x < eof → IsHeldOver client held (part_object z) (offset_in z x)) r.2 (λ on low. by r.0 r.1 on low) over below
    where
      by : (q : StripeObject) → slice_get (tail_stripes v.opened.layout t.size) place ≡ Some q → is_over x (OfTruncate t.size q) ≡ true → (place_of x q.component.stripe).offset < eof → IsHeldOver client held q.object (place_of x q.component.stripe).offset
      by q there on high =
          let first = and_parts (nat_le t.size x) (nat_le q.component.extent.start x && ltb x q.component.extent.end && nat_eq (place_of x q.component.stripe).index q.index) on in
          let last = and_parts (nat_le q.component.extent.start x && ltb x q.component.extent.end) (nat_eq (place_of x q.component.stripe).index q.index) first.1 in
          let index : (place_of x q.component.stripe).index ≡ q.index = eqb-true (place_of x q.component.stripe).index q.index last.1 in
          let tail : HasTail v.opened.layout t.size q = (are_all v.opened.layout t.size q has.valid).0 (to_contains (tail_stripes v.opened.layout t.size) q (got_in (tail_stripes v.opened.layout t.size) place q there)) in
          cut_over held client t v.tails (tail_stripes v.opened.layout t.size) mine locks has.are place q there (place_of x q.component.stripe).offset ((covers_from v.opened.layout t.size q x has.valid tail index).1 (leb-true t.size x first.0)) high

  cut_holds : (t : TruncateView) (at : CutAt) → t.client ≡ client → IsSoundCutAt at t.size → AreCutLocks t at (locks_of client held) → cut_attempt t.size at ≡ Some a → HasSentTails at d → IsOver
  cut_holds t cut.Open mine sound locks is sent = absurd (cc)
  cut_holds t (cut.Lock v) mine sound locks is sent = absurd (nothing_sent (sent_calls d) place l.made sent l.sent)
  cut_holds t (cut.Punch v next) mine sound locks is sent = of_tail t v mine sound.0 locks is
  cut_holds t (cut.Commit v came) mine sound locks is sent = of_tail t v mine sound.0 locks is
  cut_holds t cut.UnlockAgain mine sound locks is sent = absurd (cc)
  cut_holds t cut.Unlock mine sound locks is sent = absurd (cc)

  -- is under a PW of its call
  pub landed_over : (call : Running) → IsCallOf client call → AreLocksOf call (locks_of client held) → attempt_of call ≡ Some a → HasSent call d → IsOver
  landed_over running.Idle of locks is sent = absurd (cc)
  landed_over (running.Read call) of locks is sent = absurd (cc)
  landed_over (running.Write call) of locks is sent = write_holds call call.at of.0 locks is sent
  landed_over (running.Truncate call) of locks is sent = cut_holds call call.at of.0 of.1 locks is sent
  landed_over (running.Copy call) of locks is sent = absurd (cc)
  landed_over (running.Verify call) of locks is sent = absurd (cc)
