-- A part that has landed is under a PW of its call.
use Rattle.std.proofs.Common.{◌≡◌, ◌≢◌, ℕ, zero, suc, Bool, true, false, cond, Some, None, List, [], ◌∷◌, map, filter, ◌==◌, inl, inr, refl, sym, ap, subst, ◌∙◌}
use Rattle.std.specs.Prelude.{slice_get}
use Rattle.extent_lock.specs.declared.lock.Lock.{Lock}
use Rattle.extent_lock.specs.declared.lock.Mode.TheVariants.{PW}
use Rattle.extent_lock.specs.Extents.{locks_of, writer_but}
use Rattle.extent_lock.proofs.LockLaws.{writer_none}
use Rattle.mirror_select.specs.declared.types.Tail.{Tail}
use Rattle.mirror_select.specs.Tails.{StripeObject, tail_in, tail_stripes}
use Rattle.mirror_select.proofs.Least.{In, to_contains}
use Rattle.object_target.specs.declared.fail.Fail.{Fail}
use Rattle.client_write.specs.declared.phase.CutAt.{CutAt}
use Rattle.client_write.specs.declared.phase.CutAt.TheVariants as cut
use Rattle.client_write.specs.declared.phase.WriteAt.{WriteAt}
use Rattle.client_write.specs.declared.phase.WriteAt.TheVariants as write
use Rattle.client_write.specs.Calls.{TruncateView, WriteView}
use Rattle.client_write.specs.CutFitting.{IsSoundCutAt}
use Rattle.client_write.specs.Truncates.{tail_lock}
use Rattle.client_write.specs.Views.{CuttingView, WritingView}
use Rattle.client_write.specs.Writes.{lock_for}
use Rattle.flr_locks.specs.Phases.{AreCutLocks, AreLocksOf, AreWriteLocks}
use Rattle.flr_numbers.specs.Sentences.{IsCallOf}
use Rattle.flr_steps.specs.declared.client.Running.{Running}
use Rattle.flr_steps.specs.declared.client.Running.TheVariants as running
use Rattle.flr_steps.specs.Traces.{Doing, Made, sent_calls}
use Rattle.flr_claims.specs.Sending.{Attempt, HasLanded, OfTruncate, OfWrite, Part, attempt_of, cut_attempt, part_object, write_attempt}
use Rattle.flr_sole.specs.Sentences.{HasSent, HasSentPieces, HasSentTails}

-- a PW of this client on the part's object is among the locks
pub record IsUnderLock (client : ℕ) (own : List Lock) (p : Part) : Type 0 where
  pub lock : Lock
  pub held : In lock own
  pub holder : lock.holder ≡ client
  pub object : lock.object ≡ part_object p
  pub mode : lock.mode ≡ PW

pub nothing_sent : (ms : List Made) (i : ℕ) (m : Made) → ms ≡ [] → slice_get ms i ≡ Some m → ⊥
nothing_sent [] i m e found = cc
nothing_sent (x ∷ xs) i m e found = cc

-- the lock of what is at a place of the list
mapped_in : {X Y Z : Type 0} (f : X → Y) (g : X → Z) (xs : List X) (i : ℕ) (y : Y) → slice_get (map f xs) i ≡ Some y → (x : X) × In (g x) (map g xs) × (f x ≡ y)
mapped_in f g [] i y e = absurd (cc)
mapped_in f g (x ∷ xs) zero y e = (x, inl refl, cc)
mapped_in f g (x ∷ xs) (suc i) y e = let r = mapped_in f g xs i y e in (r.0, inr r.1, r.2)

module _ (fails : List Fail) (client : ℕ) (own : List Lock) (d : Doing) (a : Attempt) (place : ℕ) (p : Part) (l : HasLanded fails a d place p) where
  write_under : (w : WriteView) (x : WritingView) → w.client ≡ client → own ≡ map (lock_for w) x.pieces → Some (record { opened = x.opened; parts = map OfWrite x.pieces }) ≡ Some a → IsUnderLock client own p
  write_under w x mine locks is =
      let one : record { opened = x.opened; parts = map OfWrite x.pieces } ≡ a = cc in
      let r = mapped_in OfWrite (lock_for w) x.pieces place p (ap (λ (y : Attempt). slice_get y.parts place) one ∙ l.there) in
      record { lock = lock_for w r.0; held = subst (In (lock_for w r.0)) (sym locks) r.1; holder = mine; object = ap part_object r.2; mode = refl }

  write_holds : (w : WriteView) (at : WriteAt) → w.client ≡ client → AreWriteLocks w at own → write_attempt at ≡ Some a → HasSentPieces at d → IsUnderLock client own p
  write_holds w write.Open mine locks is sent = absurd (cc)
  write_holds w (write.Lock x next) mine locks is sent = absurd (nothing_sent (sent_calls d) place l.made sent l.sent)
  write_holds w (write.Send x next) mine locks is sent = write_under w x mine locks is
  write_holds w (write.Commit x end came) mine locks is sent = write_under w x mine locks is
  write_holds w write.UnlockAgain mine locks is sent = absurd (cc)
  write_holds w write.Unlock mine locks is sent = absurd (cc)

  -- the lock of a stripe's tail
  abbrev stripe_lock : TruncateView → StripeObject → Lock
  stripe_lock t s = tail_lock t.client (tail_in t.size s)

  cut_under : (t : TruncateView) (x : CuttingView) → t.client ≡ client → x.tails ≡ map (tail_in t.size) (tail_stripes x.opened.layout t.size) → own ≡ map (tail_lock t.client) x.tails
      → Some (record { opened = x.opened; parts = map (OfTruncate t.size) (tail_stripes x.opened.layout t.size) }) ≡ Some a → IsUnderLock client own p
  cut_under t x mine are locks is =
      let one : record { opened = x.opened; parts = map (OfTruncate t.size) (tail_stripes x.opened.layout t.size) } ≡ a = cc in
      let r = mapped_in (OfTruncate t.size) (stripe_lock t) (tail_stripes x.opened.layout t.size) place p (ap (λ (y : Attempt). slice_get y.parts place) one ∙ l.there) in
      let listed : own ≡ map (stripe_lock t) (tail_stripes x.opened.layout t.size) = locks ∙ ap (map (tail_lock t.client)) are ∙ composed (tail_lock t.client) (tail_in t.size) (tail_stripes x.opened.layout t.size) in
      record { lock = stripe_lock t r.0; held = subst (In (stripe_lock t r.0)) (sym listed) r.1; holder = mine; object = ap part_object r.2; mode = refl }
    where
      composed : (f : Tail → Lock) (g : StripeObject → Tail) (xs : List StripeObject) → map f (map g xs) ≡ map (λ x. f (g x)) xs
      composed f g [] = refl
      composed f g (x ∷ xs) = ap (λ (ys : List Lock). f (g x) ∷ ys) (composed f g xs)

  cut_holds : (t : TruncateView) (at : CutAt) → t.client ≡ client → IsSoundCutAt at t.size → AreCutLocks t at own → cut_attempt t.size at ≡ Some a → HasSentTails at d → IsUnderLock client own p
  cut_holds t cut.Open mine sound locks is sent = absurd (cc)
  cut_holds t (cut.Lock x) mine sound locks is sent = absurd (nothing_sent (sent_calls d) place l.made sent l.sent)
  cut_holds t (cut.Punch x next) mine sound locks is sent = cut_under t x mine sound.0.are locks is
  cut_holds t (cut.Commit x came) mine sound locks is sent = cut_under t x mine sound.0.are locks is
  cut_holds t cut.UnlockAgain mine sound locks is sent = absurd (cc)
  cut_holds t cut.Unlock mine sound locks is sent = absurd (cc)

  pub call_holds : (call : Running) → IsCallOf client call → AreLocksOf call own → attempt_of call ≡ Some a → HasSent call d → IsUnderLock client own p
  call_holds running.Idle of locks is sent = absurd (cc)
  call_holds (running.Read call) of locks is sent = absurd (cc)
  call_holds (running.Write call) of locks is sent = write_holds call call.at of.0 locks is sent
  call_holds (running.Truncate call) of locks is sent = cut_holds call call.at of.0 of.1 locks is sent
  call_holds (running.Copy call) of locks is sent = absurd (cc)
  call_holds (running.Verify call) of locks is sent = absurd (cc)

-- so another client finds a writer on its object
pub is_written : (held : List Lock) (client asker : ℕ) (p : Part) → client ≢ asker → IsUnderLock client (locks_of client held) p → writer_but held asker (part_object p) ≡ None → ⊥
is_written held client asker p apart u none =
    (writer_none held asker (part_object p)).0 none u.lock (to_contains held u.lock (among (λ (lock : Lock). lock.holder == client) held u.lock u.held)) (record { mode = u.mode; on = u.object; another = λ same. apart (sym u.holder ∙ same) })
  where
    among : (q : Lock → Bool) (xs : List Lock) (x : Lock) → In x (filter q xs) → In x xs
    among q [] x i = absurd i
    among q (y ∷ ys) x i = by (q y) i (among q ys x)
      where
        by : (b : Bool) → In x (cond b (y ∷ filter q ys) (filter q ys)) → (In x (filter q ys) → In x ys) → In x (y ∷ ys)
        by true (inl one) rest = inl one
        by true (inr more) rest = inr (rest more)
        by false i rest = inr (rest i)
