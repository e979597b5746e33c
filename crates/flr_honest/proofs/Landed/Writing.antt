-- A step changes the bytes of one object at most.
use Rattle.std.proofs.Common.{◌≡◌, ℕ, ◌-◌, ◌<◌, Bool, true, false, Option, Some, None, List, [], length, drop, inl, inr, refl, ap, subst, ◌∙◌, arith, length-drop}
use Rattle.std.specs.Prelude.{slice_get}
use Rattle.std.proofs.lemmas.List.{length-take-le}
use Rattle.flr_base.specs.declared.reply.FailedCall.{FailedCall}
use Rattle.flr_base.specs.declared.reply.Range.{Range}
use Rattle.extent_lock.specs.Extents.{blocker}
use Rattle.mirror_select.specs.declared.types.Piece.{Piece}
use Rattle.mirror_select.specs.declared.types.Tail.{Tail}
use Rattle.mirror_select.specs.Tails.{StripeObject, tail_in, tail_stripes}
use Rattle.object_target.specs.declared.call.CallAnswer.{CallAnswer}
use Rattle.object_target.specs.declared.call.CallAnswer.TheVariants as answer
use Rattle.object_target.specs.Calls.{after_punch, after_read, after_write, has_effect, is_old, next_fail, read_answer}
use Rattle.meta_server.specs.declared.answers.Opened.{Opened}
use Rattle.meta_server.specs.Closing.{confirms, holds, is_there}
use Rattle.meta_server.specs.Files.{File, file_named}
use Rattle.meta_server.specs.Opening.{cut_opens, write_opens}
use Rattle.meta_server.specs.Outcomes.{Ending, Ends, Breaks, Holds, Gives, Refuses, Waits}
use Rattle.meta_server.specs.Outcomes as meta
use Rattle.call_steps.specs.Pieces.{length_of, object_of, piece_at}
use Rattle.call_steps.specs.Servers.{AreThere, Servers, target_at, with_target}
use Rattle.call_steps.specs.Steps.{Outcome, Going, Fixed, Ended, Answered, Blocked, widen}
use Rattle.client_read.specs.declared.phase.ReadAt.{ReadAt}
use Rattle.client_read.specs.declared.phase.ReadAt.TheVariants as read
use Rattle.client_read.specs.declared.phase.Reading.{Reading}
use Rattle.client_read.specs.Reads as reads
use Rattle.client_read.specs.Views.{ReadView}
use Rattle.client_write.specs.declared.phase.CutAt.{CutAt}
use Rattle.client_write.specs.declared.phase.CutAt.TheVariants as cut
use Rattle.client_write.specs.declared.phase.Sent.{Sent}
use Rattle.client_write.specs.declared.phase.Sent.TheVariants as sent
use Rattle.client_write.specs.declared.phase.WriteAt.{WriteAt}
use Rattle.client_write.specs.declared.phase.WriteAt.TheVariants as write
use Rattle.client_write.specs.Calls.{TruncateView, WriteView}
use Rattle.client_write.specs.CutFitting.{IsSoundCutAt}
use Rattle.client_write.specs.Fitting.{HasPieces, IsAsked, IsSoundAt}
use Rattle.client_write.specs.Truncates as cuts
use Rattle.client_write.specs.Views.{CuttingView, WritingView}
use Rattle.client_write.specs.Writes as writes
use Rattle.client_write.proofs.Cuttable.{tail_there}
use Rattle.client_write.proofs.Writable.{lies, object_there}
use Rattle.mirror_verify.specs.declared.phase.VerifyAt.{VerifyAt}
use Rattle.mirror_verify.specs.declared.phase.VerifyAt.TheVariants as verify
use Rattle.mirror_verify.specs.declared.phase.Verifying.{Verifying}
use Rattle.mirror_verify.specs.Blocks.{copy_at}
use Rattle.mirror_verify.specs.Verifies as verifies
use Rattle.mirror_verify.specs.Views.{VerifyView}
use Rattle.flr_sole.proofs.Targets.{effect_new}
use Rattle.flr_steps.specs.declared.client.Running.{Running}
use Rattle.flr_steps.specs.declared.client.Running.TheVariants as running
use Rattle.flr_bytes.specs.Writing.{AreCut, HoldsStill, PunchesTail, SendsPiece, Writes}
use Rattle.flr_bytes.proofs.Contents.{punch_none, same_content, write_none}
use Rattle.flr_bytes.proofs.Held.{punch_lands, write_lands}
use Rattle.flr_honest.proofs.Landed.Lists.{got, got_from}

-- the step of a call, by what it comes to
abbrev pub StepWrites : {C : Type 0} → Servers → Running → Outcome C → Type 0
StepWrites s call (Going next after) = Writes s after call
StepWrites s call (Fixed next reply takes after) = Writes s after call
StepWrites s call (Ended after) = Writes s after call
StepWrites s call (Answered reply takes after) = Writes s after call
StepWrites s call (Blocked holder) = Unit {0}

-- so it is with any wider type of calls
pub widened : {C D : Type 0} (f : C → D) (s : Servers) (call : Running) (o : Outcome C) → StepWrites s call o → StepWrites s call (widen f o)
widened f s call (Going next after) h = h
widened f s call (Fixed next reply takes after) h = h
widened f s call (Ended after) h = h
widened f s call (Answered reply takes after) h = h
widened f s call (Blocked holder) h = tt

module _ (s : Servers) where
  -- all objects hold what they held
  pub stays : HoldsStill s s
  stays o = refl

  -- a read leaves all objects
  pub took : (p : Piece) → HoldsStill s (with_target s (object_of p).target (after_read (target_at s.targets (object_of p).target) (object_of p).number p.offset (length_of p)))
  took p = same_content s (object_of p).target (after_read (target_at s.targets (object_of p).target) (object_of p).number p.offset (length_of p)) (λ n. refl)

  -- ---- reads

  module _ (r : ReadView) (call : Running) where
    shares : (f : File) (b : Option ℕ) → StepWrites s call (reads.shares_file r s f b)
    shares f (Some byte) = inl (λ o. refl)
    shares f None = inl (λ o. refl)

    opens : (o : Option File) → StepWrites s call (reads.opens_file r s o)
    opens None = inl (λ o. refl)
    opens (Some f) = shares f (reads.unanswered f.layout r.range _)

    locks : (x : Reading) (next : ℕ) (b : Option (ℕ × Range)) → StepWrites s call (reads.locks_piece r s x next b)
    locks x next (Some told) = tt
    locks x next None = inl (λ o. refl)

    takes : (x : Reading) (next : ℕ) (p : Piece) (came : CallAnswer) → StepWrites s call (reads.takes_piece r s x next p came)
    takes x next p answer.Ok = inl (took p)
    takes x next p (answer.Old kept) = inl (took p)
    takes x next p answer.Failed = inl (took p)

    others : (x : Reading) (o : Option ℕ) → StepWrites s call (reads.others_answer r s x o)
    others x (Some byte) = inl (λ o. refl)
    others x None = inl (λ o. refl)

    looks : (x : Reading) (b : Bool) → StepWrites s call (reads.looks_again r s x b)
    looks x false = inl (λ o. refl)
    looks x true = others x (reads.unanswered x.opened.layout r.range (reads.ids_of x.failed))

    confirming : (x : Reading) (o : Option ℕ) → StepWrites s call (reads.confirms_read r s x o)
    confirming x None = inl (λ o. refl)
    confirming x (Some size) = inl (λ o. refl)

    -- a read changes nothing
    pub read_writes : (a : ReadAt) → StepWrites s call (reads.read_at a r s)
    read_writes read.Open = opens (file_named r.name s.meta.files)
    read_writes (read.Lock x next) = locks x next (blocker s.locks (reads.lock_for r (piece_at x.pieces next)))
    read_writes (read.Take x next) = takes x next (piece_at x.pieces next) (read_answer (reads.target_of s (piece_at x.pieces next)))
    read_writes (read.Again x) = looks x (holds x.opened.file x.opened.cookie s.meta)
    read_writes (read.Confirm x) = confirming x (confirms x.opened.file x.opened.cookie s.meta)
    read_writes read.UnlockAgain = inl (λ o. refl)
    read_writes read.Unlock = inl (λ o. refl)

  -- ---- verifies

  module _ (v : VerifyView) (call : Running) where
    verify_opens : (o : Option File) → StepWrites s call (verifies.opens_file v s o)
    verify_opens None = inl (λ o. refl)
    verify_opens (Some f) = inl (λ o. refl)

    verify_takes : (x : Verifying) (next : ℕ) (p : Piece) (came : CallAnswer) → StepWrites s call (verifies.takes_copy v s x next p came)
    verify_takes x next p answer.Ok = inl (took p)
    verify_takes x next p (answer.Old kept) = inl (took p)
    verify_takes x next p answer.Failed = inl (took p)

    verify_closes : (x : Verifying) (fault : Option FailedCall) (b : Bool) → StepWrites s call (verifies.closes v s x fault b)
    verify_closes x fault false = inl (λ o. refl)
    verify_closes x fault true = inl (λ o. refl)

    -- a verify changes nothing
    pub verify_writes : (a : VerifyAt) → StepWrites s call (verifies.verify_at a v s)
    verify_writes verify.Open = verify_opens (file_named v.name s.meta.files)
    verify_writes (verify.Take x next) = verify_takes x next (copy_at x.copies next).piece (read_answer (verifies.target_of s (copy_at x.copies next).piece))
    verify_writes (verify.Close x fault) = verify_closes x fault (holds x.opened.file x.opened.cookie s.meta)

  -- ---- writes

  module _ (w : WriteView) (asked : IsAsked (writes.range_of w)) where
    write_opened : (o : meta.Outcome Opened) → StepWrites s (running.Write w) (writes.opens w s o)
    write_opened (Gives o after) = inl (λ o. refl)
    write_opened (Refuses refusal) = inl (λ o. refl)
    write_opened (Waits holder) = tt

    write_locks : (x : WritingView) (next : ℕ) (b : Option (ℕ × Range)) → StepWrites s (running.Write w) (writes.locks_piece w s x next b)
    write_locks x next (Some told) = tt
    write_locks x next None = inl (λ o. refl)

    write_commits : (x : WritingView) (end : ℕ) (came : Sent) (b : Bool) → StepWrites s (running.Write w) (writes.commits_write w s x end came b)
    write_commits x end came true = inl (λ o. refl)
    write_commits x end came false = inl (λ o. refl)

    -- a piece has all its bytes
    pub piece_long : (x : WritingView) (next : ℕ) → HasPieces (writes.range_of w) x → next < length x.pieces → length (writes.bytes_of w (piece_at x.pieces next)) ≡ length_of (piece_at x.pieces next)
    piece_long x next has within =
        let p : Piece = piece_at x.pieces next in
        let in_it = lies (writes.range_of w) x next asked has within in
        let low = in_it.low in
        let high = in_it.high in
        let some = in_it.some in
        let left = length-drop (p.range.start - w.offset) w.bytes in
        length-take-le (length_of p) (drop (p.range.start - w.offset) w.bytes) (omega (arith, low, high, some, left))

    -- a piece that is sent, where it has effect and where it doesn't
    module _ (x : WritingView) (next : ℕ) (at : w.at ≡ write.Send x next) (has : HasPieces (writes.range_of w) x) (within : next < length x.pieces) (there : AreThere s.targets x.opened.layout.components) where
      abbrev p : Piece
      p = piece_at x.pieces next

      abbrev g : ℕ
      g = x.opened.layout.generation

      abbrev piece_effect : Bool
      piece_effect = has_effect (next_fail (target_at s.targets (object_of p).target)) (is_old (target_at s.targets (object_of p).target) (object_of p).number g)

      -- it lands
      pub piece_lands : piece_effect ≡ true → (sends : SendsPiece s (writes.piece_sent w s x p) (running.Write w)) × (sends.piece ≡ p)
      piece_lands e = (
        record {
          asked = w;
          writes = refl;
          writing = x;
          next = next;
          at = at;
          piece = p;
          there = got x.pieces next _ within;
          admitted = effect_new (next_fail (target_at s.targets (object_of p).target)) (is_old (target_at s.targets (object_of p).target) (object_of p).number g) e;
          long = piece_long x next has within;
          new = write_lands s (object_of p) g (object_there (writes.range_of w) x next s.targets asked has within there) e p.offset (writes.bytes_of w p);
        },
        refl,
      )

      -- or nothing changes
      pub piece_stays : piece_effect ≡ false → HoldsStill s (writes.piece_sent w s x p)
      piece_stays e = same_content s (object_of p).target (after_write (target_at s.targets (object_of p).target) (object_of p).number p.offset (writes.bytes_of w p) g) (write_none (target_at s.targets (object_of p).target) (object_of p).number g p.offset (writes.bytes_of w p) e)

      write_sends : Writes s (writes.piece_sent w s x p) (running.Write w)
      write_sends = by piece_effect refl
        where
          by : (b : Bool) → piece_effect ≡ b → Writes s (writes.piece_sent w s x p) (running.Write w)
          by true e = inr (inl (piece_lands e).0)
          by false e = inl (piece_stays e)

    -- a write changes the object of the piece that it sends
    pub write_writes : (a : WriteAt) (place : ℕ) → w.at ≡ a → IsSoundAt a (writes.range_of w) → ((x : WritingView) (next : ℕ) → a ≡ write.Send x next → AreThere s.targets x.opened.layout.components) → StepWrites s (running.Write w) (writes.write_at a w place s)
    write_writes write.Open place at sound there = write_opened (write_opens w.client w.name (writes.range_of w) place s.meta)
    write_writes (write.Lock x next) place at sound there = write_locks x next (blocker s.locks (writes.lock_for w (piece_at x.pieces next)))
    write_writes (write.Send x next) place at sound there = write_sends x next at sound.0 sound.1 (there x next refl)
    write_writes (write.Commit x end came) place at sound there = write_commits x end came (is_there x.opened.file s.meta)
    write_writes write.UnlockAgain place at sound there = inl (λ o. refl)
    write_writes write.Unlock place at sound there = inl (λ o. refl)

  -- ---- truncates

  module _ (t : TruncateView) where
    cut_opened : (o : meta.Outcome Opened) → StepWrites s (running.Truncate t) (cuts.opens_cut t s o)
    cut_opened (Gives o after) = inl (λ o. refl)
    cut_opened (Refuses refusal) = inl (λ o. refl)
    cut_opened (Waits holder) = tt

    cut_locks : (x : CuttingView) (b : Option (ℕ × Range)) → StepWrites s (running.Truncate t) (cuts.locks_tails t s x b)
    cut_locks x (Some told) = tt
    cut_locks x None = inl (λ o. refl)

    cut_commits : (x : CuttingView) (came : Sent) (b : Bool) → StepWrites s (running.Truncate t) (cuts.commits_cut t s x came b)
    cut_commits x sent.All true = inl (λ o. refl)
    cut_commits x (sent.Failed accepted failed) true = inl (λ o. refl)
    cut_commits x (sent.Old accepted step) true = inl (λ o. refl)
    cut_commits x came false = inl (λ o. refl)

    -- a tail that is punched, where it has effect and where it doesn't
    module _ (x : CuttingView) (next : ℕ) (at : t.at ≡ cut.Punch x next) (sound : IsSoundCutAt (cut.Punch x next) t.size) (there : AreThere s.targets x.opened.layout.components) where
      abbrev tail : Tail
      tail = cuts.tail_at x.tails next

      abbrev cut_g : ℕ
      cut_g = x.opened.layout.generation

      abbrev tail_effect : Bool
      tail_effect = has_effect (next_fail (target_at s.targets tail.object.target)) (is_old (target_at s.targets tail.object.target) tail.object.number cut_g)

      -- whose stripe it is
      pub tail_stripe : (stripe : StripeObject) × (slice_get (tail_stripes x.opened.layout t.size) next ≡ Some stripe) × (tail ≡ tail_in t.size stripe)
      tail_stripe =
          let from = got_from (tail_in t.size) (tail_stripes x.opened.layout t.size) next (cuts.tail_at [] 0) (subst (λ (ts : List Tail). next < length ts) sound.0.are sound.1) in
          (from.0, from.1, ap (λ (ts : List Tail). cuts.tail_at ts next) sound.0.are ∙ from.2)

      -- it lands
      pub tail_lands : tail_effect ≡ true → (punches : PunchesTail s (cuts.tail_punched s x tail) (running.Truncate t)) × (punches.asked.size ≡ t.size) × (punches.stripe ≡ tail_stripe.0)
      tail_lands e = (
        record {
          asked = t;
          truncates = refl;
          cutting = x;
          next = next;
          at = at;
          stripe = tail_stripe.0;
          there = tail_stripe.1;
          admitted = subst (λ (k : Tail). is_old (target_at s.targets k.object.target) k.object.number cut_g ≡ false) tail_stripe.2 (effect_new (next_fail (target_at s.targets tail.object.target)) (is_old (target_at s.targets tail.object.target) tail.object.number cut_g) e);
          new = subst (λ (k : Tail). AreCut s (cuts.tail_punched s x tail) k.object k.offset) tail_stripe.2 (punch_lands s tail.object cut_g (tail_there t.size x next s.targets sound.0 sound.1 there) e tail.offset);
        },
        refl,
        refl,
      )

      -- or nothing changes
      pub tail_stays : tail_effect ≡ false → HoldsStill s (cuts.tail_punched s x tail)
      tail_stays e = same_content s tail.object.target (after_punch (target_at s.targets tail.object.target) tail.object.number tail.offset cut_g) (punch_none (target_at s.targets tail.object.target) tail.object.number cut_g tail.offset e)

      cut_punches : Writes s (cuts.tail_punched s x tail) (running.Truncate t)
      cut_punches = by tail_effect refl
        where
          by : (b : Bool) → tail_effect ≡ b → Writes s (cuts.tail_punched s x tail) (running.Truncate t)
          by true e = inr (inr (inl (tail_lands e).0))
          by false e = inl (tail_stays e)

    -- a truncate changes the object of the tail that it punches
    pub truncate_writes : (a : CutAt) (place : ℕ) → t.at ≡ a → IsSoundCutAt a t.size → ((x : CuttingView) (next : ℕ) → a ≡ cut.Punch x next → AreThere s.targets x.opened.layout.components) → StepWrites s (running.Truncate t) (cuts.truncate_at a t place s)
    truncate_writes cut.Open place at sound there = cut_opened (cut_opens t.client t.name t.size place s.meta)
    truncate_writes (cut.Lock x) place at sound there = cut_locks x (cuts.first_blocker (cuts.locks_for t x) s.locks)
    truncate_writes (cut.Punch x next) place at sound there = cut_punches x next at sound (there x next refl)
    truncate_writes (cut.Commit x came) place at sound there = cut_commits x came (is_there x.opened.file s.meta)
    truncate_writes cut.UnlockAgain place at sound there = inl (λ o. refl)
    truncate_writes cut.Unlock place at sound there = inl (λ o. refl)
