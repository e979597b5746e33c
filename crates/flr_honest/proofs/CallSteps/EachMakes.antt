-- What each step of a read, a write, a truncate and a verify makes.
use Rattle.std.proofs.Common.{◌≡◌, ℕ, ◌<◌, List, [], ◌∷◌, length, Option, Some, None, Bool, true, false, refl}
use Rattle.flr_base.specs.declared.reply.Range.{Range}
use Rattle.flr_base.specs.declared.reply.FailedCall.{FailedCall}
use Rattle.mirror_select.specs.declared.types.Piece.{Piece}
use Rattle.mirror_select.specs.declared.types.Tail.{Tail}
use Rattle.object_target.specs.declared.call.CallAnswer.{CallAnswer}
use Rattle.object_target.specs.declared.call.CallAnswer.TheVariants as answer
use Rattle.object_target.specs.Calls.{after_punch, after_read, after_write, read_answer}
use Rattle.object_target.specs.TargetState.{TargetState}
use Rattle.extent_lock.specs.Extents.{blocker}
use Rattle.meta_server.specs.declared.answers.Opened.{Opened}
use Rattle.meta_server.specs.Closing.{confirms, holds, is_there}
use Rattle.meta_server.specs.Files.{File, file_named}
use Rattle.meta_server.specs.Opening.{cut_opens, write_opens}
use Rattle.meta_server.specs.Outcomes.{Gives, Refuses, Waits}
use Rattle.meta_server.specs.Outcomes as meta
use Rattle.call_steps.specs.Pieces.{length_of, object_of, piece_at}
use Rattle.call_steps.specs.Servers.{Servers, target_at, with_target}
use Rattle.client_read.specs.declared.phase.ReadAt.{ReadAt}
use Rattle.client_read.specs.declared.phase.ReadAt.TheVariants as read
use Rattle.client_read.specs.declared.phase.Reading.{Reading}
use Rattle.client_read.specs.Reads as reads
use Rattle.client_read.specs.Views.{ReadView}
use Rattle.client_write.specs.declared.phase.CutAt.{CutAt}
use Rattle.client_write.specs.declared.phase.CutAt.TheVariants as cut
use Rattle.client_write.specs.declared.phase.Sent.{Sent}
use Rattle.client_write.specs.declared.phase.Sent.TheVariants as sent
use Rattle.client_write.specs.declared.phase.WriteAt.{WriteAt}
use Rattle.client_write.specs.declared.phase.WriteAt.TheVariants as write
use Rattle.client_write.specs.Calls.{TruncateView, WriteView}
use Rattle.client_write.specs.Truncates as cuts
use Rattle.client_write.specs.Views.{CuttingView, WritingView}
use Rattle.client_write.specs.Writes as writes
use Rattle.mirror_verify.specs.declared.phase.VerifyAt.{VerifyAt}
use Rattle.mirror_verify.specs.declared.phase.VerifyAt.TheVariants as verify
use Rattle.mirror_verify.specs.declared.phase.Verifying.{Verifying}
use Rattle.mirror_verify.specs.Blocks.{copy_at}
use Rattle.mirror_verify.specs.Verifies as verifies
use Rattle.mirror_verify.specs.Views.{VerifyView}
use Rattle.flr_steps.specs.Traces.{made_by}
use Rattle.flr_sole.proofs.Making.{made_none, made_one}
use Rattle.flr_honest.specs.CallSteps.StepMakes.{cut_makes, punch_entry, put_made, punch_made, read_entry, read_makes, take_made, verify_makes, write_entry, write_makes}
use Rattle.flr_honest.proofs.CallSteps.Making.{Makes}

module _ (place : ℕ) (s : Servers) where
  none : made_by place s.targets s.targets ≡ []
  none = made_none place s.targets

  -- a piece that is read
  pub one_taken : (p : Piece) → (object_of p).target < length s.targets
      → made_by place s.targets (with_target s (object_of p).target (after_read (target_at s.targets (object_of p).target) (object_of p).number p.offset (length_of p))).targets ≡ take_made place s p ∷ []
  one_taken p there =
      let t : TargetState = target_at s.targets (object_of p).target in
      made_one place s.targets (object_of p).target (after_read t (object_of p).number p.offset (length_of p)) (read_entry t (object_of p).number p.offset (length_of p)) there refl

  -- bytes that are written
  pub one_put : (p : Piece) (bytes : List ℕ) (version : ℕ) → (object_of p).target < length s.targets
      → made_by place s.targets (with_target s (object_of p).target (after_write (target_at s.targets (object_of p).target) (object_of p).number p.offset bytes version)).targets ≡ put_made place s p bytes version ∷ []
  one_put p bytes version there =
      let t : TargetState = target_at s.targets (object_of p).target in
      made_one place s.targets (object_of p).target (after_write t (object_of p).number p.offset bytes version) (write_entry t (object_of p).number p.offset bytes version) there refl

  -- ---- a read

  module _ (r : ReadView) where
    read_shares : (f : File) (o : Option ℕ) → Makes place s [] (reads.shares_file r s f o)
    read_shares f (Some byte) = none
    read_shares f None = none

    read_opened : (o : Option File) → Makes place s [] (reads.opens_file r s o)
    read_opened None = none
    read_opened (Some f) = read_shares f (reads.unanswered f.layout r.range [])

    read_locks : (x : Reading) (next : ℕ) (o : Option (ℕ × Range)) → Makes place s [] (reads.locks_piece r s x next o)
    read_locks x next (Some told) = tt
    read_locks x next None = none

    read_takes : (x : Reading) (next : ℕ) (p : Piece) (a : CallAnswer) → (object_of p).target < length s.targets → Makes place s (take_made place s p ∷ []) (reads.takes_piece r s x next p a)
    read_takes x next p answer.Ok there = one_taken p there
    read_takes x next p (answer.Old kept) there = one_taken p there
    read_takes x next p answer.Failed there = one_taken p there

    read_others : (x : Reading) (o : Option ℕ) → Makes place s [] (reads.others_answer r s x o)
    read_others x (Some byte) = none
    read_others x None = none

    read_again : (x : Reading) (b : Bool) → Makes place s [] (reads.looks_again r s x b)
    read_again x false = none
    read_again x true = read_others x (reads.unanswered x.opened.layout r.range (reads.ids_of x.failed))

    read_confirms : (x : Reading) (o : Option ℕ) → Makes place s [] (reads.confirms_read r s x o)
    read_confirms x None = none
    read_confirms x (Some size) = none

    -- each step of a read
    pub read_made : (a : ReadAt) → ((x : Reading) (next : ℕ) → a ≡ read.Take x next → (object_of (piece_at x.pieces next)).target < length s.targets) → Makes place s (read_makes place a s) (reads.read_at a r s)
    read_made read.Open there = read_opened (file_named r.name s.meta.files)
    read_made (read.Lock x next) there = read_locks x next (blocker s.locks (reads.lock_for r (piece_at x.pieces next)))
    read_made (read.Take x next) there = read_takes x next (piece_at x.pieces next) (read_answer (reads.target_of s (piece_at x.pieces next))) (there x next refl)
    read_made (read.Again x) there = read_again x (holds x.opened.file x.opened.cookie s.meta)
    read_made (read.Confirm x) there = read_confirms x (confirms x.opened.file x.opened.cookie s.meta)
    read_made read.UnlockAgain there = none
    read_made read.Unlock there = none

  -- ---- a write

  module _ (w : WriteView) where
    write_opened : (o : meta.Outcome Opened) → Makes place s [] (writes.opens w s o)
    write_opened (Gives o after) = none
    write_opened (Refuses reply) = none
    write_opened (Waits holder) = tt

    write_locks : (x : WritingView) (next : ℕ) (o : Option (ℕ × Range)) → Makes place s [] (writes.locks_piece w s x next o)
    write_locks x next (Some told) = tt
    write_locks x next None = none

    write_commits : (x : WritingView) (end : ℕ) (came : Sent) (b : Bool) → Makes place s [] (writes.commits_write w s x end came b)
    write_commits x end came true = none
    write_commits x end came false = none

    -- each step of a write
    pub write_made : (a : WriteAt) → ((x : WritingView) (next : ℕ) → a ≡ write.Send x next → (object_of (piece_at x.pieces next)).target < length s.targets) → Makes place s (write_makes place w a s) (writes.write_at a w place s)
    write_made write.Open there = write_opened (write_opens w.client w.name (writes.range_of w) place s.meta)
    write_made (write.Lock x next) there = write_locks x next (blocker s.locks (writes.lock_for w (piece_at x.pieces next)))
    write_made (write.Send x next) there = one_put (piece_at x.pieces next) (writes.bytes_of w (piece_at x.pieces next)) x.opened.layout.generation (there x next refl)
    write_made (write.Commit x end came) there = write_commits x end came (is_there x.opened.file s.meta)
    write_made write.UnlockAgain there = none
    write_made write.Unlock there = none

  -- ---- a truncate

  module _ (t : TruncateView) where
    cut_opened : (o : meta.Outcome Opened) → Makes place s [] (cuts.opens_cut t s o)
    cut_opened (Gives o after) = none
    cut_opened (Refuses reply) = none
    cut_opened (Waits holder) = tt

    cut_locks : (x : CuttingView) (o : Option (ℕ × Range)) → Makes place s [] (cuts.locks_tails t s x o)
    cut_locks x (Some told) = tt
    cut_locks x None = none

    cut_commits : (x : CuttingView) (came : Sent) (b : Bool) → Makes place s [] (cuts.commits_cut t s x came b)
    cut_commits x sent.All true = none
    cut_commits x (sent.Failed accepted call) true = none
    cut_commits x (sent.Old accepted step) true = none
    cut_commits x came false = none

    one_punched : (x : CuttingView) (tail : Tail) → tail.object.target < length s.targets → made_by place s.targets (cuts.tail_punched s x tail).targets ≡ punch_made place s tail.object tail.offset x.opened.layout.generation ∷ []
    one_punched x tail there =
        let u : TargetState = target_at s.targets tail.object.target in
        made_one place s.targets tail.object.target (after_punch u tail.object.number tail.offset x.opened.layout.generation) (punch_entry u tail.object.number tail.offset x.opened.layout.generation) there refl

    -- each step of a truncate
    pub cut_made : (a : CutAt) → ((x : CuttingView) (next : ℕ) → a ≡ cut.Punch x next → (cuts.tail_at x.tails next).object.target < length s.targets) → Makes place s (cut_makes place a s) (cuts.truncate_at a t place s)
    cut_made cut.Open there = cut_opened (cut_opens t.client t.name t.size place s.meta)
    cut_made (cut.Lock x) there = cut_locks x (cuts.first_blocker (cuts.locks_for t x) s.locks)
    cut_made (cut.Punch x next) there = one_punched x (cuts.tail_at x.tails next) (there x next refl)
    cut_made (cut.Commit x came) there = cut_commits x came (is_there x.opened.file s.meta)
    cut_made cut.UnlockAgain there = none
    cut_made cut.Unlock there = none

  -- ---- a verify

  module _ (v : VerifyView) where
    verify_opened : (o : Option File) → Makes place s [] (verifies.opens_file v s o)
    verify_opened None = none
    verify_opened (Some f) = none

    verify_takes : (x : Verifying) (next : ℕ) (p : Piece) (a : CallAnswer) → (object_of p).target < length s.targets → Makes place s (take_made place s p ∷ []) (verifies.takes_copy v s x next p a)
    verify_takes x next p answer.Ok there = one_taken p there
    verify_takes x next p (answer.Old kept) there = one_taken p there
    verify_takes x next p answer.Failed there = one_taken p there

    verify_closes : (x : Verifying) (fault : Option FailedCall) (b : Bool) → Makes place s [] (verifies.closes v s x fault b)
    verify_closes x fault false = none
    verify_closes x fault true = none

    -- each step of a verify
    pub verify_made : (a : VerifyAt) → ((x : Verifying) (next : ℕ) → a ≡ verify.Take x next → (object_of (copy_at x.copies next).piece).target < length s.targets) → Makes place s (verify_makes place a s) (verifies.verify_at a v s)
    verify_made verify.Open there = verify_opened (file_named v.name s.meta.files)
    verify_made (verify.Take x next) there = verify_takes x next (copy_at x.copies next).piece (read_answer (verifies.target_of s (copy_at x.copies next).piece)) (there x next refl)
    verify_made (verify.Close x fault) there = verify_closes x fault (holds x.opened.file x.opened.cookie s.meta)
