-- What each step of reads, writes, truncates and verifies leaves of objects that were never made.
use Rattle.std.proofs.Common.{ℕ, Bool, true, false, Option, Some, None, refl}
use Rattle.flr_base.specs.declared.reply.FailedCall.{FailedCall}
use Rattle.flr_base.specs.declared.reply.Range.{Range}
use Rattle.extent_lock.specs.Extents.{blocker}
use Rattle.layout_state.specs.Making.{AreNext}
use Rattle.mirror_select.specs.declared.types.Piece.{Piece}
use Rattle.object_target.specs.declared.call.CallAnswer.{CallAnswer}
use Rattle.object_target.specs.declared.call.CallAnswer.TheVariants as answer
use Rattle.object_target.specs.Calls.{after_read, after_write, read_answer}
use Rattle.meta_server.specs.declared.answers.Opened.{Opened}
use Rattle.meta_server.specs.Closing.{confirms, holds, is_there}
use Rattle.meta_server.specs.Files.{File, file_named}
use Rattle.meta_server.specs.Opening.{cut_opens, write_opens}
use Rattle.meta_server.specs.Outcomes.{Gives, Refuses, Waits}
use Rattle.meta_server.specs.Outcomes as meta
use Rattle.call_steps.specs.Pieces.{length_of, object_of, piece_at}
use Rattle.call_steps.specs.Servers.{Servers}
use Rattle.call_steps.specs.Steps.{Outcome, Going, Fixed, Ended, Answered, Blocked, widen}
use Rattle.client_read.specs.declared.phase.ReadAt.{ReadAt}
use Rattle.client_read.specs.declared.phase.ReadAt.TheVariants as read
use Rattle.client_read.specs.declared.phase.Reading.{Reading}
use Rattle.client_read.specs.Reads as reads
use Rattle.client_read.specs.Views.{ReadView}
use Rattle.client_write.specs.declared.phase.CutAt.{CutAt}
use Rattle.client_write.specs.declared.phase.CutAt.TheVariants as cut
use Rattle.client_write.specs.declared.phase.Sent.{Sent}
use Rattle.client_write.specs.declared.phase.Sent.TheVariants as sent
use Rattle.client_write.specs.declared.phase.WriteAt.{WriteAt}
use Rattle.client_write.specs.declared.phase.WriteAt.TheVariants as write
use Rattle.client_write.specs.Calls.{TruncateView, WriteView}
use Rattle.client_write.specs.Fitting.{IsAsked, IsSoundAt}
use Rattle.client_write.specs.Truncates as cuts
use Rattle.client_write.specs.Views.{CuttingView, WritingView}
use Rattle.client_write.specs.Writes as writes
use Rattle.mirror_verify.specs.declared.phase.VerifyAt.{VerifyAt}
use Rattle.mirror_verify.specs.declared.phase.VerifyAt.TheVariants as verify
use Rattle.mirror_verify.specs.declared.phase.Verifying.{Verifying}
use Rattle.mirror_verify.specs.Blocks.{copy_at}
use Rattle.mirror_verify.specs.Verifies as verifies
use Rattle.mirror_verify.specs.Views.{VerifyView}
use Rattle.flr_numbers.specs.Calls.{write_hand}
use Rattle.flr_numbers.specs.Hands.{Has}
use Rattle.flr_unmade.proofs.Pieces.{written_made}
use Rattle.flr_unmade.proofs.Targets.{Spares, adds_made, adds_none, punch_none, same, write_others}

-- the step of a call, by what it comes to
abbrev pub StepSpares : {C : Type 0} → Servers → Outcome C → Type 0
StepSpares s (Going next after) = Spares s.meta s.targets after.targets
StepSpares s (Fixed next reply takes after) = Spares s.meta s.targets after.targets
StepSpares s (Ended after) = Spares s.meta s.targets after.targets
StepSpares s (Answered reply takes after) = Spares s.meta s.targets after.targets
StepSpares s (Blocked holder) = Unit {0}

pub widened : {C D : Type 0} (f : C → D) (s : Servers) (o : Outcome C) → StepSpares s o → StepSpares s (widen f o)
widened f s (Going next after) h = h
widened f s (Fixed next reply takes after) h = h
widened f s (Ended after) h = h
widened f s (Answered reply takes after) h = h
widened f s (Blocked holder) h = tt

module _ (s : Servers) where
  -- the targets stay
  pub stays : Spares s.meta s.targets s.targets
  stays = same s.meta s.targets

  -- ---- reads

  module _ (r : ReadView) where
    shares_spares : (f : File) (b : Option ℕ) → StepSpares s (reads.shares_file r s f b)
    shares_spares f (Some byte) = stays
    shares_spares f None = stays

    opens_spares : (o : Option File) → StepSpares s (reads.opens_file r s o)
    opens_spares None = stays
    opens_spares (Some f) = shares_spares f (reads.unanswered f.layout r.range _)

    locks_spares : (x : Reading) (next : ℕ) (b : Option (ℕ × Range)) → StepSpares s (reads.locks_piece r s x next b)
    locks_spares x next (Some told) = tt
    locks_spares x next None = stays

    took : (p : Piece) → Spares s.meta s.targets (reads.piece_read s p).targets
    took p = adds_none s.meta s.targets (object_of p).target (after_read (reads.target_of s p) (object_of p).number p.offset (length_of p)) (λ n none. none)

    takes_spares : (x : Reading) (next : ℕ) (p : Piece) (came : CallAnswer) → StepSpares s (reads.takes_piece r s x next p came)
    takes_spares x next p answer.Ok = took p
    takes_spares x next p (answer.Old kept) = took p
    takes_spares x next p answer.Failed = took p

    others_spare : (x : Reading) (o : Option ℕ) → StepSpares s (reads.others_answer r s x o)
    others_spare x (Some byte) = stays
    others_spare x None = stays

    looks_spares : (x : Reading) (b : Bool) → StepSpares s (reads.looks_again r s x b)
    looks_spares x false = stays
    looks_spares x true = others_spare x (reads.unanswered x.opened.layout r.range (reads.ids_of x.failed))

    confirms_spares : (x : Reading) (o : Option ℕ) → StepSpares s (reads.confirms_read r s x o)
    confirms_spares x None = stays
    confirms_spares x (Some size) = stays

    pub read_spares : (a : ReadAt) → StepSpares s (reads.read_at a r s)
    read_spares read.Open = opens_spares (file_named r.name s.meta.files)
    read_spares (read.Lock x next) = locks_spares x next (blocker s.locks (reads.lock_for r (piece_at x.pieces next)))
    read_spares (read.Take x next) = takes_spares x next (piece_at x.pieces next) (read_answer (reads.target_of s (piece_at x.pieces next)))
    read_spares (read.Again x) = looks_spares x (holds x.opened.file x.opened.cookie s.meta)
    read_spares (read.Confirm x) = confirms_spares x (confirms x.opened.file x.opened.cookie s.meta)
    read_spares read.UnlockAgain = stays
    read_spares read.Unlock = stays

  -- ---- writes

  module _ (w : WriteView) where
    write_opens_spares : (o : meta.Outcome Opened) → StepSpares s (writes.opens w s o)
    write_opens_spares (Gives o after) = stays
    write_opens_spares (Refuses answer) = stays
    write_opens_spares (Waits holder) = tt

    write_locks_spares : (x : WritingView) (next : ℕ) (b : Option (ℕ × Range)) → StepSpares s (writes.locks_piece w s x next b)
    write_locks_spares x next (Some told) = tt
    write_locks_spares x next None = stays

    commits_spares : (x : WritingView) (end : ℕ) (came : Sent) (b : Bool) → StepSpares s (writes.commits_write w s x end came b)
    commits_spares x end came true = stays
    commits_spares x end came false = stays

    -- the object that is written to was made
    pub write_spares : (a : WriteAt) (place : ℕ) → AreNext s.meta.nexts → Has w.client s.meta s.locks (write_hand a) → IsAsked (writes.range_of w) → IsSoundAt a (writes.range_of w) → StepSpares s (writes.write_at a w place s)
    write_spares write.Open place next has asked sound = write_opens_spares (write_opens w.client w.name (writes.range_of w) place s.meta)
    write_spares (write.Lock x at) place next has asked sound = write_locks_spares x at (blocker s.locks (writes.lock_for w (piece_at x.pieces at)))
    write_spares (write.Send x at) place next has asked sound =
        let p : Piece = piece_at x.pieces at in
        adds_made s.meta s.targets (object_of p) (after_write (writes.target_of s p) (object_of p).number p.offset (writes.bytes_of w p) x.opened.layout.generation)
        (written_made s.meta (writes.range_of w) x at next (has.opened x.opened refl) asked sound.0 sound.1)
        (λ n apart. write_others (writes.target_of s p) (object_of p).number p.offset (writes.bytes_of w p) x.opened.layout.generation n apart)
    write_spares (write.Commit x end came) place next has asked sound = commits_spares x end came (is_there x.opened.file s.meta)
    write_spares write.UnlockAgain place next has asked sound = stays
    write_spares write.Unlock place next has asked sound = stays

  -- ---- truncates

  module _ (t : TruncateView) where
    cut_opens_spares : (o : meta.Outcome Opened) → StepSpares s (cuts.opens_cut t s o)
    cut_opens_spares (Gives o after) = stays
    cut_opens_spares (Refuses answer) = stays
    cut_opens_spares (Waits holder) = tt

    tails_spare : (x : CuttingView) (b : Option (ℕ × Range)) → StepSpares s (cuts.locks_tails t s x b)
    tails_spare x (Some told) = tt
    tails_spare x None = stays

    cut_commits_spares : (x : CuttingView) (came : Sent) (b : Bool) → StepSpares s (cuts.commits_cut t s x came b)
    cut_commits_spares x sent.All true = stays
    cut_commits_spares x (sent.Failed accepted call) true = stays
    cut_commits_spares x (sent.Old accepted step) true = stays
    cut_commits_spares x came false = stays

    -- no object comes of a punch
    pub truncate_spares : (a : CutAt) (place : ℕ) → StepSpares s (cuts.truncate_at a t place s)
    truncate_spares cut.Open place = cut_opens_spares (cut_opens t.client t.name t.size place s.meta)
    truncate_spares (cut.Lock x) place = tails_spare x (cuts.first_blocker (cuts.locks_for t x) s.locks)
    truncate_spares (cut.Punch x next) place =
        adds_none s.meta s.targets (cuts.tail_at x.tails next).object.target _
        (λ n none. punch_none (cuts.target_of_tail s (cuts.tail_at x.tails next)) (cuts.tail_at x.tails next).object.number (cuts.tail_at x.tails next).offset x.opened.layout.generation n none)
    truncate_spares (cut.Commit x came) place = cut_commits_spares x came (is_there x.opened.file s.meta)
    truncate_spares cut.UnlockAgain place = stays
    truncate_spares cut.Unlock place = stays

  -- ---- verifies

  module _ (v : VerifyView) where
    verify_opens_spares : (o : Option File) → StepSpares s (verifies.opens_file v s o)
    verify_opens_spares None = stays
    verify_opens_spares (Some f) = stays

    compared : (p : Piece) → Spares s.meta s.targets (verifies.copy_read s p).targets
    compared p = adds_none s.meta s.targets (object_of p).target (after_read (verifies.target_of s p) (object_of p).number p.offset (length_of p)) (λ n none. none)

    copy_takes_spares : (x : Verifying) (next : ℕ) (p : Piece) (came : CallAnswer) → StepSpares s (verifies.takes_copy v s x next p came)
    copy_takes_spares x next p answer.Ok = compared p
    copy_takes_spares x next p (answer.Old kept) = compared p
    copy_takes_spares x next p answer.Failed = compared p

    closes_spares : (x : Verifying) (fault : Option FailedCall) (b : Bool) → StepSpares s (verifies.closes v s x fault b)
    closes_spares x fault false = stays
    closes_spares x fault true = stays

    pub verify_spares : (a : VerifyAt) → StepSpares s (verifies.verify_at a v s)
    verify_spares verify.Open = verify_opens_spares (file_named v.name s.meta.files)
    verify_spares (verify.Take x next) = copy_takes_spares x next (copy_at x.copies next).piece (read_answer (verifies.target_of s (copy_at x.copies next).piece))
    verify_spares (verify.Close x fault) = closes_spares x fault (holds x.opened.file x.opened.cookie s.meta)
