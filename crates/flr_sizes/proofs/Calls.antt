-- How long files are after each step of a read, a write, a truncate or a verify.
use Rattle.std.proofs.Common.{◌≡◌, ℕ, ◌≤◌, Bool, true, false, Option, Some, None, [], refl, sym, ap, arith}
use Rattle.flr_base.specs.declared.reply.FailedCall.{FailedCall}
use Rattle.flr_base.specs.declared.reply.Range.{Range}
use Rattle.extent_lock.specs.Extents.{blocker}
use Rattle.mirror_select.specs.declared.types.Piece.{Piece}
use Rattle.object_target.specs.declared.call.CallAnswer.{CallAnswer}
use Rattle.object_target.specs.declared.call.CallAnswer.TheVariants as answer
use Rattle.object_target.specs.Calls.{read_answer}
use Rattle.meta_server.specs.declared.answers.Opened.{Opened}
use Rattle.meta_server.specs.Closing.{commits, confirms, cuts, holds, is_there}
use Rattle.meta_server.specs.Files.{File, file_named}
use Rattle.flr_base.specs.Limits.{most_bytes}
use Rattle.meta_server.specs.Opening.{cut_opens, write_opens}
use Rattle.meta_server.specs.Outcomes.{Gives, Refuses, Waits}
use Rattle.meta_server.specs.Outcomes as meta
use Rattle.meta_laws.specs.Calls.{Commit, Cut, OpenCut, OpenWrite, left_by}
use Rattle.call_steps.specs.Pieces.{piece_at}
use Rattle.call_steps.specs.Servers.{Servers}
use Rattle.client_read.specs.declared.phase.ReadAt.{ReadAt}
use Rattle.client_read.specs.declared.phase.ReadAt.TheVariants as read
use Rattle.client_read.specs.declared.phase.Reading.{Reading}
use Rattle.client_read.specs.Reads as reads
use Rattle.client_read.specs.Reads.{confirms_read, ids_of, looks_again, opens_file, others_answer, read_at, shares_file, takes_piece, unanswered}
use Rattle.client_read.specs.Views.{ReadView}
use Rattle.client_write.specs.declared.phase.CutAt.{CutAt}
use Rattle.client_write.specs.declared.phase.CutAt.TheVariants as cut
use Rattle.client_write.specs.declared.phase.Sent.{Sent}
use Rattle.client_write.specs.declared.phase.Sent.TheVariants as sent
use Rattle.client_write.specs.declared.phase.WriteAt.{WriteAt}
use Rattle.client_write.specs.declared.phase.WriteAt.TheVariants as write
use Rattle.client_write.specs.Calls.{TruncateView, WriteView}
use Rattle.client_write.specs.CutFitting.{HasTails, IsSoundCutAt}
use Rattle.client_write.specs.Fitting.{HasPieces, IsAsked, IsSoundAt, IsSoundSent}
use Rattle.client_write.specs.Truncates.{commits_cut, cut_committed, first_blocker, locks_for, locks_tails, opens_cut, truncate_at}
use Rattle.client_write.specs.Views.{CuttingView, WritingView}
use Rattle.client_write.specs.Writes as writes
use Rattle.client_write.specs.Writes.{commits_write, end_of, opens, range_of, write_at}
use Rattle.client_write.proofs.Writable.{lies}
use Rattle.mirror_verify.specs.declared.phase.VerifyAt.{VerifyAt}
use Rattle.mirror_verify.specs.declared.phase.VerifyAt.TheVariants as verify
use Rattle.mirror_verify.specs.declared.phase.Verifying.{Verifying}
use Rattle.mirror_verify.specs.Blocks.{copy_at}
use Rattle.mirror_verify.specs.Verifies as verifies
use Rattle.mirror_verify.specs.Verifies.{closes, takes_copy, verify_at}
use Rattle.mirror_verify.specs.Views.{VerifyView}
use Rattle.flr_sizes.specs.Laws.{AreShort}
use Rattle.flr_sizes.proofs.Files.{freed_short, share_short}
use Rattle.flr_sizes.proofs.Leading.{Comes, by_call}

-- nothing is asked of the call that goes on
abbrev pub Any : {C : Type 0} → C → Type 0
Any x = Unit {0}

-- ---- reads

module _ (most : ℕ) (r : ReadView) (s : Servers) (h : AreShort most s.meta.files) where
  read_shares : (f : File) (o : Option ℕ) → Comes most Any (shares_file r s f o)
  read_shares f (Some byte) = h
  read_shares f None = (tt, share_short most f.number r.client s.meta.files h)

  read_opens : (o : Option File) → Comes most Any (opens_file r s o)
  read_opens None = h
  read_opens (Some f) = read_shares f (unanswered f.layout r.range [])

  read_locks : (x : Reading) (next : ℕ) (b : Option (ℕ × Range)) → Comes most Any (reads.locks_piece r s x next b)
  read_locks x next (Some told) = tt
  read_locks x next None = (tt, h)

  read_takes : (x : Reading) (next : ℕ) (p : Piece) (k : CallAnswer) → Comes most Any (takes_piece r s x next p k)
  read_takes x next p answer.Ok = (tt, h)
  read_takes x next p (answer.Old kept) = (tt, h)
  read_takes x next p answer.Failed = (tt, h)

  read_others : (x : Reading) (o : Option ℕ) → Comes most Any (others_answer r s x o)
  read_others x (Some byte) = freed_short most x.opened.file x.opened.cookie s.meta.files h
  read_others x None = (tt, h)

  read_again : (x : Reading) (b : Bool) → Comes most Any (looks_again r s x b)
  read_again x false = (tt, h)
  read_again x true = read_others x (unanswered x.opened.layout r.range (ids_of x.failed))

  read_confirms : (x : Reading) (o : Option ℕ) → Comes most Any (confirms_read r s x o)
  read_confirms x None = (tt, h)
  read_confirms x (Some size) = (tt, freed_short most x.opened.file x.opened.cookie s.meta.files h)

  pub read_comes : (a : ReadAt) → Comes most Any (read_at a r s)
  read_comes read.Open = read_opens (file_named r.name s.meta.files)
  read_comes (read.Lock x next) = read_locks x next (blocker s.locks (reads.lock_for r (piece_at x.pieces next)))
  read_comes (read.Take x next) = read_takes x next (piece_at x.pieces next) (read_answer (reads.target_of s (piece_at x.pieces next)))
  read_comes (read.Again x) = read_again x (holds x.opened.file x.opened.cookie s.meta)
  read_comes (read.Confirm x) = read_confirms x (confirms x.opened.file x.opened.cookie s.meta)
  read_comes read.UnlockAgain = (tt, h)
  read_comes read.Unlock = h

-- ---- verifies

module _ (most : ℕ) (v : VerifyView) (s : Servers) (h : AreShort most s.meta.files) where
  verify_opens : (o : Option File) → Comes most Any (verifies.opens_file v s o)
  verify_opens None = h
  verify_opens (Some f) = (tt, share_short most f.number v.client s.meta.files h)

  verify_takes : (x : Verifying) (next : ℕ) (p : Piece) (k : CallAnswer) → Comes most Any (takes_copy v s x next p k)
  verify_takes x next p answer.Ok = (tt, h)
  verify_takes x next p (answer.Old kept) = (tt, h)
  verify_takes x next p answer.Failed = (tt, h)

  verify_closes : (x : Verifying) (fault : Option FailedCall) (b : Bool) → Comes most Any (closes v s x fault b)
  verify_closes x fault false = (tt, h)
  verify_closes x fault true = freed_short most x.opened.file x.opened.cookie s.meta.files h

  pub verify_comes : (a : VerifyAt) → Comes most Any (verify_at a v s)
  verify_comes verify.Open = verify_opens (file_named v.name s.meta.files)
  verify_comes (verify.Take x next) = verify_takes x next (copy_at x.copies next).piece (read_answer (verifies.target_of s (copy_at x.copies next).piece))
  verify_comes (verify.Close x fault) = verify_closes x fault (holds x.opened.file x.opened.cookie s.meta)

-- ---- writes

-- a write ends within its range
end_low : (range : Range) (x : WritingView) (came : Sent) → IsAsked range → HasPieces range x → IsSoundSent x came → end_of range x came ≤ range.end
end_low range x sent.All asked has sound = omega arith
end_low range x (sent.Failed accepted call) asked has sound = let w = lies range x accepted asked has sound in omega (arith, w.high)
end_low range x (sent.Old accepted step) asked has sound = let w = lies range x accepted asked has sound.1 in omega (arith, w.some, w.high)

-- a write asks for no byte from this one on
abbrev pub EndsBelow : ℕ → WriteView → Type 0
EndsBelow cap w = (range_of w).end ≤ cap

-- nor does a truncate leave one
abbrev pub CutsBelow : ℕ → TruncateView → Type 0
CutsBelow cap t = t.size ≤ cap

module _ (cap most : ℕ) (both : (n : ℕ) → n ≤ cap → n ≤ most_bytes → n ≤ most) where
  module _ (w : WriteView) (s : Servers) (place : ℕ) (low : EndsBelow cap w) (h : AreShort most s.meta.files) where
    write_opens_by : (o : meta.Outcome Opened) → write_opens w.client w.name (range_of w) place s.meta ≡ o → Comes most (EndsBelow cap) (opens w s o)
    write_opens_by (Gives o after) e = (low, by_call most (OpenWrite w.client w.name (range_of w) place) s.meta after (sym (ap (λ (o : meta.Outcome Opened). left_by o s.meta) e)) tt h)
    write_opens_by (Refuses answer) e = h
    write_opens_by (Waits holder) e = tt

    write_locks : (x : WritingView) (next : ℕ) (b : Option (ℕ × Range)) → Comes most (EndsBelow cap) (writes.locks_piece w s x next b)
    write_locks x next (Some told) = tt
    write_locks x next None = (low, h)

    write_commits : (x : WritingView) (end : ℕ) (k : Sent) (b : Bool) → end ≤ most → Comes most (EndsBelow cap) (commits_write w s x end k b)
    write_commits x end k true ends = (low, by_call most (Commit x.opened.file x.opened.cookie end) s.meta (commits x.opened.file x.opened.cookie end s.meta) refl ends h)
    write_commits x end k false ends = (low, h)

    pub write_comes : (a : WriteAt) → IsAsked (range_of w) → IsSoundAt a (range_of w) → Comes most (EndsBelow cap) (write_at a w place s)
    write_comes write.Open asked sound = write_opens_by (write_opens w.client w.name (range_of w) place s.meta) refl
    write_comes (write.Lock x next) asked sound = write_locks x next (blocker s.locks (writes.lock_for w (piece_at x.pieces next)))
    write_comes (write.Send x next) asked sound = (low, h)
    write_comes (write.Commit x end k) asked sound =
        let inside : end_of (range_of w) x k ≤ (range_of w).end = end_low (range_of w) x k asked sound.0 sound.1 in
        let below : (range_of w).end ≤ most_bytes = sound.0.below in
        let is : end ≡ end_of (range_of w) x k = sound.2 in
        write_commits x end k (is_there x.opened.file s.meta) (both end (omega (arith, inside, low, is)) (omega (arith, inside, below, is)))
    write_comes write.UnlockAgain asked sound = (low, h)
    write_comes write.Unlock asked sound = h

  -- ---- truncates

  module _ (t : TruncateView) (s : Servers) (place : ℕ) (low : CutsBelow cap t) (h : AreShort most s.meta.files) where
    cut_opens_by : (o : meta.Outcome Opened) → cut_opens t.client t.name t.size place s.meta ≡ o → Comes most (CutsBelow cap) (opens_cut t s o)
    cut_opens_by (Gives o after) e = (low, by_call most (OpenCut t.client t.name t.size place) s.meta after (sym (ap (λ (o : meta.Outcome Opened). left_by o s.meta) e)) tt h)
    cut_opens_by (Refuses answer) e = h
    cut_opens_by (Waits holder) e = tt

    cut_locks : (x : CuttingView) (b : Option (ℕ × Range)) → Comes most (CutsBelow cap) (locks_tails t s x b)
    cut_locks x (Some told) = tt
    cut_locks x None = (low, h)

    cut_short : (x : CuttingView) (k : Sent) → HasTails t.size x → AreShort most (cut_committed t s x k).meta.files
    cut_short x sent.All has = by_call most (Cut x.opened.file x.opened.cookie t.size) s.meta (cuts x.opened.file x.opened.cookie t.size s.meta) refl (both t.size low has.below) h
    cut_short x (sent.Failed accepted call) has = by_call most (Commit x.opened.file x.opened.cookie 0) s.meta (commits x.opened.file x.opened.cookie 0 s.meta) refl (omega arith) h
    cut_short x (sent.Old accepted step) has = by_call most (Commit x.opened.file x.opened.cookie 0) s.meta (commits x.opened.file x.opened.cookie 0 s.meta) refl (omega arith) h

    cut_commits : (x : CuttingView) (k : Sent) (b : Bool) → HasTails t.size x → Comes most (CutsBelow cap) (commits_cut t s x k b)
    cut_commits x k true has = (low, cut_short x k has)
    cut_commits x k false has = (low, h)

    pub truncate_comes : (a : CutAt) → IsSoundCutAt a t.size → Comes most (CutsBelow cap) (truncate_at a t place s)
    truncate_comes cut.Open sound = cut_opens_by (cut_opens t.client t.name t.size place s.meta) refl
    truncate_comes (cut.Lock x) sound = cut_locks x (first_blocker (locks_for t x) s.locks)
    truncate_comes (cut.Punch x next) sound = (low, h)
    truncate_comes (cut.Commit x k) sound = cut_commits x k (is_there x.opened.file s.meta) sound.0
    truncate_comes cut.UnlockAgain sound = (low, h)
    truncate_comes cut.Unlock sound = h
