-- Reads and verifies leave names and sizes of files.
use Rattle.std.proofs.Common.{ℕ, Bool, true, false, Option, Some, None, [], refl}
use Rattle.flr_base.specs.declared.reply.FailedCall.{FailedCall}
use Rattle.flr_base.specs.declared.reply.Range.{Range}
use Rattle.extent_lock.specs.Extents.{blocker}
use Rattle.mirror_select.specs.declared.types.Piece.{Piece}
use Rattle.object_target.specs.declared.call.CallAnswer.{CallAnswer}
use Rattle.object_target.specs.declared.call.CallAnswer.TheVariants as answer
use Rattle.object_target.specs.Calls.{read_answer}
use Rattle.meta_server.specs.Closing.{confirms, holds}
use Rattle.meta_server.specs.Files.{File, file_named, with_freed, with_share}
use Rattle.call_steps.specs.Pieces.{piece_at}
use Rattle.call_steps.specs.Servers.{Servers}
use Rattle.client_read.specs.declared.phase.ReadAt.{ReadAt}
use Rattle.client_read.specs.declared.phase.ReadAt.TheVariants as read
use Rattle.client_read.specs.declared.phase.Reading.{Reading}
use Rattle.client_read.specs.Reads as reads
use Rattle.client_read.specs.Reads.{confirms_read, ids_of, looks_again, opens_file, others_answer, read_at, shares_file, takes_piece, unanswered}
use Rattle.client_read.specs.Views.{ReadView}
use Rattle.mirror_verify.specs.declared.phase.VerifyAt.{VerifyAt}
use Rattle.mirror_verify.specs.declared.phase.VerifyAt.TheVariants as verify
use Rattle.mirror_verify.specs.declared.phase.Verifying.{Verifying}
use Rattle.mirror_verify.specs.Blocks.{copy_at}
use Rattle.mirror_verify.specs.Verifies as verifies
use Rattle.mirror_verify.specs.Verifies.{closes, takes_copy, verify_at}
use Rattle.mirror_verify.specs.Views.{VerifyView}
use Rattle.flr_behind.proofs.Steps.{OnMeta}
use Rattle.flr_honest.proofs.Stores.Outcomes.{AreAlike}
use Rattle.flr_honest.proofs.Stores.Sizing.{changed_alike}

module _ (s : Servers) where
  -- ---- reads

  module _ (r : ReadView) where
    read_shares : (f : File) (o : Option ℕ) → OnMeta (AreAlike s.meta) (shares_file r s f o)
    read_shares f (Some byte) = refl
    read_shares f None = changed_alike f.number (with_share r.client) s.meta.files (λ x. refl)

    read_opens : (o : Option File) → OnMeta (AreAlike s.meta) (opens_file r s o)
    read_opens None = refl
    read_opens (Some f) = read_shares f (unanswered f.layout r.range [])

    read_locks : (x : Reading) (next : ℕ) (b : Option (ℕ × Range)) → OnMeta (AreAlike s.meta) (reads.locks_piece r s x next b)
    read_locks x next (Some told) = tt
    read_locks x next None = refl

    read_takes : (x : Reading) (next : ℕ) (p : Piece) (k : CallAnswer) → OnMeta (AreAlike s.meta) (takes_piece r s x next p k)
    read_takes x next p answer.Ok = refl
    read_takes x next p (answer.Old kept) = refl
    read_takes x next p answer.Failed = refl

    read_others : (x : Reading) (o : Option ℕ) → OnMeta (AreAlike s.meta) (others_answer r s x o)
    read_others x (Some byte) = changed_alike x.opened.file (with_freed x.opened.cookie) s.meta.files (λ y. refl)
    read_others x None = refl

    read_again : (x : Reading) (b : Bool) → OnMeta (AreAlike s.meta) (looks_again r s x b)
    read_again x false = refl
    read_again x true = read_others x (unanswered x.opened.layout r.range (ids_of x.failed))

    read_confirms : (x : Reading) (o : Option ℕ) → OnMeta (AreAlike s.meta) (confirms_read r s x o)
    read_confirms x None = refl
    read_confirms x (Some size) = changed_alike x.opened.file (with_freed x.opened.cookie) s.meta.files (λ y. refl)

    -- each step of a read
    pub read_alike : (a : ReadAt) → OnMeta (AreAlike s.meta) (read_at a r s)
    read_alike read.Open = read_opens (file_named r.name s.meta.files)
    read_alike (read.Lock x next) = read_locks x next (blocker s.locks (reads.lock_for r (piece_at x.pieces next)))
    read_alike (read.Take x next) = read_takes x next (piece_at x.pieces next) (read_answer (reads.target_of s (piece_at x.pieces next)))
    read_alike (read.Again x) = read_again x (holds x.opened.file x.opened.cookie s.meta)
    read_alike (read.Confirm x) = read_confirms x (confirms x.opened.file x.opened.cookie s.meta)
    read_alike read.UnlockAgain = refl
    read_alike read.Unlock = refl

  -- ---- verifies

  module _ (v : VerifyView) where
    verify_opens : (o : Option File) → OnMeta (AreAlike s.meta) (verifies.opens_file v s o)
    verify_opens None = refl
    verify_opens (Some f) = changed_alike f.number (with_share v.client) s.meta.files (λ x. refl)

    verify_takes : (x : Verifying) (next : ℕ) (p : Piece) (k : CallAnswer) → OnMeta (AreAlike s.meta) (takes_copy v s x next p k)
    verify_takes x next p answer.Ok = refl
    verify_takes x next p (answer.Old kept) = refl
    verify_takes x next p answer.Failed = refl

    verify_closes : (x : Verifying) (fault : Option FailedCall) (b : Bool) → OnMeta (AreAlike s.meta) (closes v s x fault b)
    verify_closes x fault false = refl
    verify_closes x fault true = changed_alike x.opened.file (with_freed x.opened.cookie) s.meta.files (λ y. refl)

    -- each step of a verify
    pub verify_alike : (a : VerifyAt) → OnMeta (AreAlike s.meta) (verify_at a v s)
    verify_alike verify.Open = verify_opens (file_named v.name s.meta.files)
    verify_alike (verify.Take x next) = verify_takes x next (copy_at x.copies next).piece (read_answer (verifies.target_of s (copy_at x.copies next).piece))
    verify_alike (verify.Close x fault) = verify_closes x fault (holds x.opened.file x.opened.cookie s.meta)
