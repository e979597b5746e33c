-- The steps of reads and of verifies.
use Rattle.std.proofs.Common.{◌≡◌, ℕ, Bool, true, false, Option, Some, None, [], ◌∷◌, ◌++◌, refl, sym, ap}
use Rattle.flr_base.specs.declared.reply.FailedCall.{FailedCall}
use Rattle.flr_base.specs.declared.reply.Range.{Range}
use Rattle.mirror_select.specs.declared.types.Piece.{Piece}
use Rattle.object_target.specs.declared.call.CallAnswer.{CallAnswer}
use Rattle.object_target.specs.declared.call.CallAnswer.TheVariants as answer
use Rattle.object_target.specs.Calls.{after_read, read_answer}
use Rattle.extent_lock.specs.Extents.{blocker, locks_but}
use Rattle.meta_server.specs.Closing.{confirms, frees, holds}
use Rattle.meta_server.specs.Files.{File, file_named, with_change, with_share}
use Rattle.meta_server.specs.Opening.{read_opens_file}
use Rattle.meta_laws.specs.Calls.{Free, OpenRead, left_by}
use Rattle.call_steps.specs.Pieces.{length_of, object_of, piece_at}
use Rattle.call_steps.specs.Servers.{Servers}
use Rattle.client_read.specs.declared.phase.ReadAt.{ReadAt}
use Rattle.client_read.specs.declared.phase.ReadAt.TheVariants as at
use Rattle.client_read.specs.declared.phase.Reading.{Reading}
use Rattle.client_read.specs.Reads.{confirms_read, ids_of, lock_for, locks_piece, looks_again, opens_file, others_answer, piece_read, read_at, read_step, shares_file, takes_piece, target_of, unanswered}
use Rattle.client_read.specs.Views.{ReadView}
use Rattle.mirror_verify.specs.declared.phase.VerifyAt.{VerifyAt}
use Rattle.mirror_verify.specs.declared.phase.VerifyAt.TheVariants as verify
use Rattle.mirror_verify.specs.declared.phase.Verifying.{Verifying}
use Rattle.mirror_verify.specs.Blocks.{copy_at}
use Rattle.mirror_verify.specs.Verifies.{closes, takes_copy, verify_at, verify_step}
use Rattle.mirror_verify.specs.Verifies as verifies
use Rattle.mirror_verify.specs.Views.{VerifyView}
use Rattle.flr_honest.proofs.OnlyAnswers.Rising.Outcomes.{Does, OnLeft, called, called_meta, unchanged}

-- ---- reads

module _ (r : ReadView) (s : Servers) where
  shares : (f : File) (o : Option ℕ) → file_named r.name s.meta.files ≡ Some f → OnLeft (Does 0 s) (shares_file r s f o)
  shares f (Some byte) e = unchanged s 0 s.locks
  shares f None e = called_meta s (OpenRead r.client r.name) (with_change f.number (with_share r.client) s.meta) s.locks (sym (ap (λ (o : Option File). left_by (read_opens_file r.client r.name s.meta o) s.meta) e))

  opens : (o : Option File) → file_named r.name s.meta.files ≡ o → OnLeft (Does 0 s) (opens_file r s o)
  opens None e = unchanged s 0 s.locks
  opens (Some f) e = shares f (unanswered f.layout r.range []) e

  locks : (x : Reading) (next : ℕ) (o : Option (ℕ × Range)) → OnLeft (Does 0 s) (locks_piece r s x next o)
  locks x next (Some told) = tt
  locks x next None = unchanged s 0 (s.locks ++ lock_for r (piece_at x.pieces next) ∷ [])

  read_piece : (p : Piece) → Does 0 s (piece_read s p)
  read_piece p = called s (object_of p).target (after_read (target_of s p) (object_of p).number p.offset (length_of p)) _ refl refl

  takes : (x : Reading) (next : ℕ) (p : Piece) (a : CallAnswer) → OnLeft (Does 0 s) (takes_piece r s x next p a)
  takes x next p answer.Ok = read_piece p
  takes x next p (answer.Old kept) = read_piece p
  takes x next p answer.Failed = read_piece p

  others : (x : Reading) (o : Option ℕ) → OnLeft (Does 0 s) (others_answer r s x o)
  others x (Some byte) = called_meta s (Free x.opened.file x.opened.cookie) (frees x.opened.file x.opened.cookie s.meta) (locks_but r.client s.locks) refl
  others x None = unchanged s 0 (locks_but r.client s.locks)

  looks : (x : Reading) (b : Bool) → OnLeft (Does 0 s) (looks_again r s x b)
  looks x false = unchanged s 0 (locks_but r.client s.locks)
  looks x true = others x (unanswered x.opened.layout r.range (ids_of x.failed))

  ends : (x : Reading) (o : Option ℕ) → OnLeft (Does 0 s) (confirms_read r s x o)
  ends x None = unchanged s 0 s.locks
  ends x (Some size) = called_meta s (Free x.opened.file x.opened.cookie) (frees x.opened.file x.opened.cookie s.meta) s.locks refl

  by_phase : (at : ReadAt) → OnLeft (Does 0 s) (read_at at r s)
  by_phase at.Open = opens (file_named r.name s.meta.files) refl
  by_phase (at.Lock x next) = locks x next (blocker s.locks (lock_for r (piece_at x.pieces next)))
  by_phase (at.Take x next) = takes x next (piece_at x.pieces next) (read_answer (target_of s (piece_at x.pieces next)))
  by_phase (at.Again x) = looks x (holds x.opened.file x.opened.cookie s.meta)
  by_phase (at.Confirm x) = ends x (confirms x.opened.file x.opened.cookie s.meta)
  by_phase at.UnlockAgain = unchanged s 0 (locks_but r.client s.locks)
  by_phase at.Unlock = unchanged s 0 (locks_but r.client s.locks)

pub read_does : (r : ReadView) (place : ℕ) (s : Servers) → OnLeft (Does 0 s) (read_step r place s)
read_does r place s = by_phase r s r.at

-- ---- verifies

module _ (v : VerifyView) (s : Servers) where
  verify_opens : (o : Option File) → file_named v.name s.meta.files ≡ o → OnLeft (Does 0 s) (verifies.opens_file v s o)
  verify_opens None e = unchanged s 0 s.locks
  verify_opens (Some f) e = called_meta s (OpenRead v.client v.name) (with_change f.number (with_share v.client) s.meta) s.locks (sym (ap (λ (o : Option File). left_by (read_opens_file v.client v.name s.meta o) s.meta) e))

  read_copy : (p : Piece) → Does 0 s (verifies.copy_read s p)
  read_copy p = called s (object_of p).target (after_read (verifies.target_of s p) (object_of p).number p.offset (length_of p)) _ refl refl

  verify_takes : (x : Verifying) (next : ℕ) (p : Piece) (a : CallAnswer) → OnLeft (Does 0 s) (takes_copy v s x next p a)
  verify_takes x next p answer.Ok = read_copy p
  verify_takes x next p (answer.Old kept) = read_copy p
  verify_takes x next p answer.Failed = read_copy p

  verify_ends : (x : Verifying) (fault : Option FailedCall) (b : Bool) → OnLeft (Does 0 s) (closes v s x fault b)
  verify_ends x fault false = unchanged s 0 s.locks
  verify_ends x fault true = called_meta s (Free x.opened.file x.opened.cookie) (frees x.opened.file x.opened.cookie s.meta) s.locks refl

  verify_phase : (at : VerifyAt) → OnLeft (Does 0 s) (verify_at at v s)
  verify_phase verify.Open = verify_opens (file_named v.name s.meta.files) refl
  verify_phase (verify.Take x next) = verify_takes x next (copy_at x.copies next).piece (read_answer (verifies.target_of s (copy_at x.copies next).piece))
  verify_phase (verify.Close x fault) = verify_ends x fault (holds x.opened.file x.opened.cookie s.meta)

pub verify_does : (v : VerifyView) (place : ℕ) (s : Servers) → OnLeft (Does 0 s) (verify_step v place s)
verify_does v place s = verify_phase v s v.at
