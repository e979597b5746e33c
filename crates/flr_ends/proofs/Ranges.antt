-- A read and a write stay with their bytes of the file.
use Rattle.std.proofs.Common.{◌≡◌, ℕ, Bool, true, false, Option, Some, None, [], refl}
use Rattle.flr_base.specs.declared.reply.Range.{Range}
use Rattle.mirror_select.specs.declared.types.Piece.{Piece}
use Rattle.object_target.specs.declared.call.CallAnswer.{CallAnswer}
use Rattle.object_target.specs.declared.call.CallAnswer.TheVariants as answer
use Rattle.object_target.specs.Calls.{read_answer}
use Rattle.extent_lock.specs.Extents.{blocker}
use Rattle.meta_server.specs.declared.answers.Opened.{Opened}
use Rattle.meta_server.specs.Closing.{confirms, holds, is_there}
use Rattle.meta_server.specs.Files.{File, file_named}
use Rattle.meta_server.specs.Opening.{write_opens}
use Rattle.meta_server.specs.Outcomes.{Gives, Refuses, Waits}
use Rattle.meta_server.specs.Outcomes as meta
use Rattle.call_steps.specs.Pieces.{piece_at}
use Rattle.call_steps.specs.Servers.{Servers}
use Rattle.client_read.specs.declared.phase.ReadAt.{ReadAt}
use Rattle.client_read.specs.declared.phase.ReadAt.TheVariants as read
use Rattle.client_read.specs.declared.phase.Reading.{Reading}
use Rattle.client_read.specs.Reads as reads
use Rattle.client_read.specs.Reads.{read_at, read_step}
use Rattle.client_read.specs.Views.{ReadView}
use Rattle.client_write.specs.declared.phase.Sent.{Sent}
use Rattle.client_write.specs.declared.phase.WriteAt.{WriteAt}
use Rattle.client_write.specs.declared.phase.WriteAt.TheVariants as write
use Rattle.client_write.specs.Calls.{WriteView}
use Rattle.client_write.specs.Views.{WritingView}
use Rattle.client_write.specs.Writes as writes
use Rattle.client_write.specs.Writes.{range_of, write_at, write_step}
use Rattle.flr_bound.proofs.Outcomes.{OnNext}

module _ (r : ReadView) (s : Servers) where
  abbrev SameRead : ReadView → Type 0
  SameRead x = x.range ≡ r.range

  shares : (f : File) (o : Option ℕ) → OnNext SameRead (reads.shares_file r s f o)
  shares f (Some byte) = tt
  shares f None = refl

  opens : (o : Option File) → OnNext SameRead (reads.opens_file r s o)
  opens None = tt
  opens (Some f) = shares f (reads.unanswered f.layout r.range [])

  locks : (x : Reading) (next : ℕ) (o : Option (ℕ × Range)) → OnNext SameRead (reads.locks_piece r s x next o)
  locks x next (Some told) = tt
  locks x next None = refl

  takes : (x : Reading) (next : ℕ) (p : Piece) (a : CallAnswer) → OnNext SameRead (reads.takes_piece r s x next p a)
  takes x next p answer.Ok = refl
  takes x next p (answer.Old kept) = refl
  takes x next p answer.Failed = refl

  others : (x : Reading) (o : Option ℕ) → OnNext SameRead (reads.others_answer r s x o)
  others x (Some byte) = tt
  others x None = refl

  looks : (x : Reading) (b : Bool) → OnNext SameRead (reads.looks_again r s x b)
  looks x false = refl
  looks x true = others x (reads.unanswered x.opened.layout r.range (reads.ids_of x.failed))

  ends : (x : Reading) (o : Option ℕ) → OnNext SameRead (reads.confirms_read r s x o)
  ends x None = refl
  ends x (Some size) = refl

  by_phase : (at : ReadAt) → OnNext SameRead (read_at at r s)
  by_phase read.Open = opens (file_named r.name s.meta.files)
  by_phase (read.Lock x next) = locks x next (blocker s.locks (reads.lock_for r (piece_at x.pieces next)))
  by_phase (read.Take x next) = takes x next (piece_at x.pieces next) (read_answer (reads.target_of s (piece_at x.pieces next)))
  by_phase (read.Again x) = looks x (holds x.opened.file x.opened.cookie s.meta)
  by_phase (read.Confirm x) = ends x (confirms x.opened.file x.opened.cookie s.meta)
  by_phase read.UnlockAgain = refl
  by_phase read.Unlock = tt

pub read_range : (r : ReadView) (place : ℕ) (s : Servers) → OnNext (λ (x : ReadView). x.range ≡ r.range) (read_step r place s)
read_range r place s = by_phase r s r.at

module _ (w : WriteView) (place : ℕ) (s : Servers) where
  abbrev SameWrite : WriteView → Type 0
  SameWrite x = range_of x ≡ range_of w

  write_begins : (o : meta.Outcome Opened) → OnNext SameWrite (writes.opens w s o)
  write_begins (Gives opened after) = refl
  write_begins (Refuses reply) = tt
  write_begins (Waits holder) = tt

  write_locks : (x : WritingView) (next : ℕ) (o : Option (ℕ × Range)) → OnNext SameWrite (writes.locks_piece w s x next o)
  write_locks x next (Some told) = tt
  write_locks x next None = refl

  write_commits : (x : WritingView) (end : ℕ) (came : Sent) (b : Bool) → OnNext SameWrite (writes.commits_write w s x end came b)
  write_commits x end came true = refl
  write_commits x end came false = refl

  write_phase : (at : WriteAt) → OnNext SameWrite (write_at at w place s)
  write_phase write.Open = write_begins (write_opens w.client w.name (range_of w) place s.meta)
  write_phase (write.Lock x next) = write_locks x next (blocker s.locks (writes.lock_for w (piece_at x.pieces next)))
  write_phase (write.Send x next) = refl
  write_phase (write.Commit x end came) = write_commits x end came (is_there x.opened.file s.meta)
  write_phase write.UnlockAgain = refl
  write_phase write.Unlock = tt

pub write_range : (w : WriteView) (place : ℕ) (s : Servers) → OnNext (λ (x : WriteView). range_of x ≡ range_of w) (write_step w place s)
write_range w place s = write_phase w place s w.at
