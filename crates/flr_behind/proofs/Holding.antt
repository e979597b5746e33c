-- What each call still knows of its file after its own step.
use Rattle.std.proofs.Common.{◌≡◌, ℕ, ◌+◌, Bool, true, false, cond, nat_eq, nat_lt, Option, Some, None, IfSome, [], length, refl}
use Rattle.std.specs.Prelude.{unwrap_or}
use Rattle.flr_base.specs.declared.reply.FailedCall.{FailedCall}
use Rattle.flr_base.specs.declared.reply.Range.{Range}
use Rattle.composite_layout.specs.Layouts.{eof}
use Rattle.mirror_select.specs.declared.types.Piece.{Piece}
use Rattle.mirror_select.specs.Pieces.{pieces_of}
use Rattle.object_target.specs.declared.call.CallAnswer.{CallAnswer}
use Rattle.object_target.specs.declared.call.CallAnswer.TheVariants as answer
use Rattle.object_target.specs.Calls.{read_answer}
use Rattle.extent_lock.specs.Extents.{blocker}
use Rattle.meta_server.specs.declared.answers.Opened.{Opened}
use Rattle.meta_server.specs.Closing.{confirms, holds, is_there, last_eviction}
use Rattle.meta_server.specs.Files.{File, file_named}
use Rattle.flr_base.specs.Limits.{most_bytes}
use Rattle.meta_server.specs.Opening.{cut_opens, opened, write_opens}
use Rattle.meta_server.specs.Outcomes.{Gives, Refuses, Waits}
use Rattle.meta_server.specs.Outcomes as meta
use Rattle.meta_server.specs.Sound.{IsSound}
use Rattle.call_steps.specs.Pieces.{piece_at}
use Rattle.call_steps.specs.Servers.{Servers}
use Rattle.call_steps.specs.Steps.{Outcome, Going, Fixed, Ended, Answered, Blocked}
use Rattle.client_read.specs.declared.phase.ReadAt.{ReadAt}
use Rattle.client_read.specs.declared.phase.ReadAt.TheVariants as read
use Rattle.client_read.specs.declared.phase.Reading.{Reading}
use Rattle.client_read.specs.Pieces.{next_object}
use Rattle.client_read.specs.Reads.{confirms_read, ids_of, looks_again, opens_file, others_answer, read_at, reading, shares_file, takes_piece, unanswered, with_answer}
use Rattle.client_read.specs.Reads as reads
use Rattle.client_read.specs.Views.{ReadView}
use Rattle.client_write.specs.declared.phase.Came.{Came}
use Rattle.client_write.specs.declared.phase.Came.TheVariants as came
use Rattle.client_write.specs.declared.phase.CutAt.{CutAt}
use Rattle.client_write.specs.declared.phase.CutAt.TheVariants as cut
use Rattle.client_write.specs.declared.phase.Sent.{Sent}
use Rattle.client_write.specs.declared.phase.Sent.TheVariants as sent
use Rattle.client_write.specs.declared.phase.WriteAt.{WriteAt}
use Rattle.client_write.specs.declared.phase.WriteAt.TheVariants as write
use Rattle.client_write.specs.Calls.{TruncateView, WriteView}
use Rattle.client_write.specs.Truncates.{after_punches, came_of_tail, commits_cut, cut_ends_old, first_blocker, locks_for, locks_tails, opens_cut, punches_from, tail_at, truncate_at}
use Rattle.client_write.specs.Views.{CuttingView, WritingView}
use Rattle.client_write.specs.Writes.{after_send, came_of_piece, commits_to, commits_write, ends_old, opens, range_of, sends_from, write_at}
use Rattle.client_write.specs.Writes as writes
use Rattle.mirror_verify.specs.declared.phase.VerifyAt.{VerifyAt}
use Rattle.mirror_verify.specs.declared.phase.VerifyAt.TheVariants as verify
use Rattle.mirror_verify.specs.declared.phase.Verifying.{Verifying}
use Rattle.mirror_verify.specs.Blocks.{copies_of, copy_at}
use Rattle.mirror_verify.specs.Blocks as blocks
use Rattle.mirror_verify.specs.Verifies.{closes, takes_copy, verify_at, verifying}
use Rattle.mirror_verify.specs.Verifies as verifies
use Rattle.mirror_verify.specs.Views.{VerifyView}
use Rattle.flr_numbers.specs.Calls.{cut_hand, read_hand, verify_hand, write_hand}
use Rattle.flr_steps.specs.declared.client.Running.{Running}
use Rattle.flr_steps.specs.declared.client.Running.TheVariants as running
use Rattle.flr_behind.specs.Sentences.{IsKnown, IsWritten, Knows}
use Rattle.flr_behind.proofs.Opening.{OpensKnown, opens_known, read_known}

-- where a call goes on it knows its file, as the metadata server is then
abbrev pub OnKnows : {C : Type 0} → (C → Running) → Outcome C → Type 0
OnKnows f (Going next after) = Knows after.meta (f next)
OnKnows f (Fixed next reply takes after) = Knows after.meta (f next)
OnKnows f (Ended after) = Unit {0}
OnKnows f (Answered reply takes after) = Unit {0}
OnKnows f (Blocked holder) = Unit {0}

-- ---- reads

-- the read has that file open, or none
abbrev ReadsOn : (Opened → Type 0) → ReadAt → Type 0
ReadsOn K at = IfSome (read_hand at).opened K

takes_on : (K : Opened → Type 0) (x : Reading) (next : ℕ) → K x.opened → ReadsOn K (reads.takes_from x next)
takes_on K x next k = by (nat_lt next (length x.pieces))
  where
    by : (b : Bool) → ReadsOn K (cond b (read.Take x next) (read.Confirm x))
    by true = k
    by false = k

locks_on : (K : Opened → Type 0) (x : Reading) (next : ℕ) → K x.opened → ReadsOn K (reads.locks_from x next)
locks_on K x next k = by (nat_lt next (length x.pieces))
  where
    by : (b : Bool) → ReadsOn K (cond b (read.Lock x next) (reads.takes_from x (next_object x.pieces 0)))
    by true = k
    by false = takes_on K x (next_object x.pieces 0) k

module _ (r : ReadView) (s : Servers) (h : IsSound s.meta) where
  read_shares : (f : File) (o : Option ℕ) → file_named r.name s.meta.files ≡ Some f → OnKnows running.Read (shares_file r s f o)
  read_shares f (Some byte) e = tt
  read_shares f None e =
      let pieces = pieces_of f.layout.components r.range [] in
      locks_on (IsKnown _ r.name) (reading r.range (opened r.client f) [] pieces) (next_object pieces 0) (read_known s.meta h r.name f e r.client)

  read_opens : (o : Option File) → file_named r.name s.meta.files ≡ o → OnKnows running.Read (opens_file r s o)
  read_opens None e = tt
  read_opens (Some f) e = read_shares f (unanswered f.layout r.range []) e

  read_locks : (x : Reading) (next : ℕ) (o : Option (ℕ × Range)) → IsKnown s.meta r.name x.opened → OnKnows running.Read (reads.locks_piece r s x next o)
  read_locks x next (Some told) k = tt
  read_locks x next None k = locks_on (IsKnown s.meta r.name) x (next_object x.pieces (next + 1)) k

  read_takes : (x : Reading) (next : ℕ) (p : Piece) (a : CallAnswer) → IsKnown s.meta r.name x.opened → OnKnows running.Read (takes_piece r s x next p a)
  read_takes x next p answer.Ok k = takes_on (IsKnown s.meta r.name) (with_answer s x next p) (next_object x.pieces (next + 1)) k
  read_takes x next p (answer.Old kept) k = k
  read_takes x next p answer.Failed k = k

  read_others : (x : Reading) (o : Option ℕ) → IsKnown s.meta r.name x.opened → OnKnows running.Read (others_answer r s x o)
  read_others x (Some byte) k = tt
  read_others x None k =
      let pieces = pieces_of x.opened.layout.components r.range (ids_of x.failed) in
      locks_on (IsKnown s.meta r.name) (reading r.range x.opened x.failed pieces) (next_object pieces 0) k

  read_looks : (x : Reading) (b : Bool) → IsKnown s.meta r.name x.opened → OnKnows running.Read (looks_again r s x b)
  read_looks x false k = tt
  read_looks x true k = read_others x (unanswered x.opened.layout r.range (ids_of x.failed)) k

  read_ends : (x : Reading) (o : Option ℕ) → OnKnows running.Read (confirms_read r s x o)
  read_ends x None = tt
  read_ends x (Some size) = tt

  pub read_knows : (at : ReadAt) → ReadsOn (IsKnown s.meta r.name) at → OnKnows running.Read (read_at at r s)
  read_knows read.Open k = read_opens (file_named r.name s.meta.files) refl
  read_knows (read.Lock x next) k = read_locks x next (blocker s.locks (reads.lock_for r (piece_at x.pieces next))) k
  read_knows (read.Take x next) k = read_takes x next (piece_at x.pieces next) (read_answer (reads.target_of s (piece_at x.pieces next))) k
  read_knows (read.Again x) k = read_looks x (holds x.opened.file x.opened.cookie s.meta) k
  read_knows (read.Confirm x) k = read_ends x (confirms x.opened.file x.opened.cookie s.meta)
  read_knows read.UnlockAgain k = tt
  read_knows read.Unlock k = tt

-- ---- verifies

copies_on : (K : Opened → Type 0) (x : Verifying) (next : ℕ) → K x.opened → IfSome (verify_hand (verifies.takes_from x next)).opened K
copies_on K x next k = by (nat_lt next (length x.copies))
  where
    by : (b : Bool) → IfSome (verify_hand (cond b (verify.Take x next) (verify.Close x None))).opened K
    by true = k
    by false = k

module _ (v : VerifyView) (s : Servers) (h : IsSound s.meta) where
  verify_opens : (o : Option File) → file_named v.name s.meta.files ≡ o → OnKnows running.Verify (verifies.opens_file v s o)
  verify_opens None e = tt
  verify_opens (Some f) e =
      let copies = copies_of f.layout.components f.size in
      copies_on (IsKnown _ v.name) (verifying (opened v.client f) copies) (blocks.next_object copies 0) (read_known s.meta h v.name f e v.client)

  verify_takes : (x : Verifying) (next : ℕ) (p : Piece) (a : CallAnswer) → IsKnown s.meta v.name x.opened → OnKnows running.Verify (takes_copy v s x next p a)
  verify_takes x next p answer.Ok k = copies_on (IsKnown s.meta v.name) (verifies.with_answer s x next) (blocks.next_object x.copies (next + 1)) k
  verify_takes x next p (answer.Old kept) k = k
  verify_takes x next p answer.Failed k = k

  verify_ends : (x : Verifying) (fault : Option FailedCall) (b : Bool) → OnKnows running.Verify (closes v s x fault b)
  verify_ends x fault false = tt
  verify_ends x fault true = tt

  pub verify_knows : (at : VerifyAt) → IfSome (verify_hand at).opened (IsKnown s.meta v.name) → OnKnows running.Verify (verify_at at v s)
  verify_knows verify.Open k = verify_opens (file_named v.name s.meta.files) refl
  verify_knows (verify.Take x next) k = verify_takes x next (copy_at x.copies next).piece (read_answer (verifies.target_of s (copy_at x.copies next).piece)) k
  verify_knows (verify.Close x fault) k = verify_ends x fault (holds x.opened.file x.opened.cookie s.meta)

-- ---- writes

module _ (w : WriteView) (s : Servers) (h : IsSound s.meta) where
  -- the write has that file open, or none
  abbrev WritesOn : WriteAt → Type 0
  WritesOn at = IfSome (write_hand at).opened (IsWritten s.meta w.name)

  write_opened : (o : meta.Outcome Opened) → OpensKnown w.name o → OnKnows running.Write (opens w s o)
  write_opened (Gives o after) k = k
  write_opened (Refuses reply) k = tt
  write_opened (Waits holder) k = tt

  module _ (x : WritingView) (k : IsWritten s.meta w.name x.opened) where
    locks_next : (next : ℕ) → WritesOn (writes.locks_from x next)
    locks_next next = by (nat_lt next (length x.pieces))
      where
        by : (b : Bool) → WritesOn (cond b (write.Lock x next) (write.Send x 0))
        by true = k
        by false = k

    sends_next : (next : ℕ) → WritesOn (sends_from w x next)
    sends_next next = by (nat_lt next (length x.pieces))
      where
        by : (b : Bool) → WritesOn (cond b (write.Send x next) (commits_to w x sent.All))
        by true = k
        by false = k

    old_next : (evicted : Option ℕ) (next : ℕ) → WritesOn (ends_old w evicted x next)
    old_next evicted next = by (nat_eq next 0)
      where
        by : (b : Bool) → WritesOn (cond b write.UnlockAgain (commits_to w x (sent.Old next (unwrap_or evicted 0))))
        by true = tt
        by false = k

    sent_next : (evicted : Option ℕ) (next : ℕ) (came : Came) → WritesOn (after_send w evicted x next came)
    sent_next evicted next came.Accepted = sends_next (next + 1)
    sent_next evicted next came.TooOld = old_next evicted next
    sent_next evicted next (came.Failed call) = k

    write_locks : (next : ℕ) (o : Option (ℕ × Range)) → OnKnows running.Write (writes.locks_piece w s x next o)
    write_locks next (Some told) = tt
    write_locks next None = locks_next (next + 1)

  write_commits : (x : WritingView) (end : ℕ) (came : Sent) (b : Bool) → OnKnows running.Write (commits_write w s x end came b)
  write_commits x end came true = tt
  write_commits x end came false = tt

  pub write_knows : (at : WriteAt) (place : ℕ) → WritesOn at → OnKnows running.Write (write_at at w place s)
  write_knows write.Open place k = write_opened (write_opens w.client w.name (range_of w) place s.meta) (opens_known s.meta h w.client w.name (range_of w) place (nat_lt most_bytes (range_of w).end))
  write_knows (write.Lock x next) place k = write_locks x k next (blocker s.locks (writes.lock_for w (piece_at x.pieces next)))
  write_knows (write.Send x next) place k = sent_next x k (last_eviction w.client s.meta) next (came_of_piece s x (piece_at x.pieces next))
  write_knows (write.Commit x end came) place k = write_commits x end came (is_there x.opened.file s.meta)
  write_knows write.UnlockAgain place k = tt
  write_knows write.Unlock place k = tt

-- ---- truncates

module _ (t : TruncateView) (s : Servers) (h : IsSound s.meta) where
  -- the truncate has that file open, or none
  abbrev CutsOn : CutAt → Type 0
  CutsOn at = IfSome (cut_hand at).opened (IsWritten s.meta t.name)

  cut_opened : (o : meta.Outcome Opened) → OpensKnown t.name o → OnKnows running.Truncate (opens_cut t s o)
  cut_opened (Gives o after) k = k
  cut_opened (Refuses reply) k = tt
  cut_opened (Waits holder) k = tt

  module _ (x : CuttingView) (k : IsWritten s.meta t.name x.opened) where
    punches_next : (next : ℕ) → CutsOn (punches_from x next)
    punches_next next = by (nat_lt next (length x.tails))
      where
        by : (b : Bool) → CutsOn (cond b (cut.Punch x next) (cut.Commit x sent.All))
        by true = k
        by false = k

    old_punch : (evicted : Option ℕ) (next : ℕ) → CutsOn (cut_ends_old evicted x next)
    old_punch evicted next = by (nat_eq next 0)
      where
        by : (b : Bool) → CutsOn (cond b cut.UnlockAgain (cut.Commit x (sent.Old next (unwrap_or evicted 0))))
        by true = tt
        by false = k

    punched_next : (evicted : Option ℕ) (next : ℕ) (came : Came) → CutsOn (after_punches evicted x next came)
    punched_next evicted next came.Accepted = punches_next (next + 1)
    punched_next evicted next came.TooOld = old_punch evicted next
    punched_next evicted next (came.Failed call) = k

    cut_locks : (o : Option (ℕ × Range)) → OnKnows running.Truncate (locks_tails t s x o)
    cut_locks (Some told) = tt
    cut_locks None = punches_next 0

  cut_commits : (x : CuttingView) (came : Sent) (b : Bool) → OnKnows running.Truncate (commits_cut t s x came b)
  cut_commits x came true = tt
  cut_commits x came false = tt

  pub truncate_knows : (at : CutAt) (place : ℕ) → CutsOn at → OnKnows running.Truncate (truncate_at at t place s)
  truncate_knows cut.Open place k = cut_opened (cut_opens t.client t.name t.size place s.meta) (opens_known s.meta h t.client t.name (record { start = t.size; end = eof }) place (nat_lt most_bytes t.size))
  truncate_knows (cut.Lock x) place k = cut_locks x k (first_blocker (locks_for t x) s.locks)
  truncate_knows (cut.Punch x next) place k = punched_next x k (last_eviction t.client s.meta) next (came_of_tail s x (tail_at x.tails next))
  truncate_knows (cut.Commit x came) place k = cut_commits x came (is_there x.opened.file s.meta)
  truncate_knows cut.UnlockAgain place k = tt
  truncate_knows cut.Unlock place k = tt
