-- The steps of reads, of writes and of truncates: the answer is fixed once, and then the call ends.
use Rattle.std.proofs.Common.{◌≡◌, ℕ, ◌+◌, Bool, true, false, nat_eq, nat_lt, Option, Some, None, List, [], length, refl}
use Rattle.std.proofs.lemmas.Bool.{cond_both}
use Rattle.flr_base.specs.declared.reply.Range.{Range}
use Rattle.mirror_select.specs.declared.types.Piece.{Piece}
use Rattle.mirror_select.specs.Pieces.{pieces_of}
use Rattle.object_target.specs.Calls.{read_answer}
use Rattle.object_target.specs.declared.call.CallAnswer.{CallAnswer}
use Rattle.object_target.specs.declared.call.CallAnswer.TheVariants as answer
use Rattle.extent_lock.specs.Extents.{blocker}
use Rattle.meta_server.specs.declared.answers.Opened.{Opened}
use Rattle.meta_server.specs.Closing.{confirms, holds, is_there, last_eviction}
use Rattle.meta_server.specs.Files.{File, file_named}
use Rattle.meta_server.specs.Opening.{cut_opens, opened, write_opens}
use Rattle.meta_server.specs.Outcomes.{Gives, Refuses, Waits}
use Rattle.meta_server.specs.Outcomes as meta
use Rattle.call_steps.specs.Pieces.{piece_at}
use Rattle.call_steps.specs.Servers.{Servers}
use Rattle.call_steps.specs.Steps.{Outcome}
use Rattle.client_read.specs.declared.phase.FailedTake.{FailedTake}
use Rattle.client_read.specs.declared.phase.ReadAt.{ReadAt}
use Rattle.client_read.specs.declared.phase.ReadAt.TheVariants as read_at
use Rattle.client_read.specs.declared.phase.Reading.{Reading}
use Rattle.client_read.specs.Pieces.{next_object}
use Rattle.client_read.specs.Reads as read
use Rattle.client_read.specs.Views.{ReadView}
use Rattle.client_write.specs.Calls.{TruncateView, WriteView}
use Rattle.client_write.specs.declared.phase.Came.{Came}
use Rattle.client_write.specs.declared.phase.Came.TheVariants as came
use Rattle.client_write.specs.declared.phase.CutAt.{CutAt}
use Rattle.client_write.specs.declared.phase.CutAt.TheVariants as cut_at
use Rattle.client_write.specs.declared.phase.Sent.{Sent}
use Rattle.client_write.specs.declared.phase.WriteAt.{WriteAt}
use Rattle.client_write.specs.declared.phase.WriteAt.TheVariants as write_at
use Rattle.client_write.specs.Truncates as cut
use Rattle.client_write.specs.Views.{CuttingView, WritingView}
use Rattle.client_write.specs.Writes as write
use Rattle.flr_past.specs.Phases.{cut_is_fixed, read_is_fixed, write_is_fixed}
use Rattle.flr_past.proofs.Outcomes.{Once}

-- ---- reads

-- what comes next in a read whose answer is open
abbrev ReadOpen : ReadAt → Type 0
ReadOpen at = read_is_fixed at ≡ false

read_takes : (x : Reading) (next : ℕ) → ReadOpen (read.takes_from x next)
read_takes x next = cond_both (nat_lt next (length x.pieces)) _ _ ReadOpen (λ _. refl) (λ _. refl)

read_locks : (x : Reading) (next : ℕ) → ReadOpen (read.locks_from x next)
read_locks x next = cond_both (nat_lt next (length x.pieces)) _ _ ReadOpen (λ _. refl) (λ _. read_takes x (next_object x.pieces 0))

abbrev ReadOnce : Bool → Outcome ReadView → Type 0
ReadOnce b o = Once (λ (x : ReadView). read_is_fixed x.at) b o

module _ (r : ReadView) (s : Servers) where
  read_begins : (o : Opened) (failed : List FailedTake) → ReadOpen (read.begins_with r o failed).at
  read_begins o failed = let pieces = pieces_of o.layout.components r.range (read.ids_of failed) in read_locks (read.reading r.range o failed pieces) (next_object pieces 0)

  read_by_byte : (f : File) (o : Option ℕ) → ReadOnce false (read.shares_file r s f o)
  read_by_byte f (Some byte) = tt
  read_by_byte f None = read_begins (opened r.client f) []

  read_by_file : (o : Option File) → ReadOnce false (read.opens_file r s o)
  read_by_file None = tt
  read_by_file (Some f) = read_by_byte f (read.unanswered f.layout r.range [])

  read_by_lock : (x : Reading) (next : ℕ) (o : Option (ℕ × Range)) → ReadOnce false (read.locks_piece r s x next o)
  read_by_lock x next (Some told) = tt
  read_by_lock x next None = read_locks x (next_object x.pieces (next + 1))

  read_by_answer : (x : Reading) (next : ℕ) (p : Piece) (a : CallAnswer) → ReadOnce false (read.takes_piece r s x next p a)
  read_by_answer x next p answer.Ok = read_takes (read.with_answer s x next p) (next_object x.pieces (next + 1))
  read_by_answer x next p (answer.Old kept) = refl
  read_by_answer x next p answer.Failed = refl

  read_by_others : (x : Reading) (o : Option ℕ) → ReadOnce false (read.others_answer r s x o)
  read_by_others x (Some byte) = tt
  read_by_others x None = read_begins x.opened x.failed

  read_by_cookie : (x : Reading) (b : Bool) → ReadOnce false (read.looks_again r s x b)
  read_by_cookie x false = refl
  read_by_cookie x true = read_by_others x (read.unanswered x.opened.layout r.range (read.ids_of x.failed))

  read_by_size : (x : Reading) (o : Option ℕ) → ReadOnce false (read.confirms_read r s x o)
  read_by_size x None = refl
  read_by_size x (Some size) = refl

  pub read_once : (at : ReadAt) → ReadOnce (read_is_fixed at) (read.read_at at r s)
  read_once read_at.Open = read_by_file (file_named r.name s.meta.files)
  read_once (read_at.Lock x next) = read_by_lock x next (blocker s.locks (read.lock_for r (piece_at x.pieces next)))
  read_once (read_at.Take x next) = read_by_answer x next (piece_at x.pieces next) (read_answer (read.target_of s (piece_at x.pieces next)))
  read_once (read_at.Again x) = read_by_cookie x (holds x.opened.file x.opened.cookie s.meta)
  read_once (read_at.Confirm x) = read_by_size x (confirms x.opened.file x.opened.cookie s.meta)
  read_once read_at.UnlockAgain = refl
  read_once read_at.Unlock = tt

-- ---- writes

-- what comes next in a write whose answer is open
abbrev WriteOpen : WriteAt → Type 0
WriteOpen at = write_is_fixed at ≡ false

abbrev WriteOnce : Bool → Outcome WriteView → Type 0
WriteOnce b o = Once (λ (x : WriteView). write_is_fixed x.at) b o

module _ (w : WriteView) (place : ℕ) (s : Servers) where
  write_by_open : (o : meta.Outcome Opened) → WriteOnce false (write.opens w s o)
  write_by_open (Gives given after) = refl
  write_by_open (Refuses reply) = tt
  write_by_open (Waits holder) = tt

  write_locks : (x : WritingView) (next : ℕ) → WriteOpen (write.locks_from x next)
  write_locks x next = cond_both (nat_lt next (length x.pieces)) _ _ WriteOpen (λ _. refl) (λ _. refl)

  write_by_lock : (x : WritingView) (next : ℕ) (o : Option (ℕ × Range)) → WriteOnce false (write.locks_piece w s x next o)
  write_by_lock x next (Some told) = tt
  write_by_lock x next None = write_locks x (next + 1)

  write_sends : (x : WritingView) (next : ℕ) → WriteOpen (write.sends_from w x next)
  write_sends x next = cond_both (nat_lt next (length x.pieces)) _ _ WriteOpen (λ _. refl) (λ _. refl)

  write_by_answer : (evicted : Option ℕ) (x : WritingView) (next : ℕ) (a : Came) → WriteOpen (write.after_send w evicted x next a)
  write_by_answer evicted x next came.Accepted = write_sends x (next + 1)
  write_by_answer evicted x next came.TooOld = cond_both (nat_eq next 0) _ _ WriteOpen (λ _. refl) (λ _. refl)
  write_by_answer evicted x next (came.Failed call) = refl

  write_by_file : (x : WritingView) (end : ℕ) (sent : Sent) (b : Bool) → WriteOnce false (write.commits_write w s x end sent b)
  write_by_file x end sent true = refl
  write_by_file x end sent false = refl

  pub write_once : (at : WriteAt) → WriteOnce (write_is_fixed at) (write.write_at at w place s)
  write_once write_at.Open = write_by_open (write_opens w.client w.name (write.range_of w) place s.meta)
  write_once (write_at.Lock x next) = write_by_lock x next (blocker s.locks (write.lock_for w (piece_at x.pieces next)))
  write_once (write_at.Send x next) = write_by_answer (last_eviction w.client s.meta) x next (write.came_of_piece s x (piece_at x.pieces next))
  write_once (write_at.Commit x end sent) = write_by_file x end sent (is_there x.opened.file s.meta)
  write_once write_at.UnlockAgain = refl
  write_once write_at.Unlock = tt

-- ---- truncates

-- what comes next in a truncate whose answer is open
abbrev CutOpen : CutAt → Type 0
CutOpen at = cut_is_fixed at ≡ false

abbrev CutOnce : Bool → Outcome TruncateView → Type 0
CutOnce b o = Once (λ (x : TruncateView). cut_is_fixed x.at) b o

cut_punches : (x : CuttingView) (next : ℕ) → CutOpen (cut.punches_from x next)
cut_punches x next = cond_both (nat_lt next (length x.tails)) _ _ CutOpen (λ _. refl) (λ _. refl)

module _ (t : TruncateView) (place : ℕ) (s : Servers) where
  cut_by_open : (o : meta.Outcome Opened) → CutOnce false (cut.opens_cut t s o)
  cut_by_open (Gives given after) = refl
  cut_by_open (Refuses reply) = tt
  cut_by_open (Waits holder) = tt

  cut_by_lock : (x : CuttingView) (o : Option (ℕ × Range)) → CutOnce false (cut.locks_tails t s x o)
  cut_by_lock x (Some told) = tt
  cut_by_lock x None = cut_punches x 0

  cut_by_answer : (evicted : Option ℕ) (x : CuttingView) (next : ℕ) (a : Came) → CutOpen (cut.after_punches evicted x next a)
  cut_by_answer evicted x next came.Accepted = cut_punches x (next + 1)
  cut_by_answer evicted x next came.TooOld = cond_both (nat_eq next 0) _ _ CutOpen (λ _. refl) (λ _. refl)
  cut_by_answer evicted x next (came.Failed call) = refl

  cut_by_file : (x : CuttingView) (sent : Sent) (b : Bool) → CutOnce false (cut.commits_cut t s x sent b)
  cut_by_file x sent true = refl
  cut_by_file x sent false = refl

  pub cut_once : (at : CutAt) → CutOnce (cut_is_fixed at) (cut.truncate_at at t place s)
  cut_once cut_at.Open = cut_by_open (cut_opens t.client t.name t.size place s.meta)
  cut_once (cut_at.Lock x) = cut_by_lock x (cut.first_blocker (cut.locks_for t x) s.locks)
  cut_once (cut_at.Punch x next) = cut_by_answer (last_eviction t.client s.meta) x next (cut.came_of_tail s x (cut.tail_at x.tails next))
  cut_once (cut_at.Commit x sent) = cut_by_file x sent (is_there x.opened.file s.meta)
  cut_once cut_at.UnlockAgain = refl
  cut_once cut_at.Unlock = tt
