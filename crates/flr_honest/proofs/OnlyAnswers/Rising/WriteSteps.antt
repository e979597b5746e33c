-- The steps of writes and of truncates.
use Rattle.std.proofs.Common.{◌≡◌, ℕ, Bool, true, false, Option, Some, None, [], ◌∷◌, ◌++◌, refl, sym, ap}
use Rattle.flr_base.specs.declared.reply.Range.{Range}
use Rattle.mirror_select.specs.declared.types.Piece.{Piece}
use Rattle.mirror_select.specs.declared.types.Tail.{Tail}
use Rattle.object_target.specs.Calls.{after_punch, after_write}
use Rattle.extent_lock.specs.Extents.{blocker, locks_but}
use Rattle.meta_server.specs.declared.answers.Opened.{Opened}
use Rattle.meta_server.specs.Closing.{commits, cuts, is_there}
use Rattle.meta_server.specs.Opening.{cut_opens, write_opens}
use Rattle.meta_server.specs.Outcomes.{Gives, Refuses, Waits}
use Rattle.meta_server.specs.Outcomes as meta
use Rattle.meta_laws.specs.Calls.{Commit, Cut, OpenCut, OpenWrite, left_by}
use Rattle.call_steps.specs.Pieces.{object_of, piece_at}
use Rattle.call_steps.specs.Servers.{Servers}
use Rattle.client_write.specs.declared.phase.CutAt.{CutAt}
use Rattle.client_write.specs.declared.phase.CutAt.TheVariants as cut
use Rattle.client_write.specs.declared.phase.Sent.{Sent}
use Rattle.client_write.specs.declared.phase.Sent.TheVariants as sent
use Rattle.client_write.specs.declared.phase.WriteAt.{WriteAt}
use Rattle.client_write.specs.declared.phase.WriteAt.TheVariants as at
use Rattle.client_write.specs.Calls.{TruncateView, WriteView}
use Rattle.client_write.specs.Truncates.{commits_cut, cut_committed, first_blocker, locks_for, locks_tails, opens_cut, tail_at, tail_punched, target_of_tail, truncate_at, truncate_step}
use Rattle.client_write.specs.Views.{CuttingView, WritingView}
use Rattle.client_write.specs.Writes.{bytes_of, commits_write, lock_for, locks_piece, opens, piece_sent, range_of, target_of, write_at, write_step}
use Rattle.flr_honest.proofs.OnlyAnswers.Rising.Outcomes.{Does, OnLeft, called, called_meta, unchanged}

-- ---- writes

module _ (w : WriteView) (place : ℕ) (s : Servers) where
  opened_by : (o : meta.Outcome Opened) → write_opens w.client w.name (range_of w) place s.meta ≡ o → OnLeft (Does 0 s) (opens w s o)
  opened_by (Gives opened after) e = called_meta s (OpenWrite w.client w.name (range_of w) place) after s.locks (sym (ap (λ (o : meta.Outcome Opened). left_by o s.meta) e))
  opened_by (Refuses reply) e = unchanged s 0 s.locks
  opened_by (Waits holder) e = tt

  locks : (x : WritingView) (next : ℕ) (o : Option (ℕ × Range)) → OnLeft (Does 0 s) (locks_piece w s x next o)
  locks x next (Some told) = tt
  locks x next None = unchanged s 0 (s.locks ++ lock_for w (piece_at x.pieces next) ∷ [])

  sends : (x : WritingView) (p : Piece) → Does 0 s (piece_sent w s x p)
  sends x p = called s (object_of p).target (after_write (target_of s p) (object_of p).number p.offset (bytes_of w p) x.opened.layout.generation) _ refl refl

  commits_by : (x : WritingView) (end : ℕ) (came : Sent) (b : Bool) → OnLeft (Does 0 s) (commits_write w s x end came b)
  commits_by x end came true = called_meta s (Commit x.opened.file x.opened.cookie end) (commits x.opened.file x.opened.cookie end s.meta) s.locks refl
  commits_by x end came false = unchanged s 0 s.locks

  by_phase : (at : WriteAt) → OnLeft (Does 0 s) (write_at at w place s)
  by_phase at.Open = opened_by (write_opens w.client w.name (range_of w) place s.meta) refl
  by_phase (at.Lock x next) = locks x next (blocker s.locks (lock_for w (piece_at x.pieces next)))
  by_phase (at.Send x next) = sends x (piece_at x.pieces next)
  by_phase (at.Commit x end came) = commits_by x end came (is_there x.opened.file s.meta)
  by_phase at.UnlockAgain = unchanged s 0 (locks_but w.client s.locks)
  by_phase at.Unlock = unchanged s 0 (locks_but w.client s.locks)

pub write_does : (w : WriteView) (place : ℕ) (s : Servers) → OnLeft (Does 0 s) (write_step w place s)
write_does w place s = by_phase w place s w.at

-- ---- truncates

module _ (t : TruncateView) (place : ℕ) (s : Servers) where
  cut_by : (o : meta.Outcome Opened) → cut_opens t.client t.name t.size place s.meta ≡ o → OnLeft (Does 0 s) (opens_cut t s o)
  cut_by (Gives opened after) e = called_meta s (OpenCut t.client t.name t.size place) after s.locks (sym (ap (λ (o : meta.Outcome Opened). left_by o s.meta) e))
  cut_by (Refuses reply) e = unchanged s 0 s.locks
  cut_by (Waits holder) e = tt

  cut_locks : (x : CuttingView) (o : Option (ℕ × Range)) → OnLeft (Does 0 s) (locks_tails t s x o)
  cut_locks x (Some told) = tt
  cut_locks x None = unchanged s 0 (s.locks ++ locks_for t x)

  punches : (x : CuttingView) (tail : Tail) → Does 0 s (tail_punched s x tail)
  punches x tail = called s tail.object.target (after_punch (target_of_tail s tail) tail.object.number tail.offset x.opened.layout.generation) _ refl refl

  committed : (x : CuttingView) (came : Sent) → Does 0 s (cut_committed t s x came)
  committed x sent.All = called_meta s (Cut x.opened.file x.opened.cookie t.size) (cuts x.opened.file x.opened.cookie t.size s.meta) s.locks refl
  committed x (sent.Failed accepted call) = called_meta s (Commit x.opened.file x.opened.cookie 0) (commits x.opened.file x.opened.cookie 0 s.meta) s.locks refl
  committed x (sent.Old accepted step) = called_meta s (Commit x.opened.file x.opened.cookie 0) (commits x.opened.file x.opened.cookie 0 s.meta) s.locks refl

  cut_commits : (x : CuttingView) (came : Sent) (b : Bool) → OnLeft (Does 0 s) (commits_cut t s x came b)
  cut_commits x came true = committed x came
  cut_commits x came false = unchanged s 0 s.locks

  cut_phase : (at : CutAt) → OnLeft (Does 0 s) (truncate_at at t place s)
  cut_phase cut.Open = cut_by (cut_opens t.client t.name t.size place s.meta) refl
  cut_phase (cut.Lock x) = cut_locks x (first_blocker (locks_for t x) s.locks)
  cut_phase (cut.Punch x next) = punches x (tail_at x.tails next)
  cut_phase (cut.Commit x came) = cut_commits x came (is_there x.opened.file s.meta)
  cut_phase cut.UnlockAgain = unchanged s 0 (locks_but t.client s.locks)
  cut_phase cut.Unlock = unchanged s 0 (locks_but t.client s.locks)

pub truncate_does : (t : TruncateView) (place : ℕ) (s : Servers) → OnLeft (Does 0 s) (truncate_step t place s)
truncate_does t place s = cut_phase t place s t.at
