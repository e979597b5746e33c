-- What each step of a read, a verify, a write or a truncate leaves of the metadata server: what was there, or what one call left that it may make.
use Rattle.std.proofs.Common.{◌≡◌, ℕ, Bool, true, false, Option, Some, None, [], refl, ap, subst}
use Rattle.flr_base.specs.declared.reply.FailedCall.{FailedCall}
use Rattle.flr_base.specs.declared.reply.Range.{Range}
use Rattle.mirror_select.specs.declared.types.Piece.{Piece}
use Rattle.object_target.specs.declared.call.CallAnswer.{CallAnswer}
use Rattle.object_target.specs.declared.call.CallAnswer.TheVariants as answer
use Rattle.object_target.specs.Calls.{read_answer}
use Rattle.extent_lock.specs.Extents.{blocker}
use Rattle.meta_server.specs.declared.answers.Opened.{Opened}
use Rattle.meta_server.specs.Closing.{confirms, holds, is_there}
use Rattle.meta_server.specs.Files.{File, MetaView, file_named}
use Rattle.meta_server.specs.Opening.{cut_opens, read_opens_file, write_opens}
use Rattle.meta_server.specs.Outcomes.{Gives, Refuses, Waits}
use Rattle.meta_server.specs.Outcomes as meta
use Rattle.meta_laws.specs.Calls.{Call, Commit, Cut, Free, OpenCut, OpenRead, OpenWrite, after_call, left_by}
use Rattle.call_steps.specs.Pieces.{piece_at}
use Rattle.call_steps.specs.Servers.{Servers}
use Rattle.client_read.specs.declared.phase.ReadAt.{ReadAt}
use Rattle.client_read.specs.declared.phase.ReadAt.TheVariants as read
use Rattle.client_read.specs.declared.phase.Reading.{Reading}
use Rattle.client_read.specs.Reads.{confirms_read, ids_of, looks_again, opens_file, others_answer, read_at, shares_file, takes_piece, unanswered}
use Rattle.client_read.specs.Reads as reads
use Rattle.client_read.specs.Views.{ReadView}
use Rattle.client_write.specs.declared.phase.CutAt.{CutAt}
use Rattle.client_write.specs.declared.phase.CutAt.TheVariants as cut
use Rattle.client_write.specs.declared.phase.Sent.{Sent}
use Rattle.client_write.specs.declared.phase.Sent.TheVariants as sent
use Rattle.client_write.specs.declared.phase.WriteAt.{WriteAt}
use Rattle.client_write.specs.declared.phase.WriteAt.TheVariants as write
use Rattle.client_write.specs.Calls.{TruncateView, WriteView}
use Rattle.client_write.specs.Truncates.{commits_cut, cut_committed, first_blocker, locks_for, locks_tails, opens_cut, truncate_at}
use Rattle.client_write.specs.Views.{CuttingView, WritingView}
use Rattle.client_write.specs.Writes.{commits_write, opens, range_of, write_at}
use Rattle.client_write.specs.Writes as writes
use Rattle.mirror_verify.specs.declared.phase.VerifyAt.{VerifyAt}
use Rattle.mirror_verify.specs.declared.phase.VerifyAt.TheVariants as verify
use Rattle.mirror_verify.specs.declared.phase.Verifying.{Verifying}
use Rattle.mirror_verify.specs.Blocks.{copy_at}
use Rattle.mirror_verify.specs.Verifies.{closes, takes_copy, verify_at}
use Rattle.mirror_verify.specs.Verifies as verifies
use Rattle.mirror_verify.specs.Views.{VerifyView}
use Rattle.script_values.specs.declared.command.Command.{Command}
use Rattle.flr_steps.specs.declared.client.Running.{Running}
use Rattle.flr_behind.proofs.Steps.{OnMeta}
use Rattle.flr_honest.proofs.Origins.Calls.{IsAskedAt}

-- what holds of the metadata server holds after each call that a step of this command and call may make
pub record AfterCalls (P : MetaView → Type 0) (asked : Command) (call : Running) (m : MetaView) : Type 0 where
  pub same : P m
  pub calls : (of : Call) → IsAskedAt asked call of → P (after_call of m)

-- what a call left
pub by_call : (P : MetaView → Type 0) (asked : Command) (call : Running) (m new : MetaView) (h : AfterCalls P asked call m) (of : Call) → IsAskedAt asked call of → after_call of m ≡ new → P new
by_call P asked call m new h of may e = subst P e (h.calls of may)

module _ (P : MetaView → Type 0) (asked : Command) (call : Running) (s : Servers) (h : AfterCalls P asked call s.meta) where
  -- ---- reads

  module _ (r : ReadView) where
    read_shares : (f : File) (o : Option ℕ) → file_named r.name s.meta.files ≡ Some f → OnMeta P (shares_file r s f o)
    read_shares f (Some byte) e = h.same
    read_shares f None e = by_call P asked call s.meta _ h (OpenRead r.client r.name) tt (ap (λ (o : Option File). left_by (read_opens_file r.client r.name s.meta o) s.meta) e)

    read_opens : (o : Option File) → file_named r.name s.meta.files ≡ o → OnMeta P (opens_file r s o)
    read_opens None e = h.same
    read_opens (Some f) e = read_shares f (unanswered f.layout r.range []) e

    read_locks : (x : Reading) (next : ℕ) (o : Option (ℕ × Range)) → OnMeta P (reads.locks_piece r s x next o)
    read_locks x next (Some told) = tt
    read_locks x next None = h.same

    read_takes : (x : Reading) (next : ℕ) (p : Piece) (a : CallAnswer) → OnMeta P (takes_piece r s x next p a)
    read_takes x next p answer.Ok = h.same
    read_takes x next p (answer.Old kept) = h.same
    read_takes x next p answer.Failed = h.same

    read_others : (x : Reading) (o : Option ℕ) → OnMeta P (others_answer r s x o)
    read_others x (Some byte) = h.calls (Free x.opened.file x.opened.cookie) tt
    read_others x None = h.same

    read_looks : (x : Reading) (b : Bool) → OnMeta P (looks_again r s x b)
    read_looks x false = h.same
    read_looks x true = read_others x (unanswered x.opened.layout r.range (ids_of x.failed))

    read_ends : (x : Reading) (o : Option ℕ) → OnMeta P (confirms_read r s x o)
    read_ends x None = h.same
    read_ends x (Some size) = h.calls (Free x.opened.file x.opened.cookie) tt

    pub read_leaves : (at : ReadAt) → OnMeta P (read_at at r s)
    read_leaves read.Open = read_opens (file_named r.name s.meta.files) refl
    read_leaves (read.Lock x next) = read_locks x next (blocker s.locks (reads.lock_for r (piece_at x.pieces next)))
    read_leaves (read.Take x next) = read_takes x next (piece_at x.pieces next) (read_answer (reads.target_of s (piece_at x.pieces next)))
    read_leaves (read.Again x) = read_looks x (holds x.opened.file x.opened.cookie s.meta)
    read_leaves (read.Confirm x) = read_ends x (confirms x.opened.file x.opened.cookie s.meta)
    read_leaves read.UnlockAgain = h.same
    read_leaves read.Unlock = h.same

  -- ---- verifies

  module _ (v : VerifyView) where
    verify_opens : (o : Option File) → file_named v.name s.meta.files ≡ o → OnMeta P (verifies.opens_file v s o)
    verify_opens None e = h.same
    verify_opens (Some f) e = by_call P asked call s.meta _ h (OpenRead v.client v.name) tt (ap (λ (o : Option File). left_by (read_opens_file v.client v.name s.meta o) s.meta) e)

    verify_takes : (x : Verifying) (next : ℕ) (p : Piece) (a : CallAnswer) → OnMeta P (takes_copy v s x next p a)
    verify_takes x next p answer.Ok = h.same
    verify_takes x next p (answer.Old kept) = h.same
    verify_takes x next p answer.Failed = h.same

    verify_ends : (x : Verifying) (fault : Option FailedCall) (b : Bool) → OnMeta P (closes v s x fault b)
    verify_ends x fault false = h.same
    verify_ends x fault true = h.calls (Free x.opened.file x.opened.cookie) tt

    pub verify_leaves : (at : VerifyAt) → OnMeta P (verify_at at v s)
    verify_leaves verify.Open = verify_opens (file_named v.name s.meta.files) refl
    verify_leaves (verify.Take x next) = verify_takes x next (copy_at x.copies next).piece (read_answer (verifies.target_of s (copy_at x.copies next).piece))
    verify_leaves (verify.Close x fault) = verify_ends x fault (holds x.opened.file x.opened.cookie s.meta)

  -- ---- writes

  module _ (w : WriteView) (place : ℕ) where
    write_opened : (o : meta.Outcome Opened) → write_opens w.client w.name (range_of w) place s.meta ≡ o → OnMeta P (opens w s o)
    write_opened (Gives opened after) e = by_call P asked call s.meta after h (OpenWrite w.client w.name (range_of w) place) tt (ap (λ (o : meta.Outcome Opened). left_by o s.meta) e)
    write_opened (Refuses reply) e = h.same
    write_opened (Waits holder) e = tt

    write_locks : (x : WritingView) (next : ℕ) (o : Option (ℕ × Range)) → OnMeta P (writes.locks_piece w s x next o)
    write_locks x next (Some told) = tt
    write_locks x next None = h.same

    write_commits : (x : WritingView) (end : ℕ) (came : Sent) (b : Bool) → OnMeta P (commits_write w s x end came b)
    write_commits x end came true = h.calls (Commit x.opened.file x.opened.cookie end) tt
    write_commits x end came false = h.same

    pub write_leaves : (at : WriteAt) → OnMeta P (write_at at w place s)
    write_leaves write.Open = write_opened (write_opens w.client w.name (range_of w) place s.meta) refl
    write_leaves (write.Lock x next) = write_locks x next (blocker s.locks (writes.lock_for w (piece_at x.pieces next)))
    write_leaves (write.Send x next) = h.same
    write_leaves (write.Commit x end came) = write_commits x end came (is_there x.opened.file s.meta)
    write_leaves write.UnlockAgain = h.same
    write_leaves write.Unlock = h.same

  -- ---- truncates

  module _ (t : TruncateView) (place : ℕ) where
    cut_opened : (o : meta.Outcome Opened) → cut_opens t.client t.name t.size place s.meta ≡ o → OnMeta P (opens_cut t s o)
    cut_opened (Gives opened after) e = by_call P asked call s.meta after h (OpenCut t.client t.name t.size place) tt (ap (λ (o : meta.Outcome Opened). left_by o s.meta) e)
    cut_opened (Refuses reply) e = h.same
    cut_opened (Waits holder) e = tt

    cut_locks : (x : CuttingView) (o : Option (ℕ × Range)) → OnMeta P (locks_tails t s x o)
    cut_locks x (Some told) = tt
    cut_locks x None = h.same

    committed : (x : CuttingView) (came : Sent) → P (cut_committed t s x came).meta
    committed x sent.All = h.calls (Cut x.opened.file x.opened.cookie t.size) tt
    committed x (sent.Failed accepted call) = h.calls (Commit x.opened.file x.opened.cookie 0) tt
    committed x (sent.Old accepted step) = h.calls (Commit x.opened.file x.opened.cookie 0) tt

    cut_commits : (x : CuttingView) (came : Sent) (b : Bool) → OnMeta P (commits_cut t s x came b)
    cut_commits x came true = committed x came
    cut_commits x came false = h.same

    pub truncate_leaves : (at : CutAt) → OnMeta P (truncate_at at t place s)
    truncate_leaves cut.Open = cut_opened (cut_opens t.client t.name t.size place s.meta) refl
    truncate_leaves (cut.Lock x) = cut_locks x (first_blocker (locks_for t x) s.locks)
    truncate_leaves (cut.Punch x next) = h.same
    truncate_leaves (cut.Commit x came) = cut_commits x came (is_there x.opened.file s.meta)
    truncate_leaves cut.UnlockAgain = h.same
    truncate_leaves cut.Unlock = h.same
