-- The answers of reads, writes, truncates and verifies.
use Rattle.std.proofs.Common.{◌≡◌, ℕ, ◌-◌, ◌≤◌, ◌<◌, ◌^◌, Bool, true, false, cond, Option, Some, None, List, [], ◌∷◌, length, take, refl, subst, arith}
use Rattle.std.specs.Option.{option_map}
use Rattle.std.proofs.lemmas.List.{length-take}
use Rattle.flr_base.specs.declared.reply.Diff.{Diff}
use Rattle.flr_base.specs.declared.reply.FailedCall.{FailedCall}
use Rattle.flr_base.specs.declared.reply.Range.{Range}
use Rattle.extent_lock.specs.Extents.{blocker}
use Rattle.layout_lease.specs.declared.shared.Share.{Share}
use Rattle.mirror_select.specs.declared.types.Piece.{Piece}
use Rattle.object_target.specs.declared.call.CallAnswer.{CallAnswer}
use Rattle.object_target.specs.declared.call.CallAnswer.TheVariants as answer
use Rattle.object_target.specs.Calls.{read_answer}
use Rattle.meta_server.specs.declared.answers.Opened.{Opened}
use Rattle.meta_server.specs.Closing.{confirms, holds, is_there, size_of}
use Rattle.meta_server.specs.Files.{File, MetaView, file_named, file_of}
use Rattle.meta_server.specs.Opening.{cut_opens, write_opens}
use Rattle.meta_server.specs.Outcomes.{Gives, Refuses, Waits}
use Rattle.meta_server.specs.Outcomes as meta
use Rattle.meta_laws.proofs.Finding.{found_keeps}
use Rattle.call_steps.specs.Pieces.{piece_at}
use Rattle.call_steps.specs.Servers.{Servers}
use Rattle.client_read.specs.declared.phase.ReadAt.{ReadAt}
use Rattle.client_read.specs.declared.phase.ReadAt.TheVariants as read_at
use Rattle.client_read.specs.declared.phase.Reading.{Reading}
use Rattle.client_read.specs.Reads as read
use Rattle.client_read.specs.Views.{ReadView}
use Rattle.client_write.specs.declared.phase.CutAt.{CutAt}
use Rattle.client_write.specs.declared.phase.CutAt.TheVariants as cut_at
use Rattle.client_write.specs.declared.phase.Sent.{Sent}
use Rattle.client_write.specs.declared.phase.Sent.TheVariants as sent
use Rattle.client_write.specs.declared.phase.WriteAt.{WriteAt}
use Rattle.client_write.specs.declared.phase.WriteAt.TheVariants as write_at
use Rattle.client_write.specs.Calls.{TruncateView, WriteView}
use Rattle.client_write.specs.Truncates as cut
use Rattle.client_write.specs.Views.{CuttingView, WritingView}
use Rattle.client_write.specs.Writes as write
use Rattle.mirror_verify.specs.declared.copies.BlockCopy.{BlockCopy}
use Rattle.mirror_verify.specs.declared.phase.VerifyAt.{VerifyAt}
use Rattle.mirror_verify.specs.declared.phase.VerifyAt.TheVariants as verify_at
use Rattle.mirror_verify.specs.declared.phase.Verifying.{Verifying}
use Rattle.mirror_verify.specs.Blocks.{copy_at}
use Rattle.mirror_verify.specs.Verifies as verify
use Rattle.mirror_verify.specs.Views.{VerifyView}
use Rattle.report_text.specs.Answers.{IsPrintable}
use Rattle.flr_sizes.specs.Laws.{AreShort}
use Rattle.flr_sizes.proofs.Calls.{Any}
use Rattle.flr_answers.proofs.Leading.{Prints}
use Rattle.flr_answers.proofs.Metas.{Refusable, cut_refusable, write_refusable}

-- ---- reads

-- what a read is told is the size of a file
confirmed_short : (most n : ℕ) (cookie : Share) (m : MetaView) (size : ℕ) → AreShort most m.files → confirms n cookie m ≡ Some size → size ≤ most
confirmed_short most n cookie m size short e = by (holds n cookie m) e
  where
    found : (o : Option File) → file_of n m.files ≡ o → option_map (λ (f : File). f.size) o ≡ Some size → size ≤ most
    found None is k = absurd (cc)
    found (Some f) is k = let same : f.size ≡ size = cc in subst (λ (x : ℕ). x ≤ most) same (found_keeps _ (λ (x : File). x.size ≤ most) m.files f is short)

    by : (b : Bool) → cond b (size_of n m) None ≡ Some size → size ≤ most
    by true k = found (file_of n m.files) refl k
    by false k = absurd (cc)

module _ (most : ℕ) (r : ReadView) (s : Servers) (small : most ≤ 268435456) (short : AreShort most s.meta.files) where
  read_by_byte : (f : File) (o : Option ℕ) → Prints Any (read.shares_file r s f o)
  read_by_byte f (Some byte) = tt
  read_by_byte f None = tt

  read_by_file : (o : Option File) → Prints Any (read.opens_file r s o)
  read_by_file None = tt
  read_by_file (Some f) = read_by_byte f (read.unanswered f.layout r.range [])

  read_by_lock : (x : Reading) (next : ℕ) (o : Option (ℕ × Range)) → Prints Any (read.locks_piece r s x next o)
  read_by_lock x next (Some told) = tt
  read_by_lock x next None = tt

  read_by_answer : (x : Reading) (next : ℕ) (p : Piece) (a : CallAnswer) → Prints Any (read.takes_piece r s x next p a)
  read_by_answer x next p answer.Ok = tt
  read_by_answer x next p (answer.Old kept) = tt
  read_by_answer x next p answer.Failed = tt

  read_by_others : (x : Reading) (o : Option ℕ) → Prints Any (read.others_answer r s x o)
  read_by_others x (Some byte) = tt
  read_by_others x None = tt

  read_by_cookie : (x : Reading) (b : Bool) → Prints Any (read.looks_again r s x b)
  read_by_cookie x false = tt
  read_by_cookie x true = read_by_others x (read.unanswered x.opened.layout r.range (read.ids_of x.failed))

  few_bytes : (x : Reading) (size : ℕ) → size ≤ most → length (take (size - r.range.start) x.got.bytes) < 2 ^ 32
  few_bytes x size low = let cut = length-take (size - r.range.start) x.got.bytes in omega (arith, low, small, cut)

  read_by_size : (x : Reading) (o : Option ℕ) → confirms x.opened.file x.opened.cookie s.meta ≡ o → Prints Any (read.confirms_read r s x o)
  read_by_size x None e = tt
  read_by_size x (Some size) e = (tt, few_bytes x size (confirmed_short most x.opened.file x.opened.cookie s.meta size short e))

  pub read_prints : (at : ReadAt) → Prints Any (read.read_at at r s)
  read_prints read_at.Open = read_by_file (file_named r.name s.meta.files)
  read_prints (read_at.Lock x next) = read_by_lock x next (blocker s.locks (read.lock_for r (piece_at x.pieces next)))
  read_prints (read_at.Take x next) = read_by_answer x next (piece_at x.pieces next) (read_answer (read.target_of s (piece_at x.pieces next)))
  read_prints (read_at.Again x) = read_by_cookie x (holds x.opened.file x.opened.cookie s.meta)
  read_prints (read_at.Confirm x) = read_by_size x (confirms x.opened.file x.opened.cookie s.meta) refl
  read_prints read_at.UnlockAgain = tt
  read_prints read_at.Unlock = tt

-- ---- writes and truncates

module _ (w : WriteView) (place : ℕ) (s : Servers) where
  write_by_open : (o : meta.Outcome Opened) → Refusable o → Prints Any (write.opens w s o)
  write_by_open (Gives given after) h = tt
  write_by_open (Refuses reply) h = h
  write_by_open (Waits holder) h = tt

  write_by_lock : (x : WritingView) (next : ℕ) (o : Option (ℕ × Range)) → Prints Any (write.locks_piece w s x next o)
  write_by_lock x next (Some told) = tt
  write_by_lock x next None = tt

  write_reply : (came : Sent) → IsPrintable (write.reply_of came)
  write_reply sent.All = tt
  write_reply (sent.Failed accepted call) = tt
  write_reply (sent.Old accepted step) = tt

  write_by_file : (x : WritingView) (end : ℕ) (came : Sent) (b : Bool) → Prints Any (write.commits_write w s x end came b)
  write_by_file x end came true = (tt, write_reply came)
  write_by_file x end came false = tt

  pub write_prints : (at : WriteAt) → Prints Any (write.write_at at w place s)
  write_prints write_at.Open = write_by_open (write_opens w.client w.name (write.range_of w) place s.meta) (write_refusable w.client w.name (write.range_of w) place s.meta)
  write_prints (write_at.Lock x next) = write_by_lock x next (blocker s.locks (write.lock_for w (piece_at x.pieces next)))
  write_prints (write_at.Send x next) = tt
  write_prints (write_at.Commit x end came) = write_by_file x end came (is_there x.opened.file s.meta)
  write_prints write_at.UnlockAgain = tt
  write_prints write_at.Unlock = tt

module _ (t : TruncateView) (place : ℕ) (s : Servers) where
  cut_by_open : (o : meta.Outcome Opened) → Refusable o → Prints Any (cut.opens_cut t s o)
  cut_by_open (Gives given after) h = tt
  cut_by_open (Refuses reply) h = h
  cut_by_open (Waits holder) h = tt

  cut_by_lock : (x : CuttingView) (o : Option (ℕ × Range)) → Prints Any (cut.locks_tails t s x o)
  cut_by_lock x (Some told) = tt
  cut_by_lock x None = tt

  cut_answer : (came : Sent) → IsPrintable (cut.cut_reply came)
  cut_answer sent.All = tt
  cut_answer (sent.Failed accepted call) = tt
  cut_answer (sent.Old accepted step) = tt

  cut_by_file : (x : CuttingView) (came : Sent) (b : Bool) → Prints Any (cut.commits_cut t s x came b)
  cut_by_file x came true = (tt, cut_answer came)
  cut_by_file x came false = tt

  pub cut_prints : (at : CutAt) → Prints Any (cut.truncate_at at t place s)
  cut_prints cut_at.Open = cut_by_open (cut_opens t.client t.name t.size place s.meta) (cut_refusable t.client t.name t.size place s.meta)
  cut_prints (cut_at.Lock x) = cut_by_lock x (cut.first_blocker (cut.locks_for t x) s.locks)
  cut_prints (cut_at.Punch x next) = tt
  cut_prints (cut_at.Commit x came) = cut_by_file x came (is_there x.opened.file s.meta)
  cut_prints cut_at.UnlockAgain = tt
  cut_prints cut_at.Unlock = tt

-- ---- verifies

module _ (v : VerifyView) (s : Servers) where
  verify_by_file : (o : Option File) → Prints Any (verify.opens_file v s o)
  verify_by_file None = tt
  verify_by_file (Some f) = tt

  verify_by_answer : (x : Verifying) (next : ℕ) (p : Piece) (a : CallAnswer) → Prints Any (verify.takes_copy v s x next p a)
  verify_by_answer x next p answer.Ok = tt
  verify_by_answer x next p (answer.Old kept) = tt
  verify_by_answer x next p answer.Failed = tt

  compared_prints : (copies : List BlockCopy) (diffs : List Diff) → IsPrintable (verify.compared copies diffs)
  compared_prints copies [] = tt
  compared_prints copies (diff ∷ diffs) = tt

  verify_reply : (x : Verifying) (fault : Option FailedCall) → IsPrintable (verify.reply_of x fault)
  verify_reply x None = compared_prints x.copies x.found.diffs
  verify_reply x (Some call) = tt

  verify_by_cookie : (x : Verifying) (fault : Option FailedCall) (b : Bool) → Prints Any (verify.closes v s x fault b)
  verify_by_cookie x fault false = tt
  verify_by_cookie x fault true = verify_reply x fault

  pub verify_prints : (at : VerifyAt) → Prints Any (verify.verify_at at v s)
  verify_prints verify_at.Open = verify_by_file (file_named v.name s.meta.files)
  verify_prints (verify_at.Take x next) = verify_by_answer x next (copy_at x.copies next).piece (read_answer (verify.target_of s (copy_at x.copies next).piece))
  verify_prints (verify_at.Close x fault) = verify_by_cookie x fault (holds x.opened.file x.opened.cookie s.meta)
