-- What each step of a read, a verify, a write or a truncate leaves of the metadata server: what was there, or what one call left that its command makes.
use Rattle.std.proofs.Common.{◌≡◌, ℕ, ◌+◌, Bool, true, false, Option, Some, None, IfSome, List, [], length, ◌⊎◌, refl, ap, subst}
use Rattle.flr_base.specs.declared.reply.FailedCall.{FailedCall}
use Rattle.flr_base.specs.declared.reply.Range.{Range}
use Rattle.mirror_select.specs.declared.types.Piece.{Piece}
use Rattle.object_target.specs.declared.call.CallAnswer.{CallAnswer}
use Rattle.object_target.specs.declared.call.CallAnswer.TheVariants as answer
use Rattle.object_target.specs.Calls.{read_answer}
use Rattle.extent_lock.specs.Extents.{blocker}
use Rattle.meta_server.specs.declared.answers.Opened.{Opened}
use Rattle.meta_server.specs.Closing.{confirms, holds, is_there}
use Rattle.meta_server.specs.Conditions.{IsCopyOf}
use Rattle.meta_server.specs.Files.{File, MetaView, file_named}
use Rattle.meta_server.specs.Opening.{cut_opens, read_opens_file, write_opens}
use Rattle.meta_server.specs.Outcomes.{Gives, Refuses, Waits}
use Rattle.meta_server.specs.Outcomes as meta
use Rattle.meta_laws.specs.Calls.{BeginCopy, Call, Commit, Confirm, CopyDone, Create, Cut, Evict, Free, GiveUp, MergeDone, OpenCut, OpenRead, OpenWrite, Remove, Set, after_call, left_by}
use Rattle.call_steps.specs.Pieces.{piece_at}
use Rattle.call_steps.specs.Servers.{Servers}
use Rattle.client_read.specs.declared.phase.ReadAt.{ReadAt}
use Rattle.client_read.specs.declared.phase.ReadAt.TheVariants as read
use Rattle.client_read.specs.declared.phase.Reading.{Reading}
use Rattle.client_read.specs.Reads.{confirms_read, ids_of, looks_again, opens_file, others_answer, read_at, shares_file, takes_piece, unanswered}
use Rattle.client_read.specs.Reads as reads
use Rattle.client_read.specs.Views.{ReadView}
use Rattle.client_write.specs.declared.phase.CutAt.{CutAt}
use Rattle.client_write.specs.declared.phase.CutAt.TheVariants as cut
use Rattle.client_write.specs.declared.phase.Sent.{Sent}
use Rattle.client_write.specs.declared.phase.Sent.TheVariants as sent
use Rattle.client_write.specs.declared.phase.WriteAt.{WriteAt}
use Rattle.client_write.specs.declared.phase.WriteAt.TheVariants as write
use Rattle.client_write.specs.Calls.{TruncateView, WriteView}
use Rattle.client_write.specs.Truncates.{commits_cut, cut_committed, first_blocker, locks_for, locks_tails, opens_cut, truncate_at}
use Rattle.client_write.specs.Views.{CuttingView, WritingView}
use Rattle.client_write.specs.Writes.{commits_write, opens, range_of, write_at}
use Rattle.client_write.specs.Writes as writes
use Rattle.mirror_verify.specs.declared.phase.VerifyAt.{VerifyAt}
use Rattle.mirror_verify.specs.declared.phase.VerifyAt.TheVariants as verify
use Rattle.mirror_verify.specs.declared.phase.Verifying.{Verifying}
use Rattle.mirror_verify.specs.Blocks.{copy_at}
use Rattle.mirror_verify.specs.Verifies.{closes, takes_copy, verify_at}
use Rattle.mirror_verify.specs.Verifies as verifies
use Rattle.mirror_verify.specs.Views.{VerifyView}
use Rattle.script_values.specs.declared.command.Command.{Command}
use Rattle.script_values.specs.declared.command.Command.TheVariants as command
use Rattle.flr_numbers.specs.Calls.{cut_hand, read_hand, verify_hand, write_hand}
use Rattle.flr_places.specs.Sentences.{IsCookieOf}
use Rattle.flr_places.proofs.Steps.{OnMeta}
use Rattle.flr_steps.specs.declared.client.Running.{Running}
use Rattle.flr_steps.specs.declared.client.Running.TheVariants as running
use Rattle.flr_base.specs.declared.reply.Left.{Left}
use Rattle.layout_lease.specs.Leases.{KeyView}
use Rattle.lfs_words.specs.declared.command.LfsCommand.TheVariants as lfs
use Rattle.lfs_words.specs.declared.command.SplitTo.TheVariants as split
use Rattle.lfs_words.specs.Naming.{default_name}
use Rattle.resync_copy.specs.declared.merge_phase.MergeStage.TheVariants as merge
use Rattle.resync_copy.specs.declared.phase.CopyAt.TheVariants as at
use Rattle.resync_copy.specs.declared.phase.CopyStage.TheVariants as stage
use Rattle.resync_copy.specs.Calls.{CopyView}
use Rattle.flr_honest.proofs.Legal.Asked.{lfs_for}

-- ---- which call is made by which step

-- the command is a write of these bytes of the file of this name
pub record IsWriteOf (asked : Command) (name : List ℕ) (range : Range) : Type 0 where
  pub offset : ℕ
  pub bytes : List ℕ
  pub is : asked ≡ command.Write name offset bytes
  pub spans : range ≡ record { start = offset; end = offset + length bytes }

-- the step's call is a copy of this command that ends with this key of its client, and clears these components
pub record EndsCopy (asked : Command) (c : ℕ) (call : Running) (key : KeyView) (cleared : List ℕ) : Type 0 where
  pub copy : CopyView
  pub copies : call ≡ running.Copy copy
  pub asks : command.Lfs (lfs_for copy.name copy.what) ≡ asked
  pub left : List Left
  pub at : copy.at ≡ at.Copy (stage.Done key cleared left)
  pub own : key.client ≡ c

-- it is one that takes in a file, and ends with these keys of its client
pub record EndsMerge (asked : Command) (c : ℕ) (call : Running) (ours theirs : KeyView) : Type 0 where
  pub copy : CopyView
  pub copies : call ≡ running.Copy copy
  pub asks : command.Lfs (lfs_for copy.name copy.what) ≡ asked
  pub at : copy.at ≡ at.Merge (merge.Done ours theirs None)
  pub own : ours.client ≡ c
  pub own_too : theirs.client ≡ c

-- a mirror goes for good, by a command for that
abbrev pub IsDelete : Command → List ℕ → ℕ → Type 0
IsDelete asked name mirror = (asked ≡ command.Lfs (lfs.Delete name mirror)) ⊎ (asked ≡ command.Lfs (lfs.Split name mirror split.Destroy))

-- or it is split off to a file of this name
abbrev pub IsSplit : Command → List ℕ → ℕ → List ℕ → Type 0
IsSplit asked name mirror to = ((asked ≡ command.Lfs (lfs.Split name mirror split.Default)) × (to ≡ default_name name mirror)) ⊎ (asked ≡ command.Lfs (lfs.Split name mirror (split.Named to)))

abbrev pub IsRemove : Command → List ℕ → ℕ → Option (List ℕ) → Type 0
IsRemove asked name mirror None = IsDelete asked name mirror
IsRemove asked name mirror (Some to) = IsSplit asked name mirror to

-- the call of the metadata server is one that a step of this client makes at this place, for this command and call
abbrev pub IsAskedFor : Command → ℕ → ℕ → Running → Call → Type 0
IsAskedFor asked c place call (OpenRead client name) = Unit {0}
IsAskedFor asked c place call (OpenWrite client name range step) = IsWriteOf asked name range
IsAskedFor asked c place call (OpenCut client name size step) = asked ≡ command.Truncate name size
IsAskedFor asked c place call (Free file cookie) = cookie.client ≡ c
IsAskedFor asked c place call (Confirm file cookie) = cookie.client ≡ c
IsAskedFor asked c place call (Commit file cookie end) = cookie.client ≡ c
IsAskedFor asked c place call (Cut file cookie size) = cookie.client ≡ c
IsAskedFor asked c place call (BeginCopy client name what) = (client ≡ c) × IsCopyOf name what × (command.Lfs (lfs_for name what) ≡ asked)
IsAskedFor asked c place call (CopyDone key cleared) = EndsCopy asked c call key cleared
IsAskedFor asked c place call (MergeDone ours theirs) = EndsMerge asked c call ours theirs
IsAskedFor asked c place call (GiveUp key) = key.client ≡ c
IsAskedFor asked c place call (Create name mirrors) = (asked ≡ command.Lfs (lfs.SetStripe name mirrors)) ⊎ (asked ≡ command.Lfs (lfs.Create name mirrors))
IsAskedFor asked c place call (Remove client name mirror to step) = IsRemove asked name mirror to
IsAskedFor asked c place call (Set client name id change step) = asked ≡ command.Lfs (lfs.CompSet name id change)
IsAskedFor asked c place call (Evict client step) = (step ≡ place) × (asked ≡ command.Evict client)

-- what holds of the metadata server holds after each call of the client at the place
pub record AfterCalls (P : MetaView → Type 0) (asked : Command) (c place : ℕ) (call : Running) (m : MetaView) : Type 0 where
  pub same : P m
  pub calls : (of : Call) → IsAskedFor asked c place call of → P (after_call of m)

-- what a call left
pub by_call : (P : MetaView → Type 0) (asked : Command) (c place : ℕ) (call : Running) (m new : MetaView) (h : AfterCalls P asked c place call m) (of : Call) → IsAskedFor asked c place call of → after_call of m ≡ new → P new
by_call P asked c place call m new h of well e = subst P e (h.calls of well)

module _ (P : MetaView → Type 0) (asked : Command) (c place : ℕ) (call : Running) (s : Servers) (h : AfterCalls P asked c place call s.meta) where
  -- ---- reads

  module _ (r : ReadView) where
    read_shares : (f : File) (o : Option ℕ) → file_named r.name s.meta.files ≡ Some f → OnMeta P (shares_file r s f o)
    read_shares f (Some byte) e = h.same
    read_shares f None e = by_call P asked c place call s.meta _ h (OpenRead r.client r.name) tt (ap (λ (o : Option File). left_by (read_opens_file r.client r.name s.meta o) s.meta) e)

    read_opens : (o : Option File) → file_named r.name s.meta.files ≡ o → OnMeta P (opens_file r s o)
    read_opens None e = h.same
    read_opens (Some f) e = read_shares f (unanswered f.layout r.range []) e

    read_locks : (x : Reading) (next : ℕ) (o : Option (ℕ × Range)) → OnMeta P (reads.locks_piece r s x next o)
    read_locks x next (Some told) = tt
    read_locks x next None = h.same

    read_takes : (x : Reading) (next : ℕ) (p : Piece) (a : CallAnswer) → OnMeta P (takes_piece r s x next p a)
    read_takes x next p answer.Ok = h.same
    read_takes x next p (answer.Old kept) = h.same
    read_takes x next p answer.Failed = h.same

    read_others : (x : Reading) (o : Option ℕ) → IsCookieOf c x.opened → OnMeta P (others_answer r s x o)
    read_others x (Some byte) own = h.calls (Free x.opened.file x.opened.cookie) own
    read_others x None own = h.same

    read_looks : (x : Reading) (b : Bool) → IsCookieOf c x.opened → OnMeta P (looks_again r s x b)
    read_looks x false own = h.same
    read_looks x true own = read_others x (unanswered x.opened.layout r.range (ids_of x.failed)) own

    read_ends : (x : Reading) (o : Option ℕ) → IsCookieOf c x.opened → OnMeta P (confirms_read r s x o)
    read_ends x None own = h.same
    read_ends x (Some size) own = h.calls (Free x.opened.file x.opened.cookie) own

    pub read_leaves : (at : ReadAt) → IfSome (read_hand at).opened (IsCookieOf c) → OnMeta P (read_at at r s)
    read_leaves read.Open own = read_opens (file_named r.name s.meta.files) refl
    read_leaves (read.Lock x next) own = read_locks x next (blocker s.locks (reads.lock_for r (piece_at x.pieces next)))
    read_leaves (read.Take x next) own = read_takes x next (piece_at x.pieces next) (read_answer (reads.target_of s (piece_at x.pieces next)))
    read_leaves (read.Again x) own = read_looks x (holds x.opened.file x.opened.cookie s.meta) own
    read_leaves (read.Confirm x) own = read_ends x (confirms x.opened.file x.opened.cookie s.meta) own
    read_leaves read.UnlockAgain own = h.same
    read_leaves read.Unlock own = h.same

  -- ---- verifies

  module _ (v : VerifyView) where
    verify_opens : (o : Option File) → file_named v.name s.meta.files ≡ o → OnMeta P (verifies.opens_file v s o)
    verify_opens None e = h.same
    verify_opens (Some f) e = by_call P asked c place call s.meta _ h (OpenRead v.client v.name) tt (ap (λ (o : Option File). left_by (read_opens_file v.client v.name s.meta o) s.meta) e)

    verify_takes : (x : Verifying) (next : ℕ) (p : Piece) (a : CallAnswer) → OnMeta P (takes_copy v s x next p a)
    verify_takes x next p answer.Ok = h.same
    verify_takes x next p (answer.Old kept) = h.same
    verify_takes x next p answer.Failed = h.same

    verify_ends : (x : Verifying) (fault : Option FailedCall) (b : Bool) → IsCookieOf c x.opened → OnMeta P (closes v s x fault b)
    verify_ends x fault false own = h.same
    verify_ends x fault true own = h.calls (Free x.opened.file x.opened.cookie) own

    pub verify_leaves : (at : VerifyAt) → IfSome (verify_hand at).opened (IsCookieOf c) → OnMeta P (verify_at at v s)
    verify_leaves verify.Open own = verify_opens (file_named v.name s.meta.files) refl
    verify_leaves (verify.Take x next) own = verify_takes x next (copy_at x.copies next).piece (read_answer (verifies.target_of s (copy_at x.copies next).piece))
    verify_leaves (verify.Close x fault) own = verify_ends x fault (holds x.opened.file x.opened.cookie s.meta) own

  -- ---- writes

  module _ (w : WriteView) (asks : asked ≡ command.Write w.name w.offset w.bytes) where
    write_opened : (o : meta.Outcome Opened) → write_opens w.client w.name (range_of w) place s.meta ≡ o → OnMeta P (opens w s o)
    write_opened (Gives opened after) e = by_call P asked c place call s.meta after h (OpenWrite w.client w.name (range_of w) place) (record { offset = w.offset; bytes = w.bytes; is = asks; spans = refl }) (ap (λ (o : meta.Outcome Opened). left_by o s.meta) e)
    write_opened (Refuses reply) e = h.same
    write_opened (Waits holder) e = tt

    write_locks : (x : WritingView) (next : ℕ) (o : Option (ℕ × Range)) → OnMeta P (writes.locks_piece w s x next o)
    write_locks x next (Some told) = tt
    write_locks x next None = h.same

    write_commits : (x : WritingView) (end : ℕ) (came : Sent) (b : Bool) → IsCookieOf c x.opened → OnMeta P (commits_write w s x end came b)
    write_commits x end came true own = h.calls (Commit x.opened.file x.opened.cookie end) own
    write_commits x end came false own = h.same

    pub write_leaves : (at : WriteAt) → IfSome (write_hand at).opened (IsCookieOf c) → OnMeta P (write_at at w place s)
    write_leaves write.Open own = write_opened (write_opens w.client w.name (range_of w) place s.meta) refl
    write_leaves (write.Lock x next) own = write_locks x next (blocker s.locks (writes.lock_for w (piece_at x.pieces next)))
    write_leaves (write.Send x next) own = h.same
    write_leaves (write.Commit x end came) own = write_commits x end came (is_there x.opened.file s.meta) own
    write_leaves write.UnlockAgain own = h.same
    write_leaves write.Unlock own = h.same

  -- ---- truncates

  module _ (t : TruncateView) (asks : asked ≡ command.Truncate t.name t.size) where
    cut_opened : (o : meta.Outcome Opened) → cut_opens t.client t.name t.size place s.meta ≡ o → OnMeta P (opens_cut t s o)
    cut_opened (Gives opened after) e = by_call P asked c place call s.meta after h (OpenCut t.client t.name t.size place) asks (ap (λ (o : meta.Outcome Opened). left_by o s.meta) e)
    cut_opened (Refuses reply) e = h.same
    cut_opened (Waits holder) e = tt

    cut_locks : (x : CuttingView) (o : Option (ℕ × Range)) → OnMeta P (locks_tails t s x o)
    cut_locks x (Some told) = tt
    cut_locks x None = h.same

    committed : (x : CuttingView) (came : Sent) → IsCookieOf c x.opened → P (cut_committed t s x came).meta
    committed x sent.All own = h.calls (Cut x.opened.file x.opened.cookie t.size) own
    committed x (sent.Failed accepted call) own = h.calls (Commit x.opened.file x.opened.cookie 0) own
    committed x (sent.Old accepted step) own = h.calls (Commit x.opened.file x.opened.cookie 0) own

    cut_commits : (x : CuttingView) (came : Sent) (b : Bool) → IsCookieOf c x.opened → OnMeta P (commits_cut t s x came b)
    cut_commits x came true own = committed x came own
    cut_commits x came false own = h.same

    pub truncate_leaves : (at : CutAt) → IfSome (cut_hand at).opened (IsCookieOf c) → OnMeta P (truncate_at at t place s)
    truncate_leaves cut.Open own = cut_opened (cut_opens t.client t.name t.size place s.meta) refl
    truncate_leaves (cut.Lock x) own = cut_locks x (first_blocker (locks_for t x) s.locks)
    truncate_leaves (cut.Punch x next) own = h.same
    truncate_leaves (cut.Commit x came) own = cut_commits x came (is_there x.opened.file s.meta) own
    truncate_leaves cut.UnlockAgain own = h.same
    truncate_leaves cut.Unlock own = h.same
