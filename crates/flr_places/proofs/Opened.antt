-- What a call has open after its own step: what it had open before, or what it opens at this step.
use Rattle.std.proofs.Common.{◌≡◌, ℕ, ◌+◌, Bool, true, false, cond, nat_eq, nat_lt, Option, Some, None, IfSome, List, [], length, refl}
use Rattle.std.specs.Prelude.{unwrap_or}
use Rattle.flr_base.specs.declared.reply.FailedCall.{FailedCall}
use Rattle.flr_base.specs.declared.reply.Range.{Range}
use Rattle.flr_base.specs.declared.reply.Reply.{Reply}
use Rattle.composite_layout.specs.Layouts.{Composite, eof}
use Rattle.lfs_words.specs.declared.command.LfsCommand.{LfsCommand}
use Rattle.lfs_words.specs.declared.command.LfsCommand.TheVariants as lfs
use Rattle.script_values.specs.declared.command.Command.{Command}
use Rattle.script_values.specs.declared.command.Command.TheVariants as command
use Rattle.mirror_admin.specs.OneStep.{one_step}
use Rattle.mirror_select.specs.declared.types.Piece.{Piece}
use Rattle.mirror_select.specs.Pieces.{pieces_of}
use Rattle.object_target.specs.declared.call.CallAnswer.{CallAnswer}
use Rattle.object_target.specs.declared.call.CallAnswer.TheVariants as answer
use Rattle.object_target.specs.Calls.{read_answer}
use Rattle.extent_lock.specs.Extents.{blocker}
use Rattle.meta_server.specs.declared.answers.Opened.{Opened}
use Rattle.meta_server.specs.Closing.{confirms, holds, is_there, last_eviction}
use Rattle.meta_server.specs.Files.{File, MetaView, file_named, file_of, with_change, with_layout, with_share}
use Rattle.meta_server.specs.Layouts.{intended}
use Rattle.flr_base.specs.Limits.{most_bytes}
use Rattle.meta_server.specs.Opening.{change_opens_file, cut_opens, opened, with_intent, write_opens}
use Rattle.meta_server.specs.Outcomes.{Gives, Refuses, Waits}
use Rattle.meta_server.specs.Outcomes as meta
use Rattle.meta_server.specs.Sound.{IsSound}
use Rattle.meta_laws.proofs.Copies.{there_named}
use Rattle.meta_laws.proofs.Finding.{same_found}
use Rattle.call_steps.specs.Pieces.{piece_at}
use Rattle.call_steps.specs.Servers.{Servers}
use Rattle.call_steps.specs.Steps.{Outcome, Going, Fixed, Ended, Answered, Blocked, widen}
use Rattle.client_read.specs.declared.phase.ReadAt.{ReadAt}
use Rattle.client_read.specs.declared.phase.ReadAt.TheVariants as read
use Rattle.client_read.specs.declared.phase.Reading.{Reading}
use Rattle.client_read.specs.Pieces.{next_object}
use Rattle.client_read.specs.Reads.{confirms_read, ids_of, looks_again, opens_file, others_answer, read_at, read_step, reading, shares_file, takes_piece, unanswered, with_answer}
use Rattle.client_read.specs.Reads as reads
use Rattle.client_read.specs.Views.{ReadView}
use Rattle.client_write.specs.declared.phase.Came.{Came}
use Rattle.client_write.specs.declared.phase.Came.TheVariants as came
use Rattle.client_write.specs.declared.phase.CutAt.{CutAt}
use Rattle.client_write.specs.declared.phase.CutAt.TheVariants as cut
use Rattle.client_write.specs.declared.phase.Sent.{Sent}
use Rattle.client_write.specs.declared.phase.Sent.TheVariants as sent
use Rattle.client_write.specs.declared.phase.WriteAt.{WriteAt}
use Rattle.client_write.specs.declared.phase.WriteAt.TheVariants as write
use Rattle.client_write.specs.Calls.{TruncateView, WriteView}
use Rattle.client_write.specs.Truncates.{after_punches, came_of_tail, commits_cut, first_blocker, locks_for, locks_tails, opens_cut, punches_from, tail_at, truncate_at, truncate_step}
use Rattle.client_write.specs.Views.{CuttingView, WritingView}
use Rattle.client_write.specs.Writes.{after_send, came_of_piece, commits_to, commits_write, ends_old, opens, range_of, sends_from, write_at, write_step}
use Rattle.client_write.specs.Writes as writes
use Rattle.mirror_verify.specs.declared.phase.VerifyAt.{VerifyAt}
use Rattle.mirror_verify.specs.declared.phase.VerifyAt.TheVariants as verify
use Rattle.mirror_verify.specs.declared.phase.Verifying.{Verifying}
use Rattle.mirror_verify.specs.Blocks.{copies_of, copy_at}
use Rattle.mirror_verify.specs.Blocks as blocks
use Rattle.mirror_verify.specs.Verifies.{closes, takes_copy, verify_at, verify_step, verifying}
use Rattle.mirror_verify.specs.Verifies as verifies
use Rattle.mirror_verify.specs.Views.{VerifyView}
use Rattle.resync_copy.specs.declared.merge_phase.MergeStage.{MergeStage}
use Rattle.resync_copy.specs.declared.merge_phase.MergeStage.TheVariants as merge
use Rattle.resync_copy.specs.declared.phase.CopyAt.{CopyAt}
use Rattle.resync_copy.specs.declared.phase.CopyAt.TheVariants as copy
use Rattle.resync_copy.specs.declared.phase.CopyStage.{CopyStage}
use Rattle.resync_copy.specs.declared.phase.CopyStage.TheVariants as stage
use Rattle.resync_copy.specs.Calls.{CopyView}
use Rattle.resync_copy.specs.Steps.{copy_step}
use Rattle.flr_numbers.specs.Calls.{cut_hand, read_hand, verify_hand, write_hand}
use Rattle.flr_numbers.specs.Copies.{copy_hand}
use Rattle.flr_numbers.specs.Sentences.{IsCallOf, hand_of}
use Rattle.flr_numbers.proofs.Coming.{open_cases}
use Rattle.flr_steps.specs.declared.client.Running.{Running}
use Rattle.flr_steps.specs.declared.client.Running.TheVariants as running
use Rattle.flr_steps.specs.Clients.{call_now}
use Rattle.flr_steps.specs.Commands.{answered_by, at_once, begun, begun_lfs, step_of}

-- of the file that the call has open, if it has one
abbrev pub OfOpen : (Opened → Type 0) → Running → Type 0
OfOpen K call = IfSome (hand_of call).opened K

-- where a call goes on this holds of the file that it has open, as the metadata server is then
abbrev pub OnOpen : {C : Type 0} → (MetaView → Opened → Type 0) → (C → Running) → Outcome C → Type 0
OnOpen K f (Going next after) = OfOpen (K after.meta) (f next)
OnOpen K f (Fixed next reply takes after) = OfOpen (K after.meta) (f next)
OnOpen K f (Ended after) = Unit {0}
OnOpen K f (Answered reply takes after) = Unit {0}
OnOpen K f (Blocked holder) = Unit {0}

-- it holds of each file that this client opens
abbrev pub Opens : (MetaView → Opened → Type 0) → ℕ → Type 0
Opens K c = (client : ℕ) (m : MetaView) (f : File) → client ≡ c → file_of f.number m.files ≡ Some f → K (with_change f.number (with_share client) m) (opened client f)

-- one of two
either : {X : Type 0} (P : X → Type 0) (b : Bool) (x y : X) → P x → P y → P (cond b x y)
either P true x y h k = h
either P false x y h k = k

-- ---- calls that have no file open

module _ (K : Opened → Type 0) where
  stage_none : (next : CopyStage) → IfSome (copy_hand (copy.Copy next)).opened K
  stage_none (stage.Fence x next) = tt
  stage_none (stage.Reset x next) = tt
  stage_none (stage.Settle x) = tt
  stage_none (stage.Take h) = tt
  stage_none (stage.Put h bytes) = tt
  stage_none (stage.Done key cleared left) = tt

  merge_none : (next : MergeStage) → IfSome (copy_hand (copy.Merge next)).opened K
  merge_none (merge.Fence x next) = tt
  merge_none (merge.Settle x) = tt
  merge_none (merge.TakeOurs p) = tt
  merge_none (merge.TakeTheirs p ours) = tt
  merge_none (merge.Done ours theirs refusal) = tt

  copy_none : (at : CopyAt) → IfSome (copy_hand at).opened K
  copy_none copy.Begin = tt
  copy_none (copy.Copy next) = stage_none next
  copy_none (copy.Merge next) = merge_none next

  lfs_none : (c : ℕ) (of : LfsCommand) → OfOpen K (begun_lfs c of)
  lfs_none c (lfs.Resync name only) = tt
  lfs_none c (lfs.Extend name spec) = tt
  lfs_none c (lfs.ExtendBy name victim) = tt
  lfs_none c (lfs.Verify name) = tt
  lfs_none c (lfs.SetStripe name spec) = tt
  lfs_none c (lfs.GetStripe name) = tt
  lfs_none c (lfs.CompSet name id change) = tt
  lfs_none c (lfs.Create name spec) = tt
  lfs_none c (lfs.Split name mirror to) = tt
  lfs_none c (lfs.Delete name mirror) = tt

  -- a call that begins
  pub begun_none : (c : ℕ) (asked : Command) → OfOpen K (begun c asked)
  begun_none c (command.Read name offset len) = tt
  begun_none c (command.Write name offset bytes) = tt
  begun_none c (command.Truncate name size) = tt
  begun_none c (command.Lfs of) = lfs_none c of
  begun_none c (command.Evict other) = tt
  begun_none c (command.Rot object offset byte) = tt

  -- the call that a step is of has open what the client's call has
  pub now_open : (c : ℕ) (asked : Command) (call : Running) → OfOpen K call → OfOpen K (call_now c call asked)
  now_open c asked running.Idle k = begun_none c asked
  now_open c asked (running.Read call) k = k
  now_open c asked (running.Write call) k = k
  now_open c asked (running.Truncate call) k = k
  now_open c asked (running.Copy call) k = k
  now_open c asked (running.Verify call) k = k

-- ---- each call

module _ (K : MetaView → Opened → Type 0) (c : ℕ) (s : Servers) (sound : IsSound s.meta) (fresh : Opens K c) where
  -- a file that is found by its name
  named : (client : ℕ) (name : List ℕ) (f : File) → client ≡ c → file_named name s.meta.files ≡ Some f → K (with_change f.number (with_share client) s.meta) (opened client f)
  named client name f own e = fresh client s.meta f own (there_named s.meta sound name f e)

  -- ---- reads

  abbrev Reads : MetaView → ReadAt → Type 0
  Reads m at = IfSome (read_hand at).opened (K m)

  takes_on : (m : MetaView) (x : Reading) (next : ℕ) → K m x.opened → Reads m (reads.takes_from x next)
  takes_on m x next k = either (Reads m) (nat_lt next (length x.pieces)) (read.Take x next) (read.Confirm x) k k

  locks_on : (m : MetaView) (x : Reading) (next : ℕ) → K m x.opened → Reads m (reads.locks_from x next)
  locks_on m x next k = let first = next_object x.pieces 0 in either (Reads m) (nat_lt next (length x.pieces)) (read.Lock x next) (reads.takes_from x first) k (takes_on m x first k)

  module _ (r : ReadView) (own : r.client ≡ c) where
    read_shares : (f : File) (o : Option ℕ) → file_named r.name s.meta.files ≡ Some f → OnOpen K running.Read (shares_file r s f o)
    read_shares f (Some byte) e = tt
    read_shares f None e =
        let pieces = pieces_of f.layout.components r.range [] in
        locks_on (with_change f.number (with_share r.client) s.meta) (reading r.range (opened r.client f) [] pieces) (next_object pieces 0) (named r.client r.name f own e)

    read_opens : (o : Option File) → file_named r.name s.meta.files ≡ o → OnOpen K running.Read (opens_file r s o)
    read_opens None e = tt
    read_opens (Some f) e = read_shares f (unanswered f.layout r.range []) e

    read_locks : (x : Reading) (next : ℕ) (o : Option (ℕ × Range)) → K s.meta x.opened → OnOpen K running.Read (reads.locks_piece r s x next o)
    read_locks x next (Some told) k = tt
    read_locks x next None k = locks_on s.meta x (next_object x.pieces (next + 1)) k

    read_takes : (x : Reading) (next : ℕ) (p : Piece) (a : CallAnswer) → K s.meta x.opened → OnOpen K running.Read (takes_piece r s x next p a)
    read_takes x next p answer.Ok k = takes_on s.meta (with_answer s x next p) (next_object x.pieces (next + 1)) k
    read_takes x next p (answer.Old kept) k = k
    read_takes x next p answer.Failed k = k

    read_others : (x : Reading) (o : Option ℕ) → K s.meta x.opened → OnOpen K running.Read (others_answer r s x o)
    read_others x (Some byte) k = tt
    read_others x None k =
        let pieces = pieces_of x.opened.layout.components r.range (ids_of x.failed) in
        locks_on s.meta (reading r.range x.opened x.failed pieces) (next_object pieces 0) k

    read_looks : (x : Reading) (b : Bool) → K s.meta x.opened → OnOpen K running.Read (looks_again r s x b)
    read_looks x false k = tt
    read_looks x true k = read_others x (unanswered x.opened.layout r.range (ids_of x.failed)) k

    read_ends : (x : Reading) (o : Option ℕ) → OnOpen K running.Read (confirms_read r s x o)
    read_ends x None = tt
    read_ends x (Some size) = tt

    read_on : (at : ReadAt) → Reads s.meta at → OnOpen K running.Read (read_at at r s)
    read_on read.Open k = read_opens (file_named r.name s.meta.files) refl
    read_on (read.Lock x next) k = read_locks x next (blocker s.locks (reads.lock_for r (piece_at x.pieces next))) k
    read_on (read.Take x next) k = read_takes x next (piece_at x.pieces next) (read_answer (reads.target_of s (piece_at x.pieces next))) k
    read_on (read.Again x) k = read_looks x (holds x.opened.file x.opened.cookie s.meta) k
    read_on (read.Confirm x) k = read_ends x (confirms x.opened.file x.opened.cookie s.meta)
    read_on read.UnlockAgain k = tt
    read_on read.Unlock k = tt

  -- ---- verifies

  copies_on : (m : MetaView) (x : Verifying) (next : ℕ) → K m x.opened → IfSome (verify_hand (verifies.takes_from x next)).opened (K m)
  copies_on m x next k = either (λ (at : VerifyAt). IfSome (verify_hand at).opened (K m)) (nat_lt next (length x.copies)) (verify.Take x next) (verify.Close x None) k k

  module _ (v : VerifyView) (own : v.client ≡ c) where
    verify_opens : (o : Option File) → file_named v.name s.meta.files ≡ o → OnOpen K running.Verify (verifies.opens_file v s o)
    verify_opens None e = tt
    verify_opens (Some f) e =
        let copies = copies_of f.layout.components f.size in
        copies_on (with_change f.number (with_share v.client) s.meta) (verifying (opened v.client f) copies) (blocks.next_object copies 0) (named v.client v.name f own e)

    verify_takes : (x : Verifying) (next : ℕ) (p : Piece) (a : CallAnswer) → K s.meta x.opened → OnOpen K running.Verify (takes_copy v s x next p a)
    verify_takes x next p answer.Ok k = copies_on s.meta (verifies.with_answer s x next) (blocks.next_object x.copies (next + 1)) k
    verify_takes x next p (answer.Old kept) k = k
    verify_takes x next p answer.Failed k = k

    verify_ends : (x : Verifying) (fault : Option FailedCall) (b : Bool) → OnOpen K running.Verify (closes v s x fault b)
    verify_ends x fault false = tt
    verify_ends x fault true = tt

    verify_on : (at : VerifyAt) → IfSome (verify_hand at).opened (K s.meta) → OnOpen K running.Verify (verify_at at v s)
    verify_on verify.Open k = verify_opens (file_named v.name s.meta.files) refl
    verify_on (verify.Take x next) k = verify_takes x next (copy_at x.copies next).piece (read_answer (verifies.target_of s (copy_at x.copies next).piece)) k
    verify_on (verify.Close x fault) k = verify_ends x fault (holds x.opened.file x.opened.cookie s.meta)

  -- ---- files that are opened to be written

  abbrev Given : meta.Outcome Opened → Type 0
  Given (Gives o after) = K after o
  Given (Refuses answer) = Unit {0}
  Given (Waits holder) = Unit {0}

  given : (client : ℕ) (name : List ℕ) (range : Range) (step : ℕ) (too_big : Bool) → client ≡ c → Given (change_opens_file client range step s.meta name too_big (file_named name s.meta.files))
  given client name range step too_big own = open_cases Given client name range step s.meta too_big (record {
    refuses = λ answer. tt;
    waits = λ holder. tt;
    shared = λ f big e ready. named client name f own e;
    intended = λ f mirror big e primary alone. (
        let l : Composite = intended range mirror f.number s.meta.nexts f.layout in
        fresh client (with_intent range mirror step f s.meta) (with_layout l f) own (same_found f.number (with_layout l) s.meta.files f (λ y. refl) (there_named s.meta sound name f e))
        );
  })

  -- ---- writes

  abbrev Writes : WriteAt → Type 0
  Writes at = IfSome (write_hand at).opened (K s.meta)

  module _ (w : WriteView) (own : w.client ≡ c) where
    write_opened : (o : meta.Outcome Opened) → Given o → OnOpen K running.Write (opens w s o)
    write_opened (Gives o after) k = k
    write_opened (Refuses reply) k = tt
    write_opened (Waits holder) k = tt

    module _ (x : WritingView) (k : K s.meta x.opened) where
      write_locks : (next : ℕ) (o : Option (ℕ × Range)) → OnOpen K running.Write (writes.locks_piece w s x next o)
      write_locks next (Some told) = tt
      write_locks next None = either Writes (nat_lt (next + 1) (length x.pieces)) (write.Lock x (next + 1)) (write.Send x 0) k k

      sent_next : (evicted : Option ℕ) (next : ℕ) (came : Came) → Writes (after_send w evicted x next came)
      sent_next evicted next came.Accepted = either Writes (nat_lt (next + 1) (length x.pieces)) (write.Send x (next + 1)) (commits_to w x sent.All) k k
      sent_next evicted next came.TooOld = either Writes (nat_eq next 0) write.UnlockAgain (commits_to w x (sent.Old next (unwrap_or evicted 0))) tt k
      sent_next evicted next (came.Failed call) = k

    write_commits : (x : WritingView) (end : ℕ) (came : Sent) (b : Bool) → OnOpen K running.Write (commits_write w s x end came b)
    write_commits x end came true = tt
    write_commits x end came false = tt

    write_on : (at : WriteAt) (place : ℕ) → Writes at → OnOpen K running.Write (write_at at w place s)
    write_on write.Open place k = write_opened (write_opens w.client w.name (range_of w) place s.meta) (given w.client w.name (range_of w) place (nat_lt most_bytes (range_of w).end) own)
    write_on (write.Lock x next) place k = write_locks x k next (blocker s.locks (writes.lock_for w (piece_at x.pieces next)))
    write_on (write.Send x next) place k = sent_next x k (last_eviction w.client s.meta) next (came_of_piece s x (piece_at x.pieces next))
    write_on (write.Commit x end came) place k = write_commits x end came (is_there x.opened.file s.meta)
    write_on write.UnlockAgain place k = tt
    write_on write.Unlock place k = tt

  -- ---- truncates

  abbrev Cuts : CutAt → Type 0
  Cuts at = IfSome (cut_hand at).opened (K s.meta)

  module _ (t : TruncateView) (own : t.client ≡ c) where
    cut_opened : (o : meta.Outcome Opened) → Given o → OnOpen K running.Truncate (opens_cut t s o)
    cut_opened (Gives o after) k = k
    cut_opened (Refuses reply) k = tt
    cut_opened (Waits holder) k = tt

    module _ (x : CuttingView) (k : K s.meta x.opened) where
      punches_on : (next : ℕ) → Cuts (punches_from x next)
      punches_on next = either Cuts (nat_lt next (length x.tails)) (cut.Punch x next) (cut.Commit x sent.All) k k

      punched_next : (evicted : Option ℕ) (next : ℕ) (came : Came) → Cuts (after_punches evicted x next came)
      punched_next evicted next came.Accepted = punches_on (next + 1)
      punched_next evicted next came.TooOld = either Cuts (nat_eq next 0) cut.UnlockAgain (cut.Commit x (sent.Old next (unwrap_or evicted 0))) tt k
      punched_next evicted next (came.Failed call) = k

      cut_locks : (o : Option (ℕ × Range)) → OnOpen K running.Truncate (locks_tails t s x o)
      cut_locks (Some told) = tt
      cut_locks None = punches_on 0

    cut_commits : (x : CuttingView) (came : Sent) (b : Bool) → OnOpen K running.Truncate (commits_cut t s x came b)
    cut_commits x came true = tt
    cut_commits x came false = tt

    cut_on : (at : CutAt) (place : ℕ) → Cuts at → OnOpen K running.Truncate (truncate_at at t place s)
    cut_on cut.Open place k = cut_opened (cut_opens t.client t.name t.size place s.meta) (given t.client t.name (record { start = t.size; end = eof }) place (nat_lt most_bytes t.size) own)
    cut_on (cut.Lock x) place k = cut_locks x k (first_blocker (locks_for t x) s.locks)
    cut_on (cut.Punch x next) place k = punched_next x k (last_eviction t.client s.meta) next (came_of_tail s x (tail_at x.tails next))
    cut_on (cut.Commit x came) place k = cut_commits x came (is_there x.opened.file s.meta)
    cut_on cut.UnlockAgain place k = tt
    cut_on cut.Unlock place k = tt

  -- ---- each step

  widened : {C : Type 0} (f : C → Running) (o : Outcome C) → OnOpen K f o → OnOpen K (λ (x : Running). x) (widen f o)
  widened f (Going next after) h = h
  widened f (Fixed next reply takes after) h = h
  widened f (Ended after) h = tt
  widened f (Answered reply takes after) h = tt
  widened f (Blocked holder) h = tt

  copies : (o : Outcome CopyView) → OnOpen K running.Copy o
  copies (Going next after) = copy_none (K after.meta) next.at
  copies (Fixed next reply takes after) = copy_none (K after.meta) next.at
  copies (Ended after) = tt
  copies (Answered reply takes after) = tt
  copies (Blocked holder) = tt

  module _ (place : ℕ) where
    answers : (o : meta.Outcome Reply) → OnOpen K (λ (x : Running). x) (answered_by s o)
    answers (Gives answer after) = tt
    answers (Refuses answer) = tt
    answers (Waits holder) = tt

    at_once_on : (asked : Command) → OnOpen K (λ (x : Running). x) (at_once c asked place s)
    at_once_on (command.Lfs of) = answers (one_step c of place s.meta)
    at_once_on (command.Evict other) = tt
    at_once_on (command.Rot object offset byte) = tt
    at_once_on (command.Read name offset len) = tt
    at_once_on (command.Write name offset bytes) = tt
    at_once_on (command.Truncate name size) = tt

    -- a step of this client's call leaves of its open file what held before, as the metadata server was then, or what holds of each file that it opens
    pub step_on : (call : Running) (asked : Command) → IsCallOf c call → OfOpen (K s.meta) call → OnOpen K (λ (x : Running). x) (step_of call c asked place s)
    step_on running.Idle asked is k = at_once_on asked
    step_on (running.Read call) asked is k = widened running.Read (read_step call place s) (read_on call is call.at k)
    step_on (running.Write call) asked is k = widened running.Write (write_step call place s) (write_on call is.0 call.at place k)
    step_on (running.Truncate call) asked is k = widened running.Truncate (truncate_step call place s) (cut_on call is.0 call.at place k)
    step_on (running.Copy call) asked is k = widened running.Copy (copy_step call place s) (copies (copy_step call place s))
    step_on (running.Verify call) asked is k = widened running.Verify (verify_step call place s) (verify_on call is call.at k)
