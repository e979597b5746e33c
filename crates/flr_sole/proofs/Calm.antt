-- Each step that neither writes nor copies leaves the parts that lie in the only fresh components, and lowers no version.
use Rattle.std.proofs.Common.{◌≡◌, ℕ, Bool, true, false, cond, Option, Some, None, List, [], refl, subst}
use Rattle.flr_base.specs.declared.reply.FailedCall.{FailedCall}
use Rattle.flr_base.specs.declared.reply.ObjectId.{ObjectId}
use Rattle.flr_base.specs.declared.reply.Range.{Range}
use Rattle.flr_base.specs.declared.reply.Reply.{Reply}
use Rattle.flr_base.specs.declared.reply.Reply.TheVariants as reply
use Rattle.mirror_select.specs.declared.types.Piece.{Piece}
use Rattle.object_target.specs.declared.call.CallAnswer.{CallAnswer}
use Rattle.object_target.specs.declared.call.CallAnswer.TheVariants as answer
use Rattle.object_target.specs.Calls.{after_read, after_rot, read_answer}
use Rattle.extent_lock.specs.Extents.{blocker}
use Rattle.lfs_words.specs.declared.command.LfsCommand.{LfsCommand}
use Rattle.lfs_words.specs.declared.command.LfsCommand.TheVariants as lfs
use Rattle.lfs_words.specs.declared.command.SplitTo.{SplitTo}
use Rattle.lfs_words.specs.declared.command.SplitTo.TheVariants as split
use Rattle.script_values.specs.declared.command.Command.{Command}
use Rattle.script_values.specs.declared.command.Command.TheVariants as command
use Rattle.meta_server.specs.Closing.{confirms, holds}
use Rattle.meta_server.specs.Files.{File, file_named, with_freed, with_share}
use Rattle.meta_server.specs.Naming.{creates, removes, sets}
use Rattle.meta_server.specs.Outcomes.{Gives, Refuses, Waits}
use Rattle.meta_server.specs.Outcomes as meta
use Rattle.meta_server.specs.Sound.{IsSound}
use Rattle.meta_laws.specs.Calls.{Call, Create, Evict, Remove, Set, after_call, left_by}
use Rattle.lfs_words.specs.Naming.{default_name}
use Rattle.mirror_admin.specs.OneStep.{answered, one_step, shows}
use Rattle.mirror_admin.specs.Rotting.{is_kept, with_rot}
use Rattle.call_steps.specs.Pieces.{length_of, object_of, piece_at}
use Rattle.call_steps.specs.Servers.{Servers, target_at}
use Rattle.call_steps.specs.Steps.{Outcome, Going, Fixed, Ended, Answered, Blocked}
use Rattle.client_read.specs.declared.phase.ReadAt.{ReadAt}
use Rattle.client_read.specs.declared.phase.ReadAt.TheVariants as read
use Rattle.client_read.specs.declared.phase.Reading.{Reading}
use Rattle.client_read.specs.Reads.{confirms_read, ids_of, looks_again, opens_file, others_answer, read_at, shares_file, takes_piece, unanswered}
use Rattle.client_read.specs.Reads as reads
use Rattle.client_read.specs.Views.{ReadView}
use Rattle.mirror_verify.specs.declared.phase.VerifyAt.{VerifyAt}
use Rattle.mirror_verify.specs.declared.phase.VerifyAt.TheVariants as verify
use Rattle.mirror_verify.specs.declared.phase.Verifying.{Verifying}
use Rattle.mirror_verify.specs.Blocks.{copy_at}
use Rattle.mirror_verify.specs.Verifies.{closes, takes_copy, verify_at}
use Rattle.mirror_verify.specs.Verifies as verifies
use Rattle.mirror_verify.specs.Views.{VerifyView}
use Rattle.flr_numbers.proofs.Objects.{rot_version}
use Rattle.flr_steps.specs.Commands.{answered_by, at_once}
use Rattle.flr_claims.specs.Sending.{Part}
use Rattle.flr_sole.specs.Sentences.{StandsAlone}
use Rattle.flr_sole.proofs.Metas.{IsPlain, Spares, call_spares, locked, same}
use Rattle.flr_sole.proofs.Targets.{Grows, alike, still}

-- parts stay in the only fresh components, and no version falls
abbrev pub IsCalm : Servers → Servers → Type 0
IsCalm s after = Spares s.meta after.meta × Grows s.targets after.targets

-- so it is where a step is made
abbrev pub LeavesCalm : {C : Type 0} → Servers → Outcome C → Type 0
LeavesCalm s (Going next after) = IsCalm s after
LeavesCalm s (Fixed next reply takes after) = IsCalm s after
LeavesCalm s (Ended after) = IsCalm s after
LeavesCalm s (Answered reply takes after) = IsCalm s after
LeavesCalm s (Blocked holder) = Unit {0}

module _ (s : Servers) where
  pub calm : IsCalm s s
  calm = (same s.meta, still s.targets)

  -- a piece is read
  read_calm : (p : Piece) → Grows s.targets (reads.piece_read s p).targets
  read_calm p = alike s.targets (object_of p).target (after_read (target_at s.targets (object_of p).target) (object_of p).number p.offset (length_of p)) (λ n. refl)

  -- ---- reads

  module _ (r : ReadView) where
    read_shares : (f : File) (o : Option ℕ) → LeavesCalm s (shares_file r s f o)
    read_shares f (Some byte) = calm
    read_shares f None = (locked s.meta f.number (with_share r.client) (λ x. refl) (λ x. refl), still s.targets)

    read_opens : (o : Option File) → LeavesCalm s (opens_file r s o)
    read_opens None = calm
    read_opens (Some f) = read_shares f (unanswered f.layout r.range [])

    read_locks : (x : Reading) (next : ℕ) (o : Option (ℕ × Range)) → LeavesCalm s (reads.locks_piece r s x next o)
    read_locks x next (Some told) = tt
    read_locks x next None = calm

    read_takes : (x : Reading) (next : ℕ) (p : Piece) (a : CallAnswer) → LeavesCalm s (takes_piece r s x next p a)
    read_takes x next p answer.Ok = (same s.meta, read_calm p)
    read_takes x next p (answer.Old kept) = (same s.meta, read_calm p)
    read_takes x next p answer.Failed = (same s.meta, read_calm p)

    read_others : (x : Reading) (o : Option ℕ) → LeavesCalm s (others_answer r s x o)
    read_others x (Some byte) = (locked s.meta x.opened.file (with_freed x.opened.cookie) (λ y. refl) (λ y. refl), still s.targets)
    read_others x None = calm

    read_looks : (x : Reading) (b : Bool) → LeavesCalm s (looks_again r s x b)
    read_looks x false = calm
    read_looks x true = read_others x (unanswered x.opened.layout r.range (ids_of x.failed))

    read_ends : (x : Reading) (o : Option ℕ) → LeavesCalm s (confirms_read r s x o)
    read_ends x None = calm
    read_ends x (Some size) = (locked s.meta x.opened.file (with_freed x.opened.cookie) (λ y. refl) (λ y. refl), still s.targets)

    pub read_leaves : (at : ReadAt) → LeavesCalm s (read_at at r s)
    read_leaves read.Open = read_opens (file_named r.name s.meta.files)
    read_leaves (read.Lock x next) = read_locks x next (blocker s.locks (reads.lock_for r (piece_at x.pieces next)))
    read_leaves (read.Take x next) = read_takes x next (piece_at x.pieces next) (read_answer (reads.target_of s (piece_at x.pieces next)))
    read_leaves (read.Again x) = read_looks x (holds x.opened.file x.opened.cookie s.meta)
    read_leaves (read.Confirm x) = read_ends x (confirms x.opened.file x.opened.cookie s.meta)
    read_leaves read.UnlockAgain = calm
    read_leaves read.Unlock = calm

  -- ---- verifies

  module _ (v : VerifyView) where
    verify_opens : (o : Option File) → LeavesCalm s (verifies.opens_file v s o)
    verify_opens None = calm
    verify_opens (Some f) = (locked s.meta f.number (with_share v.client) (λ x. refl) (λ x. refl), still s.targets)

    verify_takes : (x : Verifying) (next : ℕ) (p : Piece) (a : CallAnswer) → LeavesCalm s (takes_copy v s x next p a)
    verify_takes x next p answer.Ok = (same s.meta, read_calm p)
    verify_takes x next p (answer.Old kept) = (same s.meta, read_calm p)
    verify_takes x next p answer.Failed = (same s.meta, read_calm p)

    verify_ends : (x : Verifying) (fault : Option FailedCall) (b : Bool) → LeavesCalm s (closes v s x fault b)
    verify_ends x fault false = calm
    verify_ends x fault true = (locked s.meta x.opened.file (with_freed x.opened.cookie) (λ y. refl) (λ y. refl), still s.targets)

    pub verify_leaves : (at : VerifyAt) → LeavesCalm s (verify_at at v s)
    verify_leaves verify.Open = verify_opens (file_named v.name s.meta.files)
    verify_leaves (verify.Take x next) = verify_takes x next (copy_at x.copies next).piece (read_answer (verifies.target_of s (copy_at x.copies next).piece))
    verify_leaves (verify.Close x fault) = verify_ends x fault (holds x.opened.file x.opened.cookie s.meta)

  -- ---- commands of one step

  module _ (client place : ℕ) (h : IsSound s.meta) where
    answer_by : (call : Call) (o : meta.Outcome Reply) → IsPlain call → after_call call s.meta ≡ left_by o s.meta → LeavesCalm s (answered_by s o)
    answer_by call (Gives answer after) plain e = (subst (Spares s.meta) e (call_spares s.meta h call plain), still s.targets)
    answer_by call (Refuses answer) plain e = calm
    answer_by call (Waits holder) plain e = tt

    same_left : (answer : Reply) (o : meta.Outcome (Unit {0})) → left_by o s.meta ≡ left_by (answered answer o) s.meta
    same_left answer (Gives given after) = refl
    same_left answer (Refuses refusal) = refl
    same_left answer (Waits holder) = refl

    shown : (name : List ℕ) (o : Option File) → LeavesCalm s (answered_by s (shows name s.meta o))
    shown name None = calm
    shown name (Some f) = calm

    removed : (name : List ℕ) (mirror : ℕ) (to : Option (List ℕ)) (answer : Reply) → LeavesCalm s (answered_by s (answered answer (removes client name mirror to place s.meta)))
    removed name mirror to answer = answer_by (Remove client name mirror to place) (answered answer (removes client name mirror to place s.meta)) tt (same_left answer (removes client name mirror to place s.meta))

    splits : (name : List ℕ) (mirror : ℕ) (to : SplitTo) → LeavesCalm s (answered_by s (one_step client (lfs.Split name mirror to) place s.meta))
    splits name mirror split.Default = removed name mirror (Some (default_name name mirror)) (reply.Split (default_name name mirror))
    splits name mirror (split.Named new) = removed name mirror (Some new) (reply.Split new)
    splits name mirror split.Destroy = removed name mirror None (reply.Removed mirror)

    lfs_leaves : (of : LfsCommand) → LeavesCalm s (answered_by s (one_step client of place s.meta))
    lfs_leaves (lfs.SetStripe name spec) = answer_by (Create name spec) (answered reply.Created (creates name spec s.meta)) tt (same_left reply.Created (creates name spec s.meta))
    lfs_leaves (lfs.GetStripe name) = shown name (file_named name s.meta.files)
    lfs_leaves (lfs.CompSet name id change) = answer_by (Set client name id change place) (answered reply.Set (sets client name id change place s.meta)) tt (same_left reply.Set (sets client name id change place s.meta))
    lfs_leaves (lfs.Create name spec) = answer_by (Create name spec) (answered reply.Created (creates name spec s.meta)) tt (same_left reply.Created (creates name spec s.meta))
    lfs_leaves (lfs.Extend name spec) = calm
    lfs_leaves (lfs.ExtendBy name victim) = calm
    lfs_leaves (lfs.Split name mirror to) = splits name mirror to
    lfs_leaves (lfs.Delete name mirror) = removed name mirror None (reply.Removed mirror)
    lfs_leaves (lfs.Resync name only) = calm
    lfs_leaves (lfs.Verify name) = calm

    rots : (object : ObjectId) (offset byte : ℕ) → LeavesCalm s (at_once client (command.Rot object offset byte) place s)
    rots object offset byte = (same s.meta, by (is_kept object s.targets))
      where
        by : (b : Bool) → Grows s.targets (cond b (with_rot object offset byte s.targets) s.targets)
        by true = alike s.targets object.target (after_rot (target_at s.targets object.target) object.number offset byte) (λ n. rot_version (target_at s.targets object.target) object.number offset byte n)
        by false = still s.targets

    pub once_leaves : (asked : Command) → LeavesCalm s (at_once client asked place s)
    once_leaves (command.Read name offset len) = tt
    once_leaves (command.Write name offset bytes) = tt
    once_leaves (command.Truncate name size) = tt
    once_leaves (command.Lfs of) = lfs_leaves of
    once_leaves (command.Evict other) = (call_spares s.meta h (Evict other place) tt, still s.targets)
    once_leaves (command.Rot object offset byte) = rots object offset byte

-- ---- what counts

-- of the parts that count each stays in the only fresh components, and no version falls
abbrev pub IsSparing : (ℕ → Part → Type 0) → Servers → Servers → Type 0
IsSparing counts s after = ((n : ℕ) (p : Part) → counts n p → StandsAlone s.meta.files n p → StandsAlone after.meta.files n p) × Grows s.targets after.targets

pub sparing : (counts : ℕ → Part → Type 0) (s after : Servers) → IsCalm s after → IsSparing counts s after
sparing counts s after calm = (λ n p counted stands. calm.0 n p stands, calm.1)
