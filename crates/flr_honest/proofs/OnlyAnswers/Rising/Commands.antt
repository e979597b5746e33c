-- Each step of a client's call.
use Rattle.std.proofs.Common.{◌≡◌, ℕ, Bool, true, false, cond, Option, Some, None, List, length, refl, sym, ap, subst, ◌∙◌, true≢false}
use Rattle.flr_base.specs.declared.reply.ObjectId.{ObjectId}
use Rattle.flr_base.specs.declared.reply.Reply.{Reply}
use Rattle.flr_base.specs.declared.reply.Reply.TheVariants as reply
use Rattle.lfs_words.specs.declared.command.LfsCommand.{LfsCommand}
use Rattle.lfs_words.specs.declared.command.LfsCommand.TheVariants as lfs
use Rattle.lfs_words.specs.declared.command.SplitTo.{SplitTo}
use Rattle.lfs_words.specs.declared.command.SplitTo.TheVariants as split
use Rattle.object_target.specs.Calls.{after_rot}
use Rattle.script_values.specs.declared.command.Command.{Command}
use Rattle.script_values.specs.declared.command.Command.TheVariants as command
use Rattle.script_values.specs.Work.{stripes_of_command, stripes_of_lfs}
use Rattle.client_read.specs.Reads.{new_read, read_step}
use Rattle.client_read.specs.Views.{ReadView}
use Rattle.client_write.specs.Calls.{TruncateView, WriteView}
use Rattle.client_write.specs.Truncates.{new_truncate, truncate_step}
use Rattle.client_write.specs.Writes.{new_write, write_step}
use Rattle.meta_server.specs.declared.answers.CopyWhat.TheVariants as what
use Rattle.meta_server.specs.Files.{File, file_named}
use Rattle.meta_server.specs.Naming.{creates, removes, sets}
use Rattle.meta_server.specs.Outcomes.{Gives, Refuses, Waits}
use Rattle.meta_server.specs.Outcomes as meta
use Rattle.meta_laws.specs.Calls.{Call, Create, Evict, Remove, Set, after_call, left_by}
use Rattle.meta_growth.specs.Growth.{stripes_of_call}
use Rattle.lfs_words.specs.Naming.{default_name}
use Rattle.mirror_admin.specs.OneStep.{answered, one_step, shows}
use Rattle.mirror_admin.specs.Rotting.{is_kept, with_rot}
use Rattle.mirror_verify.specs.Verifies.{new_verify, verify_step}
use Rattle.mirror_verify.specs.Views.{VerifyView}
use Rattle.resync_copy.specs.declared.phase.CopyAt.{CopyAt}
use Rattle.resync_copy.specs.declared.phase.CopyAt.TheVariants as at
use Rattle.resync_copy.specs.Calls.{CopyView}
use Rattle.resync_copy.specs.Copies.{new_copy}
use Rattle.resync_copy.specs.Steps.{copy_step}
use Rattle.call_steps.specs.Servers.{Servers, target_at}
use Rattle.call_steps.specs.Steps.{Outcome, Going, Fixed, Ended, Answered, Blocked, widen}
use Rattle.flr_steps.specs.declared.client.Running.{Running}
use Rattle.flr_steps.specs.declared.client.Running.TheVariants as running
use Rattle.flr_steps.specs.Clients.{call_now}
use Rattle.flr_steps.specs.Commands.{answered_by, at_once, begun_lfs, step_of}
use Rattle.flr_steps.specs.Traces.{copy_begins, is_idle}
use Rattle.flr_honest.proofs.OnlyAnswers.Rising.CopySteps.{IsPast, copy_does, copy_past, stripes_at}
use Rattle.flr_honest.proofs.OnlyAnswers.Rising.Outcomes.{Does, OnLeft, OnNext, called_meta, left_widened, next_widened, uncalled, unchanged}
use Rattle.flr_honest.proofs.OnlyAnswers.Rising.ReadSteps.{read_does, verify_does}
use Rattle.flr_honest.proofs.OnlyAnswers.Rising.WriteSteps.{truncate_does, write_does}

-- ---- calls under way

-- a copy is past its begin
abbrev pub IsBegun : Running → Type 0
IsBegun running.Idle = Unit {0}
IsBegun (running.Read call) = Unit {0}
IsBegun (running.Write call) = Unit {0}
IsBegun (running.Truncate call) = Unit {0}
IsBegun (running.Copy call) = IsPast call
IsBegun (running.Verify call) = Unit {0}

-- a call is under way, and a copy past its begin
abbrev pub IsUnderWay : Running → Type 0
IsUnderWay call = (is_idle call ≡ false) × IsBegun call

-- the stripes that the client's next step makes: those that its next command names, if that step begins it
abbrev pub stripes_now : ℕ → Running → Command → ℕ
stripes_now targets running.Idle asked = stripes_of_command targets asked
stripes_now targets (running.Read call) asked = 0
stripes_now targets (running.Write call) asked = 0
stripes_now targets (running.Truncate call) asked = 0
stripes_now targets (running.Copy call) asked = 0
stripes_now targets (running.Verify call) asked = 0

-- ---- commands of one step

module _ (client place : ℕ) (s : Servers) where
  -- an answer of the metadata server to this call
  by_call : (call : Call) (o : meta.Outcome Reply) → left_by o s.meta ≡ after_call call s.meta → OnLeft (Does (stripes_of_call (length s.meta.nexts) call) s) (answered_by s o)
  by_call call (Gives answer after) e = called_meta s call after s.locks e
  by_call call (Refuses answer) e = unchanged s (stripes_of_call (length s.meta.nexts) call) s.locks
  by_call call (Waits holder) e = tt

  same_left : (answer : Reply) (o : meta.Outcome (Unit {0})) → left_by (answered answer o) s.meta ≡ left_by o s.meta
  same_left answer (Gives given after) = refl
  same_left answer (Refuses refusal) = refl
  same_left answer (Waits holder) = refl

  shows_layout : (name : List ℕ) (o : Option File) → OnLeft (Does 0 s) (answered_by s (shows name s.meta o))
  shows_layout name None = unchanged s 0 s.locks
  shows_layout name (Some f) = unchanged s 0 s.locks

  removed : (name : List ℕ) (mirror : ℕ) (to : Option (List ℕ)) (answer : Reply) → OnLeft (Does 0 s) (answered_by s (answered answer (removes client name mirror to place s.meta)))
  removed name mirror to answer = by_call (Remove client name mirror to place) (answered answer (removes client name mirror to place s.meta)) (same_left answer (removes client name mirror to place s.meta))

  splits : (name : List ℕ) (mirror : ℕ) (to : SplitTo) → OnLeft (Does 0 s) (answered_by s (one_step client (lfs.Split name mirror to) place s.meta))
  splits name mirror split.Default = removed name mirror (Some (default_name name mirror)) (reply.Split (default_name name mirror))
  splits name mirror (split.Named new) = removed name mirror (Some new) (reply.Split new)
  splits name mirror split.Destroy = removed name mirror None (reply.Removed mirror)

  lfs_does : (of : LfsCommand) → OnLeft (Does (stripes_of_lfs (length s.meta.nexts) of) s) (answered_by s (one_step client of place s.meta))
  lfs_does (lfs.SetStripe name spec) = by_call (Create name spec) (answered reply.Created (creates name spec s.meta)) (same_left reply.Created (creates name spec s.meta))
  lfs_does (lfs.GetStripe name) = shows_layout name (file_named name s.meta.files)
  lfs_does (lfs.CompSet name id change) = by_call (Set client name id change place) (answered reply.Set (sets client name id change place s.meta)) (same_left reply.Set (sets client name id change place s.meta))
  lfs_does (lfs.Create name spec) = by_call (Create name spec) (answered reply.Created (creates name spec s.meta)) (same_left reply.Created (creates name spec s.meta))
  lfs_does (lfs.Extend name spec) = unchanged s (stripes_of_lfs (length s.meta.nexts) (lfs.Extend name spec)) s.locks
  lfs_does (lfs.ExtendBy name victim) = unchanged s 0 s.locks
  lfs_does (lfs.Split name mirror to) = splits name mirror to
  lfs_does (lfs.Delete name mirror) = removed name mirror None (reply.Removed mirror)
  lfs_does (lfs.Resync name only) = unchanged s 0 s.locks
  lfs_does (lfs.Verify name) = unchanged s 0 s.locks

  rots : (object : ObjectId) (offset byte : ℕ) (b : Bool) → Does 0 s (record s { targets = cond b (with_rot object offset byte s.targets) s.targets })
  rots object offset byte true = uncalled s object.target (after_rot (target_at s.targets object.target) object.number offset byte) refl refl
  rots object offset byte false = unchanged s 0 s.locks

  once_does : (asked : Command) → OnLeft (Does (stripes_of_command (length s.meta.nexts) asked) s) (at_once client asked place s)
  once_does (command.Read name offset len) = tt
  once_does (command.Write name offset bytes) = tt
  once_does (command.Truncate name size) = tt
  once_does (command.Lfs of) = lfs_does of
  once_does (command.Evict other) = called_meta s (Evict other place) (after_call (Evict other place) s.meta) s.locks refl
  once_does (command.Rot object offset byte) = rots object offset byte (is_kept object s.targets)

  answered_next : (o : meta.Outcome Reply) → OnNext IsUnderWay (answered_by s o)
  answered_next (Gives answer after) = tt
  answered_next (Refuses answer) = tt
  answered_next (Waits holder) = tt

  once_next : (asked : Command) → OnNext IsUnderWay (at_once client asked place s)
  once_next (command.Read name offset len) = tt
  once_next (command.Write name offset bytes) = tt
  once_next (command.Truncate name size) = tt
  once_next (command.Lfs of) = answered_next (one_step client of place s.meta)
  once_next (command.Evict other) = tt
  once_next (command.Rot object offset byte) = tt

-- ---- calls of several steps

next_of : {C : Type 0} (f : C → Running) → ((c : C) → IsUnderWay (f c)) → (o : Outcome C) → OnNext IsUnderWay (widen f o)
next_of f way (Going next after) = way next
next_of f way (Fixed next reply takes after) = way next
next_of f way (Ended after) = tt
next_of f way (Answered reply takes after) = tt
next_of f way (Blocked holder) = tt

module _ (client place : ℕ) (asked : Command) (s : Servers) where
  reads : (call : ReadView) → OnLeft (Does 0 s) (step_of (running.Read call) client asked place s)
  reads call = left_widened (Does 0 s) running.Read (read_step call place s) (read_does call place s)

  writes : (call : WriteView) → OnLeft (Does 0 s) (step_of (running.Write call) client asked place s)
  writes call = left_widened (Does 0 s) running.Write (write_step call place s) (write_does call place s)

  truncates : (call : TruncateView) → OnLeft (Does 0 s) (step_of (running.Truncate call) client asked place s)
  truncates call = left_widened (Does 0 s) running.Truncate (truncate_step call place s) (truncate_does call place s)

  verifies : (call : VerifyView) → OnLeft (Does 0 s) (step_of (running.Verify call) client asked place s)
  verifies call = left_widened (Does 0 s) running.Verify (verify_step call place s) (verify_does call place s)

  read_next : (call : ReadView) → OnNext IsUnderWay (step_of (running.Read call) client asked place s)
  read_next call = next_of running.Read (λ c. (refl, tt)) (read_step call place s)

  write_next : (call : WriteView) → OnNext IsUnderWay (step_of (running.Write call) client asked place s)
  write_next call = next_of running.Write (λ c. (refl, tt)) (write_step call place s)

  truncate_next : (call : TruncateView) → OnNext IsUnderWay (step_of (running.Truncate call) client asked place s)
  truncate_next call = next_of running.Truncate (λ c. (refl, tt)) (truncate_step call place s)

  verify_next : (call : VerifyView) → OnNext IsUnderWay (step_of (running.Verify call) client asked place s)
  verify_next call = next_of running.Verify (λ c. (refl, tt)) (verify_step call place s)

  copy_next : (call : CopyView) → OnNext IsUnderWay (step_of (running.Copy call) client asked place s)
  copy_next call = next_widened IsPast IsUnderWay running.Copy (copy_step call place s) (λ c past. (refl, past)) (copy_past call place s)

  -- a copy past its begin makes no mirrors
  copies_on : (call : CopyView) → IsPast call → OnLeft (Does 0 s) (step_of (running.Copy call) client asked place s)
  copies_on call past = left_widened (Does 0 s) running.Copy (copy_step call place s) (on call.at refl)
    where
      on : (at : CopyAt) → call.at ≡ at → OnLeft (Does 0 s) (copy_step call place s)
      on at.Begin e = let begun : copy_begins call.at ≡ true = ap copy_begins e in absurd (true≢false (sym begun ∙ past))
      on (at.Copy next) e = subst (λ (a : CopyAt). OnLeft (Does (stripes_at (length s.meta.nexts) call a) s) (copy_step call place s)) e (copy_does call place s)
      on (at.Merge next) e = subst (λ (a : CopyAt). OnLeft (Does (stripes_at (length s.meta.nexts) call a) s) (copy_step call place s)) e (copy_does call place s)

-- a command with mirrors begins
lfs_begins : (client place : ℕ) (s : Servers) (of : LfsCommand) → OnLeft (Does (stripes_of_lfs (length s.meta.nexts) of) s) (step_of (begun_lfs client of) client (command.Lfs of) place s)
lfs_begins client place s (lfs.Extend name spec) =
    left_widened (Does (stripes_of_lfs (length s.meta.nexts) (lfs.Extend name spec)) s) running.Copy (copy_step (new_copy client name (what.Extend spec)) place s) (copy_does (new_copy client name (what.Extend spec)) place s)
lfs_begins client place s (lfs.ExtendBy name victim) = left_widened (Does 0 s) running.Copy (copy_step (new_copy client name (what.Victim victim)) place s) (copy_does (new_copy client name (what.Victim victim)) place s)
lfs_begins client place s (lfs.Resync name only) = left_widened (Does 0 s) running.Copy (copy_step (new_copy client name (what.Resync only)) place s) (copy_does (new_copy client name (what.Resync only)) place s)
lfs_begins client place s (lfs.Verify name) = verifies client place (command.Lfs (lfs.Verify name)) s (new_verify client name)
lfs_begins client place s (lfs.SetStripe name spec) = once_does client place s (command.Lfs (lfs.SetStripe name spec))
lfs_begins client place s (lfs.GetStripe name) = once_does client place s (command.Lfs (lfs.GetStripe name))
lfs_begins client place s (lfs.CompSet name id change) = once_does client place s (command.Lfs (lfs.CompSet name id change))
lfs_begins client place s (lfs.Create name spec) = once_does client place s (command.Lfs (lfs.Create name spec))
lfs_begins client place s (lfs.Split name mirror to) = once_does client place s (command.Lfs (lfs.Split name mirror to))
lfs_begins client place s (lfs.Delete name mirror) = once_does client place s (command.Lfs (lfs.Delete name mirror))

-- ---- each step

-- a step of a call under way, or of the next command, makes no other stripes than those that this command names where it begins
pub step_does : (client place : ℕ) (s : Servers) (call : Running) (asked : Command) → IsBegun call → OnLeft (Does (stripes_now (length s.meta.nexts) call asked) s) (step_of (call_now client call asked) client asked place s)
step_does client place s running.Idle (command.Read name offset len) h = reads client place (command.Read name offset len) s (new_read client name offset len)
step_does client place s running.Idle (command.Write name offset bytes) h = writes client place (command.Write name offset bytes) s (new_write client name offset bytes)
step_does client place s running.Idle (command.Truncate name size) h = truncates client place (command.Truncate name size) s (new_truncate client name size)
step_does client place s running.Idle (command.Lfs of) h = lfs_begins client place s of
step_does client place s running.Idle (command.Evict other) h = once_does client place s (command.Evict other)
step_does client place s running.Idle (command.Rot object offset byte) h = once_does client place s (command.Rot object offset byte)
step_does client place s (running.Read call) asked h = reads client place asked s call
step_does client place s (running.Write call) asked h = writes client place asked s call
step_does client place s (running.Truncate call) asked h = truncates client place asked s call
step_does client place s (running.Copy call) asked h = copies_on client place asked s call h
step_does client place s (running.Verify call) asked h = verifies client place asked s call

lfs_next : (client place : ℕ) (s : Servers) (of : LfsCommand) → OnNext IsUnderWay (step_of (begun_lfs client of) client (command.Lfs of) place s)
lfs_next client place s (lfs.Extend name spec) = copy_next client place (command.Lfs (lfs.Extend name spec)) s (new_copy client name (what.Extend spec))
lfs_next client place s (lfs.ExtendBy name victim) = copy_next client place (command.Lfs (lfs.ExtendBy name victim)) s (new_copy client name (what.Victim victim))
lfs_next client place s (lfs.Resync name only) = copy_next client place (command.Lfs (lfs.Resync name only)) s (new_copy client name (what.Resync only))
lfs_next client place s (lfs.Verify name) = verify_next client place (command.Lfs (lfs.Verify name)) s (new_verify client name)
lfs_next client place s (lfs.SetStripe name spec) = once_next client place s (command.Lfs (lfs.SetStripe name spec))
lfs_next client place s (lfs.GetStripe name) = once_next client place s (command.Lfs (lfs.GetStripe name))
lfs_next client place s (lfs.CompSet name id change) = once_next client place s (command.Lfs (lfs.CompSet name id change))
lfs_next client place s (lfs.Create name spec) = once_next client place s (command.Lfs (lfs.Create name spec))
lfs_next client place s (lfs.Split name mirror to) = once_next client place s (command.Lfs (lfs.Split name mirror to))
lfs_next client place s (lfs.Delete name mirror) = once_next client place s (command.Lfs (lfs.Delete name mirror))

-- what goes on is under way
pub step_next : (client place : ℕ) (s : Servers) (call : Running) (asked : Command) → OnNext IsUnderWay (step_of (call_now client call asked) client asked place s)
step_next client place s running.Idle (command.Read name offset len) = read_next client place (command.Read name offset len) s (new_read client name offset len)
step_next client place s running.Idle (command.Write name offset bytes) = write_next client place (command.Write name offset bytes) s (new_write client name offset bytes)
step_next client place s running.Idle (command.Truncate name size) = truncate_next client place (command.Truncate name size) s (new_truncate client name size)
step_next client place s running.Idle (command.Lfs of) = lfs_next client place s of
step_next client place s running.Idle (command.Evict other) = once_next client place s (command.Evict other)
step_next client place s running.Idle (command.Rot object offset byte) = once_next client place s (command.Rot object offset byte)
step_next client place s (running.Read call) asked = read_next client place asked s call
step_next client place s (running.Write call) asked = write_next client place asked s call
step_next client place s (running.Truncate call) asked = truncate_next client place asked s call
step_next client place s (running.Copy call) asked = copy_next client place asked s call
step_next client place s (running.Verify call) asked = verify_next client place asked s call
