-- A call that goes on leaves the same bytes as before.
use Rattle.std.proofs.Common.{◌≡◌, ℕ, Bool, true, false, Option, Some, None, refl}
use Rattle.flr_base.specs.declared.reply.Range.{Range}
use Rattle.flr_base.specs.declared.reply.Reply.{Reply}
use Rattle.extent_lock.specs.Extents.{blocker}
use Rattle.script_values.specs.declared.command.Command.{Command}
use Rattle.script_values.specs.declared.command.Command.TheVariants as command
use Rattle.meta_server.specs.declared.answers.Opened.{Opened}
use Rattle.meta_server.specs.Closing.{is_there}
use Rattle.meta_server.specs.Opening.{write_opens}
use Rattle.meta_server.specs.Outcomes.{Gives, Refuses, Waits}
use Rattle.meta_server.specs.Outcomes as meta
use Rattle.mirror_admin.specs.OneStep.{one_step}
use Rattle.call_steps.specs.Pieces.{piece_at}
use Rattle.call_steps.specs.Servers.{Servers}
use Rattle.call_steps.specs.Steps.{Outcome, Going, Fixed, Ended, Answered, Blocked, widen}
use Rattle.client_read.specs.Reads.{read_step}
use Rattle.client_write.specs.declared.phase.Sent.{Sent}
use Rattle.client_write.specs.declared.phase.WriteAt.{WriteAt}
use Rattle.client_write.specs.declared.phase.WriteAt.TheVariants as write
use Rattle.client_write.specs.Calls.{WriteView}
use Rattle.client_write.specs.Truncates as cuts
use Rattle.client_write.specs.Views.{WritingView}
use Rattle.client_write.specs.Writes as writes
use Rattle.mirror_verify.specs.Verifies.{verify_step}
use Rattle.resync_copy.specs.Steps.{copy_step}
use Rattle.flr_steps.specs.declared.client.Running.{Running}
use Rattle.flr_steps.specs.declared.client.Running.TheVariants as running
use Rattle.flr_steps.specs.Commands.{answered_by, at_once, step_of}
use Rattle.flr_bytes.specs.Sentences.{new_byte}

-- who goes on leaves the same bytes
abbrev pub KeepsNew : Running → Outcome Running → Type 0
KeepsNew call (Going next after) = (x : ℕ) → new_byte next x ≡ new_byte call x
KeepsNew call (Fixed next reply takes after) = (x : ℕ) → new_byte next x ≡ new_byte call x
KeepsNew call (Ended after) = Unit {0}
KeepsNew call (Answered reply takes after) = Unit {0}
KeepsNew call (Blocked holder) = Unit {0}

-- a call that leaves none
none_new : {C : Type 0} (f : C → Running) (call : Running) → ((y : C) (x : ℕ) → new_byte (f y) x ≡ new_byte call x) → (o : Outcome C) → KeepsNew call (widen f o)
none_new f call same (Going next after) = same next
none_new f call same (Fixed next reply takes after) = same next
none_new f call same (Ended after) = tt
none_new f call same (Answered reply takes after) = tt
none_new f call same (Blocked holder) = tt

module _ (s : Servers) where
  module _ (w : WriteView) where
    abbrev OnWrite : Outcome WriteView → Type 0
    OnWrite o = KeepsNew (running.Write w) (widen running.Write o)

    opened : (o : meta.Outcome Opened) → OnWrite (writes.opens w s o)
    opened (Gives o after) = λ x. refl
    opened (Refuses reply) = tt
    opened (Waits holder) = tt

    locks : (v : WritingView) (next : ℕ) (b : Option (ℕ × Range)) → OnWrite (writes.locks_piece w s v next b)
    locks v next (Some told) = tt
    locks v next None = λ x. refl

    commits : (v : WritingView) (end : ℕ) (came : Sent) (b : Bool) → OnWrite (writes.commits_write w s v end came b)
    commits v end came true = λ x. refl
    commits v end came false = λ x. refl

    write_keeps : (a : WriteAt) (place : ℕ) → OnWrite (writes.write_at a w place s)
    write_keeps write.Open place = opened (write_opens w.client w.name (writes.range_of w) place s.meta)
    write_keeps (write.Lock v next) place = locks v next (blocker s.locks (writes.lock_for w (piece_at v.pieces next)))
    write_keeps (write.Send v next) place = λ x. refl
    write_keeps (write.Commit v end came) place = commits v end came (is_there v.opened.file s.meta)
    write_keeps write.UnlockAgain place = λ x. refl
    write_keeps write.Unlock place = tt

  answered : (o : meta.Outcome Reply) → KeepsNew running.Idle (answered_by s o)
  answered (Gives reply after) = tt
  answered (Refuses refusal) = tt
  answered (Waits holder) = tt

  once : (c : ℕ) (asked : Command) (place : ℕ) → KeepsNew running.Idle (at_once c asked place s)
  once c (command.Lfs of) place = answered (one_step c of place s.meta)
  once c (command.Evict other) place = tt
  once c (command.Rot object offset byte) place = tt
  once c (command.Read name offset len) place = tt
  once c (command.Write name offset bytes) place = tt
  once c (command.Truncate name size) place = tt

-- each call
pub keeps_new : (c : ℕ) (s : Servers) (call : Running) (asked : Command) (place : ℕ) → KeepsNew call (step_of call c asked place s)
keeps_new c s running.Idle asked place = once s c asked place
keeps_new c s (running.Read call) asked place = none_new running.Read (running.Read call) (λ y x. refl) (read_step call place s)
keeps_new c s (running.Write call) asked place = write_keeps s call call.at place
keeps_new c s (running.Truncate call) asked place = none_new running.Truncate (running.Truncate call) (λ y x. refl) (cuts.truncate_step call place s)
keeps_new c s (running.Copy call) asked place = none_new running.Copy (running.Copy call) (λ y x. refl) (copy_step call place s)
keeps_new c s (running.Verify call) asked place = none_new running.Verify (running.Verify call) (λ y x. refl) (verify_step call place s)
