-- How many mirrors files have after each step of a client's call.
use Rattle.std.proofs.Common.{◌≡◌, ℕ, ◌≤◌, Option, Some, None, List, refl, arith}
use Rattle.flr_base.specs.declared.reply.Reply.{Reply}
use Rattle.flr_base.specs.declared.reply.Reply.TheVariants as reply
use Rattle.lfs_words.specs.declared.command.LfsCommand.{LfsCommand}
use Rattle.lfs_words.specs.declared.command.LfsCommand.TheVariants as lfs
use Rattle.lfs_words.specs.declared.command.SplitTo.{SplitTo}
use Rattle.lfs_words.specs.declared.command.SplitTo.TheVariants as split
use Rattle.lfs_words.specs.Facts.{IsSound}
use Rattle.script_values.specs.declared.command.Command.{Command}
use Rattle.script_values.specs.declared.command.Command.TheVariants as command
use Rattle.script_values.specs.Commands.{IsCommand}
use Rattle.meta_server.specs.Files.{File, file_named}
use Rattle.meta_server.specs.Naming.{creates, removes, sets}
use Rattle.meta_server.specs.Outcomes.{Gives, Refuses, Waits}
use Rattle.meta_server.specs.Outcomes as meta
use Rattle.meta_laws.specs.Calls.{Call, Create, Evict, Remove, Set, after_call, left_by}
use Rattle.lfs_words.specs.Naming.{default_name}
use Rattle.mirror_admin.specs.OneStep.{answered, one_step, shows}
use Rattle.client_read.specs.Reads.{read_step}
use Rattle.client_write.specs.Truncates.{truncate_step}
use Rattle.client_write.specs.Writes.{write_step}
use Rattle.mirror_verify.specs.Verifies.{verify_step}
use Rattle.resync_copy.specs.Steps.{copy_step}
use Rattle.call_steps.specs.Servers.{Servers}
use Rattle.flr_steps.specs.declared.client.Running.{Running}
use Rattle.flr_steps.specs.declared.client.Running.TheVariants as running
use Rattle.flr_steps.specs.Commands.{answered_by, at_once, step_of}
use Rattle.flr_numbers.specs.Hands.{Has}
use Rattle.flr_numbers.specs.Sentences.{IsCallOf, hand_of}
use Rattle.flr_numbers.proofs.Commands.{lfs_sound}
use Rattle.flr_bound.proofs.Outcomes.{left_widened}
use Rattle.flr_mirrors.proofs.CopySteps.{copy_leaves}
use Rattle.flr_mirrors.proofs.Files.{HasFew, IsAskedFor, call_few}
use Rattle.flr_mirrors.proofs.Steps.{LeavesFew, by_call, read_leaves, truncate_leaves, verify_leaves, write_leaves}

module _ (most targets clients : ℕ) (some : 1 ≤ most) (low : most ≤ 32) (client place : ℕ) (s : Servers) (h : HasFew most s.meta) where
  -- ---- commands of one step

  -- an answer of the metadata server to this call
  answer_by : (call : Call) (o : meta.Outcome Reply) → IsAskedFor most s.meta call → after_call call s.meta ≡ left_by o s.meta → LeavesFew most (answered_by s o)
  answer_by call (Gives answer after) asked e = by_call most s.meta after call h asked e
  answer_by call (Refuses answer) asked e = h
  answer_by call (Waits holder) asked e = tt

  same_left : (answer : Reply) (o : meta.Outcome (Unit {0})) → left_by o s.meta ≡ left_by (answered answer o) s.meta
  same_left answer (Gives given after) = refl
  same_left answer (Refuses refusal) = refl
  same_left answer (Waits holder) = refl

  shown : (name : List ℕ) (o : Option File) → LeavesFew most (answered_by s (shows name s.meta o))
  shown name None = h
  shown name (Some f) = h

  removed : (name : List ℕ) (mirror : ℕ) (to : Option (List ℕ)) (answer : Reply) → LeavesFew most (answered_by s (answered answer (removes client name mirror to place s.meta)))
  removed name mirror to answer = answer_by (Remove client name mirror to place) (answered answer (removes client name mirror to place s.meta)) tt (same_left answer (removes client name mirror to place s.meta))

  splits : (name : List ℕ) (mirror : ℕ) (to : SplitTo) → LeavesFew most (answered_by s (one_step client (lfs.Split name mirror to) place s.meta))
  splits name mirror split.Default = removed name mirror (Some (default_name name mirror)) (reply.Split (default_name name mirror))
  splits name mirror (split.Named new) = removed name mirror (Some new) (reply.Split new)
  splits name mirror split.Destroy = removed name mirror None (reply.Removed mirror)

  lfs_leaves : (of : LfsCommand) → IsSound most of → LeavesFew most (answered_by s (one_step client of place s.meta))
  lfs_leaves (lfs.SetStripe name spec) sound =
      let one = sound.1.1 in
      answer_by (Create name spec) (answered reply.Created (creates name spec s.meta)) (sound.1.0, omega (arith, one, some)) (same_left reply.Created (creates name spec s.meta))
  lfs_leaves (lfs.GetStripe name) sound = shown name (file_named name s.meta.files)
  lfs_leaves (lfs.CompSet name id change) sound = answer_by (Set client name id change place) (answered reply.Set (sets client name id change place s.meta)) tt (same_left reply.Set (sets client name id change place s.meta))
  lfs_leaves (lfs.Create name spec) sound = answer_by (Create name spec) (answered reply.Created (creates name spec s.meta)) sound.1 (same_left reply.Created (creates name spec s.meta))
  lfs_leaves (lfs.Extend name spec) sound = h
  lfs_leaves (lfs.ExtendBy name victim) sound = h
  lfs_leaves (lfs.Split name mirror to) sound = splits name mirror to
  lfs_leaves (lfs.Delete name mirror) sound = removed name mirror None (reply.Removed mirror)
  lfs_leaves (lfs.Resync name only) sound = h
  lfs_leaves (lfs.Verify name) sound = h

  once_leaves : (asked : Command) → IsCommand most targets clients asked → LeavesFew most (at_once client asked place s)
  once_leaves (command.Read name offset len) good = tt
  once_leaves (command.Write name offset bytes) good = tt
  once_leaves (command.Truncate name size) good = tt
  once_leaves (command.Lfs of) good = lfs_leaves of (lfs_sound most of low good)
  once_leaves (command.Evict other) good = call_few most s.meta h (Evict other place) tt
  once_leaves (command.Rot object offset byte) good = h

  -- ---- each step

  pub step_leaves : (call : Running) (asked : Command) → IsCommand most targets clients asked → IsCallOf client call → Has client s.meta s.locks (hand_of call) → LeavesFew most (step_of call client asked place s)
  step_leaves running.Idle asked good is has = once_leaves asked good
  step_leaves (running.Read call) asked good is has = left_widened (λ (after : Servers). HasFew most after.meta) running.Read (read_step call place s) (read_leaves most s h call call.at)
  step_leaves (running.Write call) asked good is has = left_widened (λ (after : Servers). HasFew most after.meta) running.Write (write_step call place s) (write_leaves most s h call place call.at)
  step_leaves (running.Truncate call) asked good is has = left_widened (λ (after : Servers). HasFew most after.meta) running.Truncate (truncate_step call place s) (truncate_leaves most s h call place call.at)
  step_leaves (running.Copy call) asked good is has = left_widened (λ (after : Servers). HasFew most after.meta) running.Copy (copy_step call place s) (copy_leaves most s h call client is.2 call.at has)
  step_leaves (running.Verify call) asked good is has = left_widened (λ (after : Servers). HasFew most after.meta) running.Verify (verify_step call place s) (verify_leaves most s h call call.at)
