-- The step that a command of a client makes next.
use Rattle.std.specs.Prelude.{ℕ, []}
use Rattle.flr_base.specs.declared.reply.Reply.{Reply}
use Rattle.flr_base.specs.declared.reply.Reply.TheVariants as reply
use Rattle.lfs_words.specs.declared.command.LfsCommand.{LfsCommand}
use Rattle.lfs_words.specs.declared.command.LfsCommand.TheVariants as lfs
use Rattle.script_values.specs.declared.command.Command.{Command}
use Rattle.script_values.specs.declared.command.Command.TheVariants as command
use Rattle.meta_server.specs.declared.answers.CopyWhat.TheVariants as what
use Rattle.meta_server.specs.Files.{with_eviction}
use Rattle.meta_server.specs.Outcomes.{Gives, Refuses, Waits}
use Rattle.meta_server.specs.Outcomes as meta
use Rattle.call_steps.specs.Servers.{Servers}
use Rattle.call_steps.specs.Steps.{Outcome, Answered, Blocked, widen}
use Rattle.client_read.specs.Reads.{new_read, read_step}
use Rattle.client_write.specs.Writes.{new_write, write_step}
use Rattle.client_write.specs.Truncates.{new_truncate, truncate_step}
use Rattle.resync_copy.specs.Copies.{new_copy}
use Rattle.resync_copy.specs.Steps.{copy_step}
use Rattle.mirror_verify.specs.Verifies.{new_verify, verify_step}
use Rattle.mirror_admin.specs.OneStep.{one_step}
use Rattle.mirror_admin.specs.Rotting.{is_kept, rot_reply, rotted}
use Rattle.flr_steps.specs.declared.client.Running.{Running}
use Rattle.flr_steps.specs.declared.client.Running.TheVariants as running

-- ---- commands that take several steps

abbrev pub begun_lfs : ℕ → LfsCommand → Running
begun_lfs client (lfs.Resync name only) = running.Copy (new_copy client name (what.Resync only))
begun_lfs client (lfs.Extend name spec) = running.Copy (new_copy client name (what.Extend spec))
begun_lfs client (lfs.ExtendBy name victim) = running.Copy (new_copy client name (what.Victim victim))
begun_lfs client (lfs.Verify name) = running.Verify (new_verify client name)
begun_lfs client other = running.Idle

-- the call that a command is, before its first step; a command of one step is none
abbrev pub begun : ℕ → Command → Running
begun client (command.Read name offset len) = running.Read (new_read client name offset len)
begun client (command.Write name offset bytes) = running.Write (new_write client name offset bytes)
begun client (command.Truncate name size) = running.Truncate (new_truncate client name size)
begun client (command.Lfs of) = begun_lfs client of
begun client (command.Evict other) = running.Idle
begun client (command.Rot object offset byte) = running.Idle

-- ---- commands of one step

-- an answer of the metadata server alone ends the command
abbrev pub answered_by : Servers → meta.Outcome Reply → Outcome Running
answered_by s (Gives answer after) = Answered answer [] (record s { meta = after })
answered_by s (Refuses answer) = Answered answer [] s
answered_by s (Waits holder) = Blocked holder

-- a command of one step, at this place. The other commands aren't among them
abbrev pub at_once : ℕ → Command → ℕ → Servers → Outcome Running
at_once client (command.Lfs of) place s = answered_by s (one_step client of place s.meta)
at_once client (command.Evict other) place s = Answered (reply.EvictedClient other) [] (record s { meta = with_eviction other place s.meta })
at_once client (command.Rot object offset byte) place s =
    Answered (rot_reply (is_kept object s.targets)) [] (record s { targets = rotted object offset byte s.targets })
at_once client other place s = Blocked client

-- ---- each step

-- a step of this call, or of a command of one step, at this place
abbrev pub step_of : Running → ℕ → Command → ℕ → Servers → Outcome Running
step_of running.Idle client asked place s = at_once client asked place s
step_of (running.Read call) client asked place s = widen running.Read (read_step call place s)
step_of (running.Write call) client asked place s = widen running.Write (write_step call place s)
step_of (running.Truncate call) client asked place s = widen running.Truncate (truncate_step call place s)
step_of (running.Copy call) client asked place s = widen running.Copy (copy_step call place s)
step_of (running.Verify call) client asked place s = widen running.Verify (verify_step call place s)
