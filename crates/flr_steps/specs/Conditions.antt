-- What the step that a client makes next wants of its command and of the servers.
use Rattle.std.specs.Prelude.{ℕ, ◌^◌, ◌<◌, ◌≤◌, List, length}
use Rattle.std.specs.Option.{ForSome}
use Rattle.object_target.specs.TargetState.{TargetState}
use Rattle.layout_lease.specs.Clients.{IsClient}
use Rattle.lfs_words.specs.declared.command.LfsCommand.{LfsCommand}
use Rattle.lfs_words.specs.declared.command.LfsCommand.TheVariants as lfs
use Rattle.script_values.specs.declared.command.Command.{Command}
use Rattle.script_values.specs.declared.command.Command.TheVariants as command
use Rattle.script_values.specs.Commands.{IsLength, most_offset}
use Rattle.script_values.specs.Scripts.{command_after}
use Rattle.meta_server.specs.declared.answers.CopyWhat.TheVariants as what
use Rattle.meta_server.specs.Conditions.{HasGenerationRoom, IsCopyOf, IsRoom}
use Rattle.meta_server.specs.Files.{MetaView}
use Rattle.call_steps.specs.Servers.{Servers}
use Rattle.client_read.specs.Fitting.{ReadFits}
use Rattle.client_write.specs.Fitting.{WriteFits}
use Rattle.client_write.specs.CutFitting.{TruncateFits}
use Rattle.resync_copy.specs.Fitting.{CopyFits}
use Rattle.mirror_verify.specs.Fitting.{VerifyFits}
use Rattle.flr_steps.specs.declared.client.Client.{Client}
use Rattle.flr_steps.specs.declared.client.Running.{Running}
use Rattle.flr_steps.specs.declared.client.Running.TheVariants as running
use Rattle.flr_steps.specs.Clients.{call_now}
use Rattle.flr_steps.specs.States.{State, client_at}

-- ---- what a command asks for

-- a copy that may be asked for: the ids of mirrors fit, and a file isn't taken in by itself
abbrev pub IsLfsAskable : LfsCommand → Type 0
IsLfsAskable (lfs.Resync name only) = IsCopyOf name (what.Resync only)
IsLfsAskable (lfs.Extend name spec) = IsCopyOf name (what.Extend spec)
IsLfsAskable (lfs.ExtendBy name victim) = IsCopyOf name (what.Victim victim)
IsLfsAskable other = Unit {0}

-- what a command asks for is within the limits: offsets, lengths and sizes, and whom it evicts. Every command of a script is so
abbrev pub IsAskable : Command → Type 0
IsAskable (command.Read name offset len) = (offset ≤ most_offset) × IsLength len
IsAskable (command.Write name offset bytes) = (offset ≤ 2 ^ 40) × IsLength (length bytes)
IsAskable (command.Truncate name size) = size ≤ 2 ^ 40
IsAskable (command.Lfs of) = IsLfsAskable of
IsAskable (command.Evict other) = IsClient other
IsAskable (command.Rot object offset byte) = offset < most_offset

-- ---- what a step asks of the servers

-- a command of one step: the number of a new file and generations leave room; the object whose byte rots is on a target that is there
abbrev pub AtOnceFits : Command → MetaView → List TargetState → Type 0
AtOnceFits (command.Lfs of) m targets = IsRoom m.next_file × HasGenerationRoom m
AtOnceFits (command.Rot object offset byte) m targets = object.target < length targets
AtOnceFits other m targets = Unit {0}

-- a step of this call, or of a command of one step
abbrev pub CallFits : Running → Command → Servers → Type 0
CallFits running.Idle asked s = AtOnceFits asked s.meta s.targets
CallFits (running.Read call) asked s = ReadFits call s
CallFits (running.Write call) asked s = WriteFits call s
CallFits (running.Truncate call) asked s = TruncateFits call s
CallFits (running.Copy call) asked s = CopyFits call s
CallFits (running.Verify call) asked s = VerifyFits call s.meta s.targets

-- ---- the next step

-- the client's step, by its next command: it is one of the 16, few commands are done, the command may be asked, and the servers have what its call wants
pub record StepFits (c : ℕ) (client : Client) (asked : Command) (s : Servers) : Type 0 where
  pub number : IsClient c
  pub few : client.done < 4096
  pub askable : IsAskable asked
  pub call : CallFits (call_now c client.call asked) asked s

-- in this state the client's next step finds what it wants; who isn't there, or has no command left, makes none
abbrev pub NextFits : State → ℕ → Type 0
NextFits s c = ForSome (client_at s.clients c) (λ client. ForSome (command_after s.script c client.done) (λ asked. StepFits c client asked s.shared))
