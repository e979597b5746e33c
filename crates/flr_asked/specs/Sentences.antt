-- Of which command a running call is.
use Rattle.std.specs.Prelude.{◌≡◌, ℕ, Some}
use Rattle.client_read.specs.declared.phase.ReadAt.TheVariants as read
use Rattle.client_write.specs.declared.phase.CutAt.TheVariants as cut
use Rattle.client_write.specs.declared.phase.WriteAt.TheVariants as write
use Rattle.mirror_verify.specs.declared.phase.VerifyAt.TheVariants as verify
use Rattle.resync_copy.specs.declared.phase.CopyAt.TheVariants as copy
use Rattle.script_values.specs.declared.command.Command.{Command}
use Rattle.script_values.specs.Scripts.{command_after}
use Rattle.flr_steps.specs.declared.client.Client.{Client}
use Rattle.flr_steps.specs.declared.client.Running.{Running}
use Rattle.flr_steps.specs.declared.client.Running.TheVariants as running
use Rattle.flr_steps.specs.Commands.{begun}
use Rattle.flr_steps.specs.States.{State, client_at}

-- the call as it was before its first step
abbrev pub at_start : Running → Running
at_start running.Idle = running.Idle
at_start (running.Read call) = running.Read (record call { at = read.Open })
at_start (running.Write call) = running.Write (record call { at = write.Open })
at_start (running.Truncate call) = running.Truncate (record call { at = cut.Open })
at_start (running.Copy call) = running.Copy (record call { at = copy.Begin })
at_start (running.Verify call) = running.Verify (record call { at = verify.Open })

-- the client's call, if one is under way, is the one that the command began
abbrev pub IsOf : ℕ → Command → Running → Type 0
IsOf c asked running.Idle = Unit {0}
IsOf c asked call = at_start call ≡ begun c asked

-- so it is with each client and its next command
abbrev pub AreAsked : State → Type 0
AreAsked s = (c : ℕ) (client : Client) (asked : Command) → client_at s.clients c ≡ Some client → command_after s.script c client.done ≡ Some asked → IsOf c asked client.call
