-- Which steps of a client take no memory.
use Rattle.std.specs.Prelude.{◌≡◌, ◌≢◌, ◌⊎◌, ℕ, false}
use Rattle.lfs_words.specs.declared.command.LfsCommand.{LfsCommand}
use Rattle.script_values.specs.declared.command.Command.{Command}
use Rattle.script_values.specs.declared.command.Command.TheVariants as command
use Rattle.meta_server.specs.Outcomes.{MayLackMemory}
use Rattle.call_steps.specs.Servers.{Servers}
use Rattle.client_read.specs.Fitting as read
use Rattle.client_write.specs.Fitting as write
use Rattle.client_write.specs.CutFitting.{CutTakesNoMemory}
use Rattle.resync_copy.specs.Fitting as copy
use Rattle.mirror_verify.specs.Fitting as verify
use Rattle.mirror_admin.specs.OneStep.{one_step}
use Rattle.mirror_admin.specs.Rotting.{is_kept}
use Rattle.flr_steps.specs.declared.client.Client.{Client}
use Rattle.flr_steps.specs.declared.client.Running.{Running}
use Rattle.flr_steps.specs.declared.client.Running.TheVariants as running
use Rattle.flr_steps.specs.Commands.{begun}
use Rattle.client_step.specs.declared.answer.CallerAnswer.{CallerAnswer}
use Rattle.client_step.specs.declared.answer.CallerAnswer.TheVariants as answer

-- the commands of one step that take no memory: one that is refused with an answer that names no file, an evict, and a rot of an object that isn't kept
abbrev pub OneStepIsFree : ℕ → Command → ℕ → Servers → Type 0
OneStepIsFree client (command.Lfs of) place s = ¬ MayLackMemory (one_step client of place s.meta)
OneStepIsFree client (command.Evict other) place s = Unit {0}
OneStepIsFree client (command.Rot object offset byte) place s = is_kept object s.targets ≡ false
OneStepIsFree client other place s = ⊥

-- the step of this call, or of the command of one step, takes no memory
abbrev pub CallIsFree : Running → ℕ → Command → ℕ → Servers → Type 0
CallIsFree running.Idle client asked place s = OneStepIsFree client asked place s
CallIsFree (running.Read r) client asked place s = read.TakesNoMemory r s
CallIsFree (running.Write w) client asked place s = write.TakesNoMemory w.at w place s
CallIsFree (running.Truncate t) client asked place s = CutTakesNoMemory t.at t place s
CallIsFree (running.Copy c) client asked place s = copy.TakesNoMemory c s
CallIsFree (running.Verify v) client asked place s = verify.TakesNoMemory v s.meta

-- nothing of the command is to be copied: a call is under way, or the call of the next command is kept aside, or it has one step
abbrev pub CopiesNothing : ℕ → Command → Client → Running → Type 0
CopiesNothing number asked client aside = (client.call ≢ running.Idle) ⊎ ((aside ≢ running.Idle) ⊎ (begun number asked ≡ running.Idle))

-- memory didn't run out
abbrev pub HadMemory : CallerAnswer → Type 0
HadMemory (answer.Moved note) = Unit {0}
HadMemory (answer.Blocked holder) = Unit {0}
HadMemory answer.NoMemory = ⊥
