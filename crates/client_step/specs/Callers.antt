-- What a client's try to step comes to, and what is kept between its tries.
use Rattle.std.specs.Prelude.{◌≡◌, ◌⊎◌, ℕ}
use Rattle.script_values.specs.declared.command.Command.{Command}
use Rattle.call_steps.specs.Servers.{Servers}
use Rattle.flr_steps.specs.declared.client.Client.{Client}
use Rattle.flr_steps.specs.declared.client.Running.{Running}
use Rattle.flr_steps.specs.declared.client.Running.TheVariants as running
use Rattle.flr_steps.specs.Clients.{ClientNext, Moves, Waits}
use Rattle.flr_steps.specs.Commands.{begun}
use Rattle.client_step.specs.declared.answer.CallerAnswer.{CallerAnswer}
use Rattle.client_step.specs.declared.answer.CallerAnswer.TheVariants as answer

-- The try came to exactly that, and left this client and these servers. One that was blocked, or for which memory ran out, left both as they were.
abbrev pub ClientSteps : Client → Servers → CallerAnswer → Client → Servers → ClientNext → Type 0
ClientSteps old before (answer.Moved note) new after wanted = wanted ≡ Moves new after note
ClientSteps old before (answer.Blocked holder) new after wanted = (wanted ≡ Waits holder) × (new ≡ old) × (after ≡ before)
ClientSteps old before answer.NoMemory new after wanted = (new ≡ old) × (after ≡ before)

-- what is kept aside for a client: nothing, or the call of its next command, this one, while none is under way
abbrev pub IsAside : ℕ → Command → Client → Running → Type 0
IsAside c asked client aside = (aside ≡ running.Idle) ⊎ ((client.call ≡ running.Idle) × (aside ≡ begun c asked))

-- a step was made
abbrev pub HasMoved : CallerAnswer → Type 0
HasMoved (answer.Moved note) = Unit {0}
HasMoved (answer.Blocked holder) = ⊥
HasMoved answer.NoMemory = ⊥
