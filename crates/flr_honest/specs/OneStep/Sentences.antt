-- Commands of one step.
use Rattle.std.specs.Prelude.{◌≡◌, ℕ}
use Rattle.script_values.specs.declared.command.Command.{Command}
use Rattle.flr_steps.specs.declared.client.Running.TheVariants as running
use Rattle.flr_steps.specs.Commands.{begun}
use Rattle.flr_honest.specs.Entries.{HaveCauses}

-- the command has one step
abbrev pub HasOneStep : Command → Type 0
HasOneStep asked = (c : ℕ) → begun c asked ≡ running.Idle

-- each answer of a command of one step has its cause
abbrev pub OneStepsHaveCauses : Type 0
OneStepsHaveCauses = HaveCauses HasOneStep
