-- What is known of whatever lines have said.
use Rattle.std.specs.Prelude.{◌≡◌, ℕ, ◌+◌, ◌<◌, ◌≤◌, length}
use Rattle.std.specs.List.{AllByRecursion, IsDistinct}
use Rattle.script_values.specs.declared.command.Command.{Command}
use Rattle.script_values.specs.declared.command.Command.TheVariants as commands
use Rattle.script_values.specs.Commands.{IsCommand}
use Rattle.script_values.specs.Scripts.{IsFail, is_same_call, all_commands}
use Rattle.script_text.specs.declared.state.Head.{Head}
use Rattle.script_text.specs.declared.state.Body.{Body}
use Rattle.script_text.specs.declared.state.Part.{Part}
use Rattle.script_text.specs.declared.state.State.{State}
use Rattle.script_text.specs.declared.state.State.TheVariants as state

abbrev pub IsCountOfTargets : ℕ → Type 0
IsCountOfTargets targets = (1 ≤ targets) × (targets ≤ 64)

-- the head of a script within the limits
pub record IsGoodHead (head : Head) : Type 0 where
  pub some_mirrors : 0 < head.most
  pub few_mirrors : head.most ≤ 32
  pub targets : IsCountOfTargets head.targets
  pub few_fails : length head.fails ≤ 4096
  pub fails : AllByRecursion (IsFail head.targets) head.fails
  pub differ : IsDistinct is_same_call head.fails

-- a command within its limits; whether an evicted client is there isn't known yet
abbrev pub IsGoodCommand : Head → Command → Type 0
IsGoodCommand head (commands.Evict client) = Unit {0}
IsGoodCommand head command = IsCommand head.most head.targets 16 command

-- a head and clients of commands within their limits
pub record IsGoodBody (body : Body) : Type 0 where
  pub head : IsGoodHead body.head
  pub few_clients : length body.done < 16
  pub done : AllByRecursion (AllByRecursion (IsGoodCommand body.head)) body.done
  pub own : AllByRecursion (IsGoodCommand body.head) body.own
  pub count : body.commands ≡ length (all_commands body.done) + length body.own
  pub few_commands : body.commands ≤ 4096

abbrev pub IsGood : State → Type 0
IsGood state.Start = Unit {0}
IsGood (state.Version version) = Unit {0}
IsGood (state.Targets targets) = IsCountOfTargets targets
IsGood (state.Fails head) = IsGoodHead head
IsGood (state.Commands body) = IsGoodBody body

-- a head and one or more clients of commands within their limits
pub record IsGoodPart (part : Part) : Type 0 where
  pub head : IsGoodHead part.head
  pub some_clients : 1 ≤ length part.clients
  pub few_clients : length part.clients ≤ 16
  pub commands : AllByRecursion (AllByRecursion (IsGoodCommand part.head)) part.clients
  pub few_commands : length (all_commands part.clients) ≤ 4096
