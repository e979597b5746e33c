-- Scripts, and their limits.
use Rattle.std.specs.Prelude.{ℕ, ◌-◌, ◌<◌, ◌≤◌, ◌^◌, Bool, ◌&&◌, nat_eq, nat_lt, if◌then◌else◌, List, [], length, Option, Result, Ok, Err, slice_get, slice_index_or}
use Rattle.std.specs.List.{AllByRecursion, IsDistinct, flat_map, sum_by}
use Rattle.object_target.specs.declared.fail.Fail.{Fail}
use Rattle.script_values.specs.declared.command.Command.{Command}
use Rattle.script_values.specs.declared.command.Command.TheVariants as commands
use Rattle.script_values.specs.declared.what.What.{What}
use Rattle.script_values.specs.declared.what.What.TheVariants as what
use Rattle.script_values.specs.Commands.{IsCommand}
use Rattle.script_values.specs.Work.{work_of_parts}

-- the most mirrors of a file, the number of targets, the calls that fail, and the commands of each client
pub record ScriptView : Type 0 where
  pub most : ℕ
  pub targets : ℕ
  pub fails : List Fail
  pub clients : List (List Command)

-- the commands of a client, counted from 1; none where there is no such client
abbrev pub commands_of : ScriptView → ℕ → List Command
commands_of script client = slice_index_or script.clients (client - 1) []

-- a client's command after so many that are done
abbrev pub command_after : ScriptView → ℕ → ℕ → Option Command
command_after script client done = slice_get (commands_of script client) done

-- the commands of all clients
abbrev pub all_commands : List (List Command) → List Command
all_commands clients = flat_map (λ own. own) clients

-- how many bytes a command reads or writes
abbrev pub bytes_of : Command → ℕ
bytes_of (commands.Read name offset len) = len
bytes_of (commands.Write name offset bytes) = length bytes
bytes_of _ = 0

-- how many bytes are read and written in all
abbrev pub bytes_of_script : ScriptView → ℕ
bytes_of_script script = sum_by bytes_of (all_commands script.clients)

-- the bound on the steps of its runs
abbrev pub work_of : ScriptView → ℕ
work_of script = work_of_parts script.most script.targets (length script.fails) (all_commands script.clients)

-- two lines name one call
abbrev pub is_same_call : Fail → Fail → Bool
is_same_call a b = nat_eq a.target b.target && nat_eq a.call b.call

-- a call of one of so many targets
abbrev pub IsFail : ℕ → Fail → Type 0
IsFail targets fail = (fail.target < targets) × (1 ≤ fail.call) × (fail.call < 2 ^ 32)

-- what its lines tell of a script is within the limits
pub record IsWellFormed (script : ScriptView) : Type 0 where
  pub some_mirrors : 1 ≤ script.most
  pub few_mirrors : script.most ≤ 32
  pub some_targets : 1 ≤ script.targets
  pub few_targets : script.targets ≤ 64
  pub few_fails : length script.fails ≤ 4096
  pub fails : AllByRecursion (IsFail script.targets) script.fails
  pub calls_differ : IsDistinct is_same_call script.fails
  pub some_clients : 1 ≤ length script.clients
  pub few_clients : length script.clients ≤ 16
  pub few_commands : length (all_commands script.clients) ≤ 4096
  pub commands : AllByRecursion (AllByRecursion (IsCommand script.most script.targets (length script.clients))) script.clients

-- a script within every limit
pub record IsScript (script : ScriptView) : Type 0 where
  pub form : IsWellFormed script
  pub few_bytes : bytes_of_script script ≤ 67108864
  pub little_work : work_of script ≤ 8388608

-- the script, unless it has too many bytes or, else, too much work
abbrev pub limited : ScriptView → Result ScriptView What
limited script = if nat_lt 67108864 (bytes_of_script script) then Err what.Bytes else (if nat_lt 8388608 (work_of script) then Err what.Work else Ok script)
