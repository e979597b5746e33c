-- The scripts that a generator of numbers makes.
use Rattle.std.specs.Prelude.{ℕ, zero, suc, ◌+◌, ◌-◌, ◌*◌, ◌/◌, ◌%◌, ◌^◌, pos, false, nat_eq, nat_lt, if◌then◌else◌, List, [], ◌∷◌, replicate, None, codes}
use Rattle.composite_layout.specs.declared.spec.MirrorSpec.{MirrorSpec}
use Rattle.lfs_words.specs.declared.command.LfsCommand.TheVariants as lfs
use Rattle.script_values.specs.declared.command.Command.{Command}
use Rattle.script_values.specs.declared.command.Command.TheVariants as commands
use Rattle.script_values.specs.Scripts.{ScriptView}

-- the state behind a state
unfoldable pub next_state : ℕ → ℕ
next_state x = (x * 1103515245 + 12345) % 2 ^ 31

-- the number that the step to this state gives, from 0 to 32767
abbrev pub drawn : ℕ → ℕ
drawn x = x / 65536

abbrev pub second : ℕ → ℕ
second x = next_state (next_state x)

abbrev pub third : ℕ → ℕ
third x = next_state (second x)

-- a command that was drawn, and the state behind it
pub record Drawn : Type 0 where
  pub command : Command
  pub state : ℕ

abbrev pub file : List ℕ
file = codes "/s"

-- where a range begins, and how long it is
abbrev pub drawn_offset : ℕ → ℕ
drawn_offset x = 32 * drawn x

abbrev pub drawn_length : ℕ → ℕ
drawn_length x = 1 + drawn x % 4096

-- a write draws its offset, its length, and the byte of which it has so many
unfoldable pub drawn_write : ℕ → Drawn
drawn_write x = record { command = commands.Write file (drawn_offset (next_state x)) (replicate (drawn_length (second x)) (drawn (third x) % 256)); state = third x }

-- a read draws its offset and its length
unfoldable pub drawn_read : ℕ → Drawn
drawn_read x = record { command = commands.Read file (drawn_offset (next_state x)) (drawn_length (second x)); state = second x }

abbrev pub resync : Command
resync = commands.Lfs (lfs.Resync file None)

abbrev pub verify : Command
verify = commands.Lfs (lfs.Verify file)

-- the command of a kind from 0 to 7: half are writes, a quarter reads
unfoldable pub drawn_by : ℕ → ℕ → Drawn
drawn_by kind x =
    if nat_lt kind 4 then drawn_write x else
    (if nat_lt kind 6 then drawn_read x else
    (if nat_eq kind 6 then record { command = resync; state = x } else record { command = verify; state = x }))

-- a command draws its kind first
unfoldable pub drawn_command : ℕ → Drawn
drawn_command x = drawn_by (drawn (next_state x) % 8) (next_state x)

-- commands that were drawn one after the other, and the state behind them
pub record DrawnList : Type 0 where
  pub commands : List Command
  pub state : ℕ

abbrev pub onto_list : Command → DrawnList → DrawnList
onto_list command rest = record { commands = command ∷ rest.commands; state = rest.state }

-- so many commands
abbrev pub drawn_commands : ℕ → ℕ → DrawnList
drawn_commands zero x = record { commands = []; state = x }
drawn_commands (suc calls) x = onto_list (drawn_command x).command (drawn_commands calls (drawn_command x).state)

-- the commands of clients, drawn one client after the other, and the state behind them
pub record DrawnClients : Type 0 where
  pub clients : List (List Command)
  pub state : ℕ

abbrev pub onto_clients : List Command → DrawnClients → DrawnClients
onto_clients own rest = record { clients = own ∷ rest.clients; state = rest.state }

-- so many clients with so many commands each
abbrev pub drawn_clients : ℕ → ℕ → ℕ → DrawnClients
drawn_clients zero calls x = record { clients = []; state = x }
drawn_clients (suc clients) calls x = onto_clients (drawn_commands calls x).commands (drawn_clients clients calls (drawn_commands calls x).state)

-- one component over two stripes of 64 KiB
abbrev pub mirror : MirrorSpec
mirror = record { parts = record { end = 2 ^ 64 - 1; size = 65536; count = pos 2 } ∷ []; prefer = false }

-- the first command of client 1: lfs mirror create -N2 -S 64K -c 2 /s
abbrev pub create : Command
create = commands.Lfs (lfs.Create file (mirror ∷ mirror ∷ []))

abbrev pub with_first : Command → List (List Command) → List (List Command)
with_first command [] = []
with_first command (own ∷ clients) = (command ∷ own) ∷ clients

-- the script of so many clients, each with so many commands that are drawn, from this state on
abbrev pub script_from : ℕ → ℕ → ℕ → ScriptView
script_from clients calls x = record { most = 16; targets = 4; fails = []; clients = with_first create (drawn_clients clients calls x).clients }

-- the state behind it
abbrev pub state_from : ℕ → ℕ → ℕ → ℕ
state_from clients calls x = (drawn_clients clients calls x).state
