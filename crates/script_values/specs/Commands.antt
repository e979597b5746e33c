-- Commands within their limits.
use Rattle.std.specs.Prelude.{◌≡◌, ℕ, ◌<◌, ◌≤◌, ◌^◌, true, List, length}
use Rattle.std.specs.List.{AllByRecursion}
use Rattle.flr_base.specs.declared.reply.ObjectId.{ObjectId}
use Rattle.text_words.specs.Names.{is_name}
use Rattle.lfs_words.specs.declared.command.LfsCommand.{LfsCommand}
use Rattle.lfs_words.specs.Grammar.{Spells}
use Rattle.script_values.specs.declared.command.Command.{Command}
use Rattle.script_values.specs.declared.command.Command.TheVariants as commands

-- the greatest offset of a read, and the greatest end that a write may come to
abbrev pub most_offset : ℕ
most_offset = 268435456

-- 1 byte to 1 MiB
abbrev pub IsLength : ℕ → Type 0
IsLength n = (1 ≤ n) × (n ≤ 1048576)

abbrev pub AreBytes : List ℕ → Type 0
AreBytes bytes = AllByRecursion (λ byte. byte < 256) bytes

-- some words spell the command, for files of at most so many mirrors
abbrev pub IsLfs : ℕ → LfsCommand → Type 0
IsLfs most command = (words : List (List ℕ)) × Spells most words command

-- an object that some target, of so many, may have
abbrev pub IsObject : ℕ → ObjectId → Type 0
IsObject targets object = (object.target < targets) × (1 ≤ object.number) × (object.number < 2 ^ 32)

-- a command that may stand where files have at most so many mirrors, and there are so many targets and clients
abbrev pub IsCommand : ℕ → ℕ → ℕ → Command → Type 0
IsCommand most targets clients (commands.Read name offset len) = (is_name name ≡ true) × (offset ≤ most_offset) × IsLength len
IsCommand most targets clients (commands.Write name offset bytes) = (is_name name ≡ true) × (offset ≤ 2 ^ 40) × IsLength (length bytes) × AreBytes bytes
IsCommand most targets clients (commands.Truncate name size) = (is_name name ≡ true) × (size ≤ 2 ^ 40)
IsCommand most targets clients (commands.Lfs command) = IsLfs most command
IsCommand most targets clients (commands.Evict client) = (1 ≤ client) × (client ≤ clients)
IsCommand most targets clients (commands.Rot object offset byte) = IsObject targets object × (offset < most_offset) × (byte < 256)

-- a command that may stand in some script, for files of at most so many mirrors: there are at most 64 targets and 16 clients
abbrev pub IsCommandAlone : ℕ → Command → Type 0
IsCommandAlone most command = IsCommand most 64 16 command

-- few enough to be spelled by runs
abbrev pub AreFew : List ℕ → Type 0
AreFew bytes = length bytes < 2 ^ 32

-- a command that has a text: what it writes is few enough
abbrev pub IsSpellable : Command → Type 0
IsSpellable (commands.Write name offset bytes) = AreFew bytes
IsSpellable _ = Unit {0}
