-- Completeness: how calls are answered where nothing fails and nobody is evicted.
use Rattle.std.specs.Prelude.{◌≡◌, false, List, []}
use Rattle.std.specs.List.{AllByRecursion}
use Rattle.flr_base.specs.declared.reply.Reply.{Reply}
use Rattle.flr_base.specs.declared.reply.Reply.TheVariants as reply
use Rattle.lfs_words.specs.declared.command.LfsCommand.{LfsCommand}
use Rattle.lfs_words.specs.declared.command.LfsCommand.TheVariants as lfs
use Rattle.script_values.specs.declared.command.Command.{Command}
use Rattle.script_values.specs.declared.command.Command.TheVariants as command
use Rattle.script_values.specs.Scripts.{ScriptView}
use Rattle.plain_files.specs.Histories.{Answered}

-- ---- scripts in which nothing goes wrong

-- no component is taken offline
abbrev pub KeepsOnline : LfsCommand → Type 0
KeepsOnline (lfs.CompSet name id change) = change.set.offline ≡ false
KeepsOnline other = Unit {0}

-- nobody is evicted, no byte rots, and no component is taken offline
abbrev pub IsHarmless : Command → Type 0
IsHarmless (command.Evict client) = ⊥
IsHarmless (command.Rot object offset byte) = ⊥
IsHarmless (command.Lfs of) = KeepsOnline of
IsHarmless other = Unit {0}

-- no call of a target is listed to fail, and each command is harmless
pub record IsQuiet (script : ScriptView) : Type 0 where
  pub fails : script.fails ≡ []
  pub commands : AllByRecursion (AllByRecursion IsHarmless) script.clients

-- ---- how they are answered

-- a read is answered with bytes, unless its file isn't there
abbrev pub IsReadWell : Reply → Type 0
IsReadWell (reply.Bytes bytes) = Unit {0}
IsReadWell (reply.NoFile name) = Unit {0}
IsReadWell other = ⊥

-- a write has all its effect, unless its file isn't there or would be too big
abbrev pub IsWrittenWell : Reply → Type 0
IsWrittenWell reply.Written = Unit {0}
IsWrittenWell (reply.NoFile name) = Unit {0}
IsWrittenWell reply.TooBig = Unit {0}
IsWrittenWell other = ⊥

-- and so has a truncate
abbrev pub IsTruncatedWell : Reply → Type 0
IsTruncatedWell reply.Truncated = Unit {0}
IsTruncatedWell (reply.NoFile name) = Unit {0}
IsTruncatedWell reply.TooBig = Unit {0}
IsTruncatedWell other = ⊥

-- a resync leaves nothing, unless its file or a mirror that it names isn't there, another copy has the lease, or a write broke its own
abbrev pub IsCopiedWell : Reply → Type 0
IsCopiedWell (reply.Copied cleared left) = left ≡ []
IsCopiedWell (reply.NoFile name) = Unit {0}
IsCopiedWell (reply.NoMirrorId id) = Unit {0}
IsCopiedWell (reply.Busy holder) = Unit {0}
IsCopiedWell (reply.Broken place) = Unit {0}
IsCopiedWell other = ⊥

abbrev pub IsLfsWell : LfsCommand → Reply → Type 0
IsLfsWell (lfs.Resync name only) answer = IsCopiedWell answer
IsLfsWell other answer = Unit {0}

-- the command is answered as well as may be
abbrev pub IsAnsweredWell : Command → Reply → Type 0
IsAnsweredWell (command.Read name offset len) answer = IsReadWell answer
IsAnsweredWell (command.Write name offset bytes) answer = IsWrittenWell answer
IsAnsweredWell (command.Truncate name size) answer = IsTruncatedWell answer
IsAnsweredWell (command.Lfs of) answer = IsLfsWell of answer
IsAnsweredWell other answer = Unit {0}

-- in a script in which nothing goes wrong each call is answered as well as may be
abbrev pub AreAnsweredWell : ScriptView → List Answered → Type 0
AreAnsweredWell script calls = IsQuiet script → AllByRecursion (λ (a : Answered). IsAnsweredWell a.command a.entry.reply) calls
