-- What is claimed of the answers of writes and truncates.
use Rattle.script_values.specs.declared.command.Command.{Command}
use Rattle.script_values.specs.declared.command.Command.TheVariants as command
use Rattle.flr_honest.specs.Entries.{HaveCauses}

-- the command is a write
abbrev pub IsWrite : Command → Type 0
IsWrite (command.Write name offset bytes) = Unit {0}
IsWrite other = ⊥

-- the command is a truncate
abbrev pub IsTruncate : Command → Type 0
IsTruncate (command.Truncate name size) = Unit {0}
IsTruncate other = ⊥

-- each answer of a write has its cause
abbrev pub WritesHaveCauses : Type 0
WritesHaveCauses = HaveCauses IsWrite

-- and so has each of a truncate
abbrev pub TruncatesHaveCauses : Type 0
TruncatesHaveCauses = HaveCauses IsTruncate
