-- What is claimed of the answers of reads.
use Rattle.script_values.specs.declared.command.Command.{Command}
use Rattle.script_values.specs.declared.command.Command.TheVariants as command
use Rattle.flr_honest.specs.Entries.{HaveCauses}

-- the command is a read
abbrev pub IsRead : Command → Type 0
IsRead (command.Read name offset len) = Unit {0}
IsRead other = ⊥

-- each answer of a read has its cause
abbrev pub ReadsHaveCauses : Type 0
ReadsHaveCauses = HaveCauses IsRead
