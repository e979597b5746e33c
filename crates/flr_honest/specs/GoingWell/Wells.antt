-- What is claimed of how calls are answered where nothing goes wrong, kind by kind.
use Rattle.flr_base.specs.declared.reply.Entry.{Entry}
use Rattle.lfs_words.specs.declared.command.LfsCommand.{LfsCommand}
use Rattle.lfs_words.specs.declared.command.LfsCommand.TheVariants as lfs
use Rattle.script_values.specs.declared.command.Command.{Command}
use Rattle.script_values.specs.declared.command.Command.TheVariants as command
use Rattle.flr_steps.specs.States.{IsRun, State}
use Rattle.flr_steps.specs.Traces.{Past, trace_after}
use Rattle.flr_claims.specs.Causes.{IsCaused}
use Rattle.flr_claims.specs.Claims.{CallsGoWell}
use Rattle.flr_claims.specs.Completeness.{IsAnsweredWell, IsQuiet}
use Rattle.flr_honest.specs.Entries.{IsEntryOf, claimed}

-- in a quiet script each entry whose command passes the test is answered well
abbrev pub GoWell : (Command → Type 0) → Type 0
GoWell of = (s : State) (e : Entry) (p : Past) (is : IsEntryOf s e p) → IsQuiet s.script → of is.asked → IsAnsweredWell is.asked e.reply

-- in a quiet script an entry whose answer has its cause is answered well
abbrev pub CausedGoWell : Type 0
CausedGoWell = (s : State) (e : Entry) (p : Past) (is : IsEntryOf s e p) → IsQuiet s.script → IsCaused (claimed is) e.reply → IsAnsweredWell is.asked e.reply

-- the command is a read
abbrev pub IsRead : Command → Type 0
IsRead (command.Read name offset len) = Unit {0}
IsRead other = ⊥

-- the command is a write
abbrev pub IsWrite : Command → Type 0
IsWrite (command.Write name offset bytes) = Unit {0}
IsWrite other = ⊥

-- the command is a truncate
abbrev pub IsTruncate : Command → Type 0
IsTruncate (command.Truncate name size) = Unit {0}
IsTruncate other = ⊥

abbrev pub lfs_resyncs : LfsCommand → Type 0
lfs_resyncs (lfs.Resync name only) = Unit {0}
lfs_resyncs other = ⊥

-- the command is a resync
abbrev pub IsResync : Command → Type 0
IsResync (command.Lfs of) = lfs_resyncs of
IsResync other = ⊥

-- each read is answered with bytes, unless its file isn't there
abbrev pub ReadsGoWell : Type 0
ReadsGoWell = GoWell IsRead

-- each write has all its effect, unless its file isn't there or would be too big
abbrev pub WritesGoWell : Type 0
WritesGoWell = GoWell IsWrite

-- and so has each truncate
abbrev pub TruncatesGoWell : Type 0
TruncatesGoWell = GoWell IsTruncate

-- each resync leaves nothing, unless its file or a mirror that it names isn't there, another copy has the lease, or a write broke its own
abbrev pub ResyncsGoWell : Type 0
ResyncsGoWell = GoWell IsResync

-- so it is with all calls of every run
abbrev pub RunsGoWell : Type 0
RunsGoWell = (s : State) → IsRun s → CallsGoWell s (trace_after s.script s.schedule)
