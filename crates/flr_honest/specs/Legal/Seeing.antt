-- What a read sees of a write that ended before it began.
use Rattle.std.specs.Prelude.{◌≡◌, ◌⊎◌, ℕ, ◌<◌, List, length, Some, slice_get}
use Rattle.flr_base.specs.declared.reply.Entry.{Entry}
use Rattle.flr_base.specs.declared.reply.Reply.TheVariants as reply
use Rattle.lfs_words.specs.declared.command.LfsCommand.{LfsCommand}
use Rattle.lfs_words.specs.declared.command.LfsCommand.TheVariants as lfs
use Rattle.script_values.specs.declared.command.Command.{Command}
use Rattle.script_values.specs.declared.command.Command.TheVariants as command
use Rattle.plain_files.specs.Histories.{Answered}

-- an extend takes the file of this name in
abbrev pub TakesIn : LfsCommand → List ℕ → Type 0
TakesIn (lfs.ExtendBy other victim) name = victim ≡ name
TakesIn other name = ⊥

-- the command writes to the file of this name: a write or a truncate of it, or an extend that takes it in
abbrev pub WritesTo : Command → List ℕ → Type 0
WritesTo (command.Write other offset bytes) name = other ≡ name
WritesTo (command.Truncate other size) name = other ≡ name
WritesTo (command.Lfs of) name = TakesIn of name
WritesTo other name = ⊥

-- the call isn't under way between the begin of one and the end of another: it had ended before the one began, or began after the other had ended
abbrev pub IsOutside : Entry → Entry → Entry → Type 0
IsOutside other one another = ((0 < other.last) × (other.last < one.first)) ⊎ ((0 < another.last) × (another.last < other.first))

-- in these calls a write of these bytes went through, a read of the same bytes of the file began after it had ended, and no other call that writes to the file was under way meanwhile
pub record IsReadBack (calls : List Answered) (name : List ℕ) (offset : ℕ) (bytes : List ℕ) (w r : Answered) : Type 0 where
  pub place : ℕ
  pub write : slice_get calls place ≡ Some w
  pub asks_write : w.command ≡ command.Write name offset bytes
  pub wrote : w.entry.reply ≡ reply.Written
  pub later : ℕ
  pub read : slice_get calls later ≡ Some r
  pub asks_read : r.command ≡ command.Read name offset (length bytes)
  pub ended : 0 < w.entry.last
  pub behind : w.entry.last < r.entry.first
  pub alone : (k : ℕ) (other : Answered) → slice_get calls k ≡ Some other → (k ≡ place → ⊥) → WritesTo other.command name → IsOutside other.entry w.entry r.entry

-- if it answers bytes, they are those that were written
abbrev pub AnswersTheBytes : List Answered → Type 0
AnswersTheBytes calls =
    (name : List ℕ) (offset : ℕ) (bytes got : List ℕ) (w r : Answered) → IsReadBack calls name offset bytes w r → r.entry.reply ≡ reply.Bytes got → got ≡ bytes
