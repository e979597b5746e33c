-- An answer that has its cause is the only one that has one, of calls of one kind.
use Rattle.std.specs.Prelude.{◌≡◌, ℕ, List, Contains, false}
use Rattle.flr_base.specs.declared.reply.Diff.{Diff}
use Rattle.flr_base.specs.declared.reply.Entry.{Entry}
use Rattle.flr_base.specs.declared.reply.Left.{Left}
use Rattle.flr_base.specs.declared.reply.Reply.{Reply}
use Rattle.composite_layout.specs.declared.component.Component.{Component}
use Rattle.lfs_words.specs.declared.command.LfsCommand.{LfsCommand}
use Rattle.lfs_words.specs.declared.command.LfsCommand.TheVariants as lfs
use Rattle.script_values.specs.declared.command.Command.{Command}
use Rattle.script_values.specs.declared.command.Command.TheVariants as command
use Rattle.meta_server.specs.Files.{File}
use Rattle.flr_steps.specs.States.{State}
use Rattle.flr_steps.specs.Traces.{Made, Past}
use Rattle.flr_claims.specs.Calls.{Call, IsBrokenAt}
use Rattle.flr_claims.specs.Causes.{IsCaused, IsOnlyAnswer, has_rot}
use Rattle.flr_claims.specs.Comparisons.{HasByte, HasDifferences}
use Rattle.flr_claims.specs.Copies.{IsRightlyLeft}
use Rattle.flr_honest.specs.Entries.{IsEntryOf, claimed}

-- ---- kinds of commands

abbrev pub IsLfsAtOnce : LfsCommand → Type 0
IsLfsAtOnce (lfs.SetStripe name spec) = Unit {0}
IsLfsAtOnce (lfs.GetStripe name) = Unit {0}
IsLfsAtOnce (lfs.CompSet name id change) = Unit {0}
IsLfsAtOnce (lfs.Create name spec) = Unit {0}
IsLfsAtOnce (lfs.Split name mirror to) = Unit {0}
IsLfsAtOnce (lfs.Delete name mirror) = Unit {0}
IsLfsAtOnce other = ⊥

-- the command is one of one step
abbrev pub IsOfOneStep : Command → Type 0
IsOfOneStep (command.Lfs of) = IsLfsAtOnce of
IsOfOneStep (command.Evict client) = Unit {0}
IsOfOneStep (command.Rot object offset byte) = Unit {0}
IsOfOneStep other = ⊥

-- the command is a write or a truncate
abbrev pub IsWriting : Command → Type 0
IsWriting (command.Write name offset bytes) = Unit {0}
IsWriting (command.Truncate name size) = Unit {0}
IsWriting other = ⊥

-- the command is a read
abbrev pub IsReading : Command → Type 0
IsReading (command.Read name offset len) = Unit {0}
IsReading other = ⊥

-- ---- what is said of them

-- of whatever call of such a command two answers that have their causes are one
abbrev pub HaveOneCause : (Command → Type 0) → Type 0
HaveOneCause of = (k : Call) (a b : Reply) → of k.asked → IsCaused k a → IsCaused k b → b ≡ a

-- in each run the answer of a call of such a command is the only one that has its cause
abbrev pub AreAlone : (Command → Type 0) → Type 0
AreAlone of = (s : State) (e : Entry) (p : Past) (is : IsEntryOf s e p) → of is.asked → IsCaused (claimed is) e.reply → IsOnlyAnswer (claimed is) e.reply

-- the command is a verify
abbrev pub IsVerifying : Command → Type 0
IsVerifying (command.Lfs (lfs.Verify name)) = Unit {0}
IsVerifying other = ⊥

-- the command is a resync, or an extend by copy
abbrev pub IsCopying : Command → Type 0
IsCopying (command.Lfs (lfs.Resync name only)) = Unit {0}
IsCopying (command.Lfs (lfs.Extend name spec)) = Unit {0}
IsCopying other = ⊥

-- ---- calls of targets

-- of these calls two of one target with one number are one
abbrev pub AreMadeOnce : List Made → Type 0
AreMadeOnce made = (m n : Made) → Contains made m → Contains made n → m.target ≡ n.target → m.call ≡ n.call → m ≡ n

-- ---- differences

-- of one file's differences, as a verify may tell them by its own calls, there is one list
abbrev pub DifferencesAreOne : Call → Type 0
DifferencesAreOne k = (f : File) (entries others : List Diff) → HasDifferences k f entries → HasDifferences k f others → others ≡ entries

-- each byte of a component, as a verify learnt it by these calls, is one
abbrev pub HaveOneByte : List Made → Type 0
HaveOneByte made = (c : Component) (x byte other : ℕ) → HasByte made c x byte → HasByte made c x other → other ≡ byte

-- where no byte may rot, in each run the answer of a call of such a command is the only one that has its cause
abbrev pub AreAloneUnrotten : (Command → Type 0) → Type 0
AreAloneUnrotten of = (s : State) (e : Entry) (p : Past) (is : IsEntryOf s e p) → has_rot s.script ≡ false → of is.asked → IsCaused (claimed is) e.reply → IsOnlyAnswer (claimed is) e.reply

-- ---- copies

-- on the call's way the lease of a file was broken at one place at most
abbrev pub BreaksOnce : Call → Type 0
BreaksOnce k = (number place other : ℕ) → IsBrokenAt k number place → IsBrokenAt k number other → other ≡ place

-- a destination of a copy is rightly left for one call alone
abbrev pub AreLeftForOne : Call → Type 0
AreLeftForOne k = (f : File) (ids cleared : List ℕ) (l m : Left) → IsRightlyLeft k f ids cleared l → IsRightlyLeft k f ids cleared m → m.component ≡ l.component → m.call ≡ l.call

-- in each run the answer of a copy is the only one that has its cause, where each destination that it left is left for one call alone
abbrev pub CopiesAreAlone : Type 0
CopiesAreAlone = (s : State) (e : Entry) (p : Past) (is : IsEntryOf s e p) → AreLeftForOne (claimed is) → IsCopying is.asked → IsCaused (claimed is) e.reply → IsOnlyAnswer (claimed is) e.reply
