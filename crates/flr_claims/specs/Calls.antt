-- An answered call as it was before its point, and where it stood on its way there.
use Rattle.std.specs.Prelude.{◌≡◌, ℕ, ◌-◌, ◌<◌, Bool, true, false, nat_eq, List, Some}
use Rattle.std.specs.List.{AllByRecursion, list_any}
use Rattle.flr_base.specs.declared.reply.Take.{Take}
use Rattle.layout_lease.specs.declared.shared.Share.{Share}
use Rattle.layout_lease.specs.Leases.{holder_of}
use Rattle.lfs_words.specs.declared.command.LfsCommand.{LfsCommand}
use Rattle.lfs_words.specs.declared.command.LfsCommand.TheVariants as lfs
use Rattle.script_values.specs.declared.command.Command.{Command}
use Rattle.script_values.specs.declared.command.Command.TheVariants as command
use Rattle.meta_server.specs.Files.{File, file_of}
use Rattle.flr_steps.specs.States.{State, state_at}
use Rattle.flr_steps.specs.Steps.{StepIs}
use Rattle.flr_steps.specs.Traces.{Doing, Made}
use Rattle.flr_claims.specs.Asked.{IsFile, IsVictim}
use Rattle.plain_files.specs.Histories.{IsStepOf}

-- an answered call before its point: the state then, whose call it is, its command, the places of its first step and of its point, who answered which part of a read, and what the call had done
pub record Call : Type 0 where
  pub before : State
  pub client : ℕ
  pub asked : Command
  pub first : ℕ
  pub at : ℕ
  pub takes : List Take
  pub did : Doing

-- ---- the steps of a run

-- the step at this place of the run to a state, counted from 1: the states before and behind it, whose it is, and of which command
pub record IsStepAt (last : State) (place : ℕ) : Type 0 where
  pub old : State
  pub old_is : state_at last.script last.schedule (place - 1) ≡ Some old
  pub new : State
  pub new_is : state_at last.script last.schedule place ≡ Some new
  pub client : ℕ
  pub step : StepIs old client new

-- the call opened its file, or began, with the step of its point: so it was answered at once
abbrev pub IsAtOnce : Call → Type 0
IsAtOnce k = k.did.opened ≡ k.at

-- the place is behind the step at which the call last opened its file or began, and before its point
abbrev pub IsOnTheWay : Call → ℕ → Type 0
IsOnTheWay k place = (k.did.opened < place) × (place < k.at)

-- ---- what a call opened

-- the call opened a file, or began on it, and right behind that step the file was this
pub record HasOpened (k : Call) (f : File) : Type 0 where
  pub state : State
  pub behind : state_at k.before.script k.before.schedule k.did.opened ≡ Some state
  pub file : IsFile state k.asked f
  pub later : k.did.opened < k.at

-- an extend by a victim began on these two files, and right behind that step they were these
pub record HaveBegun (k : Call) (f v : File) : Type 0 where
  pub state : State
  pub behind : state_at k.before.script k.before.schedule k.did.opened ≡ Some state
  pub file : IsFile state k.asked f
  pub victim : IsVictim state k.asked v
  pub later : k.did.opened < k.at

-- the file with this number is there before the point
abbrev pub IsStillThere : Call → ℕ → Type 0
IsStillThere k number = (now : File) × (file_of number k.before.shared.meta.files ≡ Some now)

-- ---- locks and leases

-- whether the client shares the layout lock of a file
abbrev pub shares_lock : ℕ → File → Bool
shares_lock client f = list_any (λ (share : Share). nat_eq share.client client) f.lock.cookies

-- the call's file before its point, whose layout lock its client still shares: nobody has evicted it since the call opened the file
pub record IsHeldOpen (k : Call) (now : File) : Type 0 where
  pub file : IsFile k.before k.asked now
  pub shares : shares_lock k.client now ≡ true
  pub later : k.did.opened < k.at

-- the client has the unbroken lease of the file with this number
abbrev pub HasLease : State → ℕ → ℕ → Type 0
HasLease s client number = holder_of s.shared.meta.leases number ≡ Some client

-- the call's lease of a file stands in the state before its point
abbrev pub IsLeased : Call → ℕ → Type 0
IsLeased k number = HasLease k.before k.client number

abbrev pub lfs_breaks : LfsCommand → Bool
lfs_breaks (lfs.CompSet name id change) = true
lfs_breaks (lfs.Split name mirror to) = true
lfs_breaks (lfs.Delete name mirror) = true
lfs_breaks other = false

-- whether a command may break the lease of another client: by its intent, by a mirror that goes, by a change of flags, or as an eviction
abbrev pub breaks_leases : Command → Bool
breaks_leases (command.Write name offset bytes) = true
breaks_leases (command.Truncate name size) = true
breaks_leases (command.Evict client) = true
breaks_leases (command.Lfs of) = lfs_breaks of
breaks_leases other = false

-- the call's lease of the file with this number was broken at this place, by the step of such a command, and doesn't stand any more
pub record IsBrokenAt (k : Call) (number place : ℕ) : Type 0 where
  pub since : IsOnTheWay k place
  pub at : IsStepAt k.before place
  pub breaks : breaks_leases at.step.asked ≡ true
  pub stood : HasLease at.old k.client number
  pub broken : HasLease at.new k.client number → ⊥
  pub gone : IsLeased k number → ⊥

-- ---- settle

-- a copy settled with the step at this place: on its way the one step at which it called no target. This is the state before that step
pub record IsSettledAt (k : Call) (place : ℕ) (settled : State) : Type 0 where
  pub since : IsOnTheWay k place
  pub own : IsStepOf k.before.schedule k.client place
  pub no_call : AllByRecursion (λ (m : Made). m.place ≡ place → ⊥) k.did.made
  pub before : state_at k.before.script k.before.schedule (place - 1) ≡ Some settled
