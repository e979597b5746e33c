-- An entry whose call copies one file, and what is said of its answers.
use Rattle.std.specs.Prelude.{◌≡◌, ℕ, false, List, ◌∷◌, Contains}
use Rattle.std.specs.List.{AllByRecursion}
use Rattle.flr_base.specs.declared.reply.Entry.{Entry}
use Rattle.flr_base.specs.declared.reply.Left.{Left}
use Rattle.flr_base.specs.declared.reply.Reply.TheVariants as reply
use Rattle.lfs_words.specs.declared.command.LfsCommand.TheVariants as lfs
use Rattle.script_values.specs.declared.command.Command.{Command}
use Rattle.script_values.specs.declared.command.Command.TheVariants as command
use Rattle.composite_layout.specs.declared.component.Component.{Component}
use Rattle.layout_lease.specs.Leases.{KeyView}
use Rattle.meta_server.specs.declared.answers.Begun.TheVariants as begun_as
use Rattle.meta_server.specs.declared.answers.CopyWhat.{CopyWhat}
use Rattle.meta_server.specs.declared.answers.CopyWhat.TheVariants.{Resync, Extend, Victim}
use Rattle.meta_server.specs.declared.answers.Side.{Side}
use Rattle.meta_server.specs.Beginning.{copy_begins}
use Rattle.meta_server.specs.Files.{File}
use Rattle.meta_server.specs.Outcomes.{Gives}
use Rattle.call_steps.specs.Runs.{CallStep}
use Rattle.resync_copy.specs.declared.phase.CopyAt.TheVariants as at
use Rattle.resync_copy.specs.declared.phase.CopyStage.TheVariants as stage
use Rattle.resync_copy.specs.Calls.{CopyView}
use Rattle.resync_copy.specs.Copies.{new_copy}
use Rattle.resync_copy.specs.Steps.{copy_step}
use Rattle.flr_steps.specs.declared.client.Running.TheVariants as running
use Rattle.flr_steps.specs.States.{State}
use Rattle.flr_steps.specs.Traces.{Past}
use Rattle.flr_claims.specs.Causes.{IsLeaseBroken, has_rot}
use Rattle.flr_claims.specs.Copies.{HasBegun, IsCopiedWhole, IsDestination, IsRightlyLeft}
use Rattle.flr_honest.specs.Entries.{IsEntryOf, claimed}
use Rattle.flr_honest.specs.Legal.Sentences.{TakesInNone}
use Rattle.flr_honest.specs.CallSteps.TypedCalls.{IsTypedCallTo}

-- the command of a copy
abbrev pub command_for : List ℕ → CopyWhat → Command
command_for name (Resync only) = command.Lfs (lfs.Resync name only)
command_for name (Extend mirrors) = command.Lfs (lfs.Extend name mirrors)
command_for name (Victim victim) = command.Lfs (lfs.ExtendBy name victim)

-- the entry's call copies one file: its steps are those of a copy, and no byte may rot
pub record IsCopyOf (s : State) (e : Entry) (p : Past) : Type 0 where
  pub is : IsEntryOf s e p
  pub still : has_rot s.script ≡ false
  pub name : List ℕ
  pub what : CopyWhat
  pub none : TakesInNone what
  pub asks : is.asked ≡ command_for name what
  pub call : IsTypedCallTo running.Copy copy_step (new_copy e.client name what) s.script s.schedule is.asked e p

-- it came to its end, where it is to clear these and has left those; and it began so on this file, at the first of its steps
pub record HasEnded {s : State} {e : Entry} {p : Past} (c : IsCopyOf s e p) (f : File) (side : Side) (ids cleared : List ℕ) (left : List Left) : Type 0 where
  pub key : KeyView
  pub done : c.call.last.call.at ≡ at.Copy (stage.Done key cleared left)
  pub key_is : side.key ≡ key
  pub begin : CallStep CopyView
  pub rest : List (CallStep CopyView)
  pub first : c.call.front ≡ begin ∷ rest
  pub begun : copy_begins e.client c.name c.what begin.before.meta ≡ Gives (begun_as.Copy side ids) begin.after.meta
  pub file : HasBegun (claimed c.is) f ids
  pub number : f.number ≡ side.key.file
  pub layout : f.layout ≡ side.layout

-- ---- the sentences

-- a copy that ended with that answer has rightly left each that it left
abbrev pub LeftsAreRight : Type 0
LeftsAreRight =
    (s : State) (e : Entry) (p : Past) (c : IsCopyOf s e p) (f : File) (side : Side) (ids cleared : List ℕ) (left : List Left) → HasEnded c f side ids cleared left → e.reply ≡ reply.Copied cleared left →
    AllByRecursion (IsRightlyLeft (claimed c.is) f ids cleared) left

-- where a copy tells its lease broken it was so at that place
abbrev pub BrokenAreRight : Type 0
BrokenAreRight =
    (s : State) (e : Entry) (p : Past) (c : IsCopyOf s e p) (f : File) (side : Side) (ids cleared : List ℕ) (left : List Left) (place : ℕ) → HasEnded c f side ids cleared left → e.reply ≡ reply.Broken place →
    IsLeaseBroken (claimed c.is) place

-- each that is to be cleared was copied whole
abbrev pub ClearedAreCopiedWhole : Type 0
ClearedAreCopiedWhole =
    (s : State) (e : Entry) (p : Past) (c : IsCopyOf s e p) (f : File) (side : Side) (ids cleared : List ℕ) (left : List Left) → HasEnded c f side ids cleared left → e.reply ≡ reply.Copied cleared left →
    (d : Component) → IsDestination f ids d → Contains cleared d.id → IsCopiedWhole (claimed c.is) f d

-- and each that was copied whole is to be cleared
abbrev pub WholeAreCleared : Type 0
WholeAreCleared =
    (s : State) (e : Entry) (p : Past) (c : IsCopyOf s e p) (f : File) (side : Side) (ids cleared : List ℕ) (left : List Left) → HasEnded c f side ids cleared left → e.reply ≡ reply.Copied cleared left →
    (d : Component) → IsDestination f ids d → IsCopiedWhole (claimed c.is) f d → Contains cleared d.id
