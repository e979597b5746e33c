-- Where the fresh components come from that a step leaves.
use Rattle.std.specs.Prelude.{◌≡◌, ◌⊎◌, ℕ, Bool, true, false, List, Contains, Option, None, Some}
use Rattle.flr_base.specs.declared.reply.Left.{Left}
use Rattle.flr_base.specs.declared.reply.ObjectId.{ObjectId}
use Rattle.composite_layout.specs.declared.component.Component.{Component}
use Rattle.layout_lease.specs.declared.lease.KeyState.TheVariants.{Held}
use Rattle.layout_lease.specs.Leases.{KeyView, state_of}
use Rattle.layout_state.specs.Marking.{is_named}
use Rattle.lfs_words.specs.declared.command.LfsCommand.TheVariants as lfs
use Rattle.meta_server.specs.Files.{File, MetaView, file_of}
use Rattle.resync_copy.specs.declared.merge_phase.MergeStage.TheVariants as merge
use Rattle.resync_copy.specs.declared.phase.CopyAt.TheVariants as at
use Rattle.resync_copy.specs.declared.phase.CopyStage.TheVariants as stage
use Rattle.resync_copy.specs.Calls.{CopyView}
use Rattle.script_values.specs.declared.command.Command.{Command}
use Rattle.script_values.specs.declared.command.Command.TheVariants as command
use Rattle.flr_numbers.specs.Frames.{IsUnmade}
use Rattle.flr_steps.specs.declared.client.Running.{Running}
use Rattle.flr_steps.specs.declared.client.Running.TheVariants as running
use Rattle.flr_steps.specs.States.{State}

-- both have the same bytes of a file on the same objects
pub record IsSamePlace (old new : Component) : Type 0 where
  pub extent : new.extent ≡ old.extent
  pub stripe : new.stripe ≡ old.stripe
  pub init : new.flags.init ≡ old.flags.init
  pub objects : new.objects ≡ old.objects

-- a component of this file before the step with the same objects
pub record WasIn (m : MetaView) (number : ℕ) (d : Component) : Type 0 where
  pub file : File
  pub there : file_of number m.files ≡ Some file
  pub component : Component
  pub listed : Contains file.layout.components component
  pub same : IsSamePlace component d

-- it was fresh there
pub record WasFreshIn (m : MetaView) (number : ℕ) (d : Component) : Type 0 where
  pub was : WasIn m number d
  pub fresh : was.component.flags.stale ≡ false

-- it was fresh there without objects, and has got new ones
pub record IsFilledIn (m : MetaView) (number : ℕ) (d : Component) : Type 0 where
  pub file : File
  pub there : file_of number m.files ≡ Some file
  pub component : Component
  pub listed : Contains file.layout.components component
  pub fresh : component.flags.stale ≡ false
  pub none : component.flags.init ≡ false
  pub extent : d.extent ≡ component.extent
  pub unmade : (o : ObjectId) → Contains d.objects o → IsUnmade m o

-- a command that makes a file
abbrev pub is_making : Command → Bool
is_making (command.Lfs (lfs.SetStripe name spec)) = true
is_making (command.Lfs (lfs.Create name spec)) = true
is_making other = false

-- the name of the file of which a command splits a mirror off
abbrev pub split_name : Command → Option (List ℕ)
split_name (command.Lfs (lfs.Split name mirror to)) = Some name
split_name other = None

-- a file was made here, whose objects are new
pub record IsMade (m : MetaView) (asked : Command) (number : ℕ) (d : Component) : Type 0 where
  pub none : file_of number m.files ≡ None
  pub makes : is_making asked ≡ true
  pub unmade : (o : ObjectId) → Contains d.objects o → IsUnmade m o

-- the file was split off another, in which the component was fresh
pub record IsSplitOff (m : MetaView) (asked : Command) (number : ℕ) (d : Component) : Type 0 where
  pub none : file_of number m.files ≡ None
  pub from : ℕ
  pub was : WasFreshIn m from d
  pub splits : split_name asked ≡ Some was.was.file.name

-- a copy ended here that cleared it, while its lease stood
pub record IsClearedBy (s : State) (call : Running) (number : ℕ) (d : Component) : Type 0 where
  pub asked : CopyView
  pub copies : call ≡ running.Copy asked
  pub key : KeyView
  pub cleared : List ℕ
  pub left : List Left
  pub at : asked.at ≡ at.Copy (stage.Done key cleared left)
  pub held : state_of s.shared.meta.leases key ≡ Held
  pub same : key.file ≡ number
  pub was : WasIn s.shared.meta number d
  pub id : was.component.id ≡ d.id
  pub named : is_named cleared was.component ≡ true

-- a merge ended here that took it in from the other file, in which it was fresh, while both leases stood
pub record IsTakenIn (s : State) (call : Running) (number : ℕ) (d : Component) : Type 0 where
  pub asked : CopyView
  pub copies : call ≡ running.Copy asked
  pub ours : KeyView
  pub theirs : KeyView
  pub at : asked.at ≡ at.Merge (merge.Done ours theirs None)
  pub ours_held : state_of s.shared.meta.leases ours ≡ Held
  pub theirs_held : state_of s.shared.meta.leases theirs ≡ Held
  pub same : ours.file ≡ number
  pub was : WasFreshIn s.shared.meta theirs.file d

-- a fresh component after a step of a call, which is of this command, is one of these
abbrev pub Comes : State → Command → Running → ℕ → Component → Type 0
Comes s asked call number d =
    WasFreshIn s.shared.meta number d ⊎ (IsFilledIn s.shared.meta number d ⊎ (IsMade s.shared.meta asked number d ⊎ (IsSplitOff s.shared.meta asked number d ⊎ (IsClearedBy s call number d ⊎ IsTakenIn s call number d))))
