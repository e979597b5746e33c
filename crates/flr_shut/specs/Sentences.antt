-- Which objects a copy can't change any more.
use Rattle.std.specs.Prelude.{◌≡◌, ℕ, ◌<◌, true, false, List, length, Contains, Some}
use Rattle.flr_base.specs.declared.reply.ObjectId.{ObjectId}
use Rattle.composite_layout.specs.declared.component.Component.{Component}
use Rattle.layout_lease.specs.declared.lease.KeyState.TheVariants.{Held}
use Rattle.layout_lease.specs.Leases.{KeyView, state_of}
use Rattle.object_target.specs.TargetState.{TargetState}
use Rattle.meta_server.specs.Files.{File, MetaView, file_of}
use Rattle.resync_copy.specs.declared.phase.CopyAt.{CopyAt}
use Rattle.resync_copy.specs.declared.phase.CopyAt.TheVariants as at
use Rattle.resync_copy.specs.declared.phase.CopyStage.{CopyStage}
use Rattle.resync_copy.specs.declared.phase.CopyStage.TheVariants as stage
use Rattle.resync_copy.specs.Copies.{object_at}
use Rattle.resync_copy.specs.Views.{CopyingView, resets_of}
use Rattle.flr_numbers.specs.Hands.{version_on}
use Rattle.flr_steps.specs.declared.client.Client.{Client}
use Rattle.flr_steps.specs.declared.client.Running.{Running}
use Rattle.flr_steps.specs.declared.client.Running.TheVariants as running
use Rattle.flr_steps.specs.States.{State, client_at}

-- where an object stands: a component that has it, in the layout of a file that is there
pub record Place (m : MetaView) (o : ObjectId) : Type 0 where
  pub number : ℕ
  pub file : File
  pub there : file_of number m.files ≡ Some file
  pub component : Component
  pub listed : Contains file.layout.components component
  pub has : Contains component.objects o

-- the object is one that the copy resets, and to which it puts
abbrev pub IsReset : CopyingView → ObjectId → Type 0
IsReset x o = (i : ℕ) × (i < length (resets_of x)) × ((object_at (resets_of x) i).object ≡ o)

-- where such an object stands in a fresh component, it keeps a version above the generation of begin
abbrev pub IsShutOut : MetaView → List TargetState → CopyingView → Type 0
IsShutOut m targets x = (o : ObjectId) (at : Place m o) → at.component.flags.stale ≡ false → IsReset x o → x.side.layout.generation < version_on targets o

-- where such an object stands in a file of which another lease stands, the generation of begin is less than the file's
abbrev pub IsPassedBy : MetaView → CopyingView → Type 0
IsPassedBy m x = (o : ObjectId) (at : Place m o) (key : KeyView) → IsReset x o → key.file ≡ at.number → state_of m.leases key ≡ Held → (key ≡ x.side.key → ⊥) → x.side.layout.generation < at.file.layout.generation

-- in the layout that was got at begin each destination is stale
abbrev pub AreStale : CopyingView → Type 0
AreStale x = (c : Component) → Contains x.side.layout.components c → Contains x.ids c.id → c.flags.stale ≡ true

abbrev pub IsKeptOff : MetaView → List TargetState → CopyingView → Type 0
IsKeptOff m targets x = IsShutOut m targets x × IsPassedBy m x × AreStale x

-- what holds of the copy of one file from its begin up to its end
abbrev pub OnCopying : (CopyingView → Type 0) → CopyStage → Type 0
OnCopying Q (stage.Fence x next) = Q x
OnCopying Q (stage.Reset x next) = Q x
OnCopying Q (stage.Settle x) = Q x
OnCopying Q (stage.Take h) = Q h.copying
OnCopying Q (stage.Put h bytes) = Q h.copying
OnCopying Q (stage.Done key cleared left) = Unit {0}

-- so it is kept off, whether or not its lease stands
abbrev pub CopyShut : MetaView → List TargetState → CopyAt → Type 0
CopyShut m targets at.Begin = Unit {0}
CopyShut m targets (at.Copy next) = OnCopying (IsKeptOff m targets) next
CopyShut m targets (at.Merge next) = Unit {0}

abbrev pub IsShut : MetaView → List TargetState → Running → Type 0
IsShut m targets (running.Copy call) = CopyShut m targets call.at
IsShut m targets other = Unit {0}

-- the copy of each client
pub record Shut (s : State) : Type 0 where
  pub calls : (c : ℕ) (client : Client) → client_at s.clients c ≡ Some client → IsShut s.shared.meta s.shared.targets client.call
