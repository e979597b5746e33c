-- What a client's call has in hand, and what holds of that among the servers.
use Rattle.std.specs.Prelude.{◌≡◌, ◌≢◌, ℕ, ◌<◌, ◌≤◌, Bool, true, false, List, [], length, Option, None, Some, slice_index}
use Rattle.std.specs.List.{AllByRecursion}
use Rattle.std.specs.Option.{ForSome}
use Rattle.flr_base.specs.declared.reply.ObjectId.{ObjectId}
use Rattle.composite_layout.specs.Layouts.{Composite}
use Rattle.composite_layout.specs.LookUps.{mirror_ids}
use Rattle.extent_lock.specs.declared.lock.Lock.{Lock}
use Rattle.extent_lock.specs.Extents.{locks_of}
use Rattle.layout_lease.specs.declared.shared.Share.{Share}
use Rattle.layout_lease.specs.Leases.{KeyView, hand_of}
use Rattle.layout_state.specs.Mirroring.{excess}
use Rattle.object_target.specs.TargetState.{TargetState, version_at}
use Rattle.meta_server.specs.declared.answers.Opened.{Opened}
use Rattle.meta_server.specs.Conditions.{HasGenerationRoom, HasObjectRoom, IsRoom}
use Rattle.meta_server.specs.Files.{File, MetaView, file_of}
use Rattle.meta_server.specs.Sound.{IsSound}
use Rattle.meta_laws.specs.Layouts.{AreExplained}
use Rattle.meta_laws.specs.Numbers.{AreObjectsOnce}
use Rattle.flr_numbers.specs.Frames.{IsShared, IsUnmade, Leases, Leaves, Stands}
use Rattle.call_steps.specs.Servers.{Servers, target_at}
use Rattle.call_steps.specs.Steps.{Outcome, Going, Fixed, Ended, Answered, Blocked}

-- ---- the servers

-- the version that an object keeps
abbrev pub version_on : List TargetState → ObjectId → ℕ
version_on targets o = version_at (target_at targets o.target) o.number

-- the metadata server is sound, and each object stands at one place; there are as many targets as it knows; no object keeps a version above the generation of its file; and one that was never made keeps none
pub record AreServers (m : MetaView) (targets : List TargetState) : Type 0 where
  pub sound : IsSound m
  pub once : AreObjectsOnce m
  pub as_many : length targets ≡ length m.nexts
  pub versions : (number : ℕ) (f : File) (o : ObjectId) → file_of number m.files ≡ Some f → Stands o f.layout → version_on targets o ≤ f.layout.generation
  pub unmade : (o : ObjectId) → IsUnmade m o → version_on targets o ≡ 0

-- the numbers of the metadata server leave room for any call
pub record HasRoom (m : MetaView) : Type 0 where
  pub files : IsRoom m.next_file
  pub keys : IsRoom m.leases.next
  pub cookies : AllByRecursion (λ (f : File). IsRoom f.lock.next) m.files
  pub generations : HasGenerationRoom m
  pub objects : HasObjectRoom m

-- ---- in hand

-- what a call has in hand: the file that it has open, with a cookie; its keys; whether it may hold extent locks; the layouts of whose objects it raises versions; and the keys of the two files that it compares
pub record Hand : Type 0 where
  pub opened : Option Opened
  pub keys : List KeyView
  pub locks : Bool
  pub copied : List Composite
  pub merges : Option (KeyView × KeyView)

-- nothing at all
abbrev pub nothing : Hand
nothing = record { opened = None; keys = []; locks = false; copied = []; merges = None }

-- extent locks alone
abbrev pub locked : Hand
locked = record { opened = None; keys = []; locks = true; copied = []; merges = None }

-- an open file, with extent locks or without
abbrev pub holding : Bool → Opened → Hand
holding locks o = record { opened = Some o; keys = []; locks = locks; copied = []; merges = None }

-- the cookie is that of the open file, of which the call knows this layout
abbrev pub IsOpenAs : Option Opened → ℕ → Share → Composite → Type 0
IsOpenAs None number cookie l = ⊥
IsOpenAs (Some o) number cookie l = (o.file ≡ number) × (o.cookie ≡ cookie) × (o.layout ≡ l)

-- each object of the layout was made
abbrev pub AreMade : MetaView → Composite → Type 0
AreMade m l = (o : ObjectId) → Stands o l → o.number < slice_index m.nexts o.target

-- wherever an object of the layout stands, the generation isn't less than the layout's
abbrev pub IsBehind : MetaView → Composite → Type 0
IsBehind m l = (number : ℕ) (f : File) (o : ObjectId) → file_of number m.files ≡ Some f → Stands o f.layout → Stands o l → l.generation ≤ f.layout.generation

-- the keys are of two files, and while their leases stand the mirrors of the second fit into the first
pub record Fit (m : MetaView) (ours theirs : KeyView) : Type 0 where
  pub apart : ours.file ≡ theirs.file → ⊥
  pub our_layout : Composite
  pub their_layout : Composite
  pub our_lease : Leases m ours our_layout
  pub their_lease : Leases m theirs their_layout
  pub within : excess our_layout (length (mirror_ids their_layout.components)) (length their_layout.components) m.most ≡ None

-- A client whose call has this in hand: each cookie that it holds is that of the file that it has open, which has the layout that it got; its keys are those of its call; it holds no extent lock where it has none in hand; the objects of the layouts that it knows were made, and no version that it raises passes a generation; and the files that it compares fit.
pub record Has (client : ℕ) (m : MetaView) (held : List Lock) (h : Hand) : Type 0 where
  pub cookies : (number : ℕ) (cookie : Share) (l : Composite) → cookie.client ≡ client → IsShared m number cookie l → IsOpenAs h.opened number cookie l
  pub keys : hand_of client m.leases ≡ h.keys
  pub own : AllByRecursion (λ (key : KeyView). key.client ≡ client) h.keys
  pub locks : h.locks ≡ false → locks_of client held ≡ []
  pub opened : ForSome h.opened (λ o. AreMade m o.layout)
  pub made : AllByRecursion (AreMade m) h.copied
  pub behind : AllByRecursion (IsBehind m) h.copied
  pub merges : ForSome h.merges (λ pair. (pair.0.client ≡ client) × (pair.1.client ≡ client) × Fit m pair.0 pair.1)

-- ---- a step

-- what a step of a client leaves to all others: what a call of the metadata server leaves, no next number of an object falls, the targets stay as many, and their extent locks
pub record Changes (client : ℕ) (m : MetaView) (held : List Lock) (new : MetaView) (left : List Lock) : Type 0 where
  pub meta : Leaves client m new
  pub nexts : (target : ℕ) → slice_index m.nexts target ≤ slice_index new.nexts target
  pub many : length new.nexts ≡ length m.nexts
  pub locks : (other : ℕ) → other ≢ client → locks_of other left ≡ locks_of other held

-- the servers after a step, what the client has in hand then, what the step left to all others, and what each layout comes from
pub record Good (client : ℕ) (s : Servers) (h : Hand) (after : Servers) : Type 0 where
  pub servers : AreServers after.meta after.targets
  pub has : Has client after.meta after.locks h
  pub changes : Changes client s.meta s.locks after.meta after.locks
  pub layouts : AreExplained s.meta after.meta.files

-- a step of a call came to something good: who goes on has in hand what the next call has, and is sound; who has ended has nothing
abbrev pub Fine : {C : Type 0} → ℕ → (C → Hand) → (C → Type 0) → Servers → Outcome C → Type 0
Fine client hand Sound s (Going next after) = Good client s (hand next) after × Sound next
Fine client hand Sound s (Fixed next reply takes after) = Good client s (hand next) after × Sound next
Fine client hand Sound s (Ended after) = Good client s nothing after
Fine client hand Sound s (Answered reply takes after) = Good client s nothing after
Fine client hand Sound s (Blocked holder) = Unit {0}
