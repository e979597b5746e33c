-- What a step of a command does to layouts, to leases and to locks; and where objects stand.
use Rattle.std.specs.Prelude.{◌≡◌, ◌⊎◌, ℕ, true, false, List, [], ◌∷◌, ◌++◌, length, Contains, None, Some, slice_get}
use Rattle.flr_base.specs.declared.reply.Entry.{Entry}
use Rattle.flr_base.specs.declared.reply.Left.{Left}
use Rattle.flr_base.specs.declared.reply.ObjectId.{ObjectId}
use Rattle.flr_base.specs.declared.reply.Reply.TheVariants as reply
use Rattle.composite_layout.specs.Choices.{is_ready}
use Rattle.composite_layout.specs.declared.component.Component.{Component}
use Rattle.composite_layout.specs.declared.spec.MirrorSpec.{MirrorSpec}
use Rattle.composite_layout.specs.Layouts.{Composite}
use Rattle.composite_layout.specs.Making.{new_layout}
use Rattle.layout_state.specs.Choosing.{primary_of}
use Rattle.layout_state.specs.Selecting.{selected_of}
use Rattle.lfs_words.specs.declared.command.LfsCommand.{LfsCommand}
use Rattle.lfs_words.specs.declared.command.LfsCommand.TheVariants as lfs
use Rattle.lfs_words.specs.declared.command.SplitTo.{SplitTo}
use Rattle.lfs_words.specs.declared.command.SplitTo.TheVariants as split
use Rattle.script_values.specs.declared.command.Command.{Command}
use Rattle.script_values.specs.declared.command.Command.TheVariants as command
use Rattle.meta_server.specs.Files.{File, MetaView, file_named, file_of, with_eviction}
use Rattle.meta_server.specs.Layouts.{begun, extended, finished, flagged, intended, lessened, merged, new_ids, split_off}
use Rattle.flr_steps.specs.States.{State, place_in}
use Rattle.flr_steps.specs.Steps.{StepIs}
use Rattle.flr_claims.specs.Asked.{lfs_name, lfs_victim, name_of, range_of}
use Rattle.flr_claims.specs.Calls.{HasLease, breaks_leases, shares_lock}
use Rattle.lfs_words.specs.Naming.{default_name}

-- ---- layouts

module _ (m : MetaView) (f : File) (new : Composite) where
  -- the intent of a write or a truncate for the bytes that it is about
  abbrev pub IsIntended : Command → Type 0
  IsIntended asked = (mirror : ℕ) × (is_ready f.layout (range_of asked) ≡ false) × (primary_of (range_of asked) f.layout.components ≡ Some mirror) × (new ≡ intended (range_of asked) mirror f.number m.nexts f.layout)

  -- the begin of a resync, or its end
  abbrev pub IsResynced : List ℕ → Type 0
  IsResynced ids = (new ≡ begun ids f.number m.nexts f.layout) ⊎ ((cleared : List ℕ) × (new ≡ finished cleared f.layout))

  -- new mirrors come, stale, and with them the begin of a copy to those that it selects, if it selects any; or the end of that copy
  abbrev pub IsExtended : List MirrorSpec → Composite → List ℕ → Type 0
  IsExtended spec added [] = new ≡ added
  IsExtended spec added (id ∷ ids) = new ≡ begun (id ∷ ids) f.number m.nexts added

  -- the begin of an extend by a victim, of either file; or its end, at which the victim's mirrors come to the file
  abbrev pub IsTakingIn : List ℕ → List ℕ → Type 0
  IsTakingIn name victim =
      (new ≡ begun [] f.number m.nexts f.layout) ⊎ ((v : File) × (f.name ≡ name) × (file_named victim m.files ≡ Some v) × (new ≡ merged v.layout f.layout))

  abbrev pub IsLfsChange : LfsCommand → Type 0
  IsLfsChange (lfs.CompSet name id change) = new ≡ flagged id change f.layout
  IsLfsChange (lfs.Split name mirror to) = new ≡ lessened mirror f.layout
  IsLfsChange (lfs.Delete name mirror) = new ≡ lessened mirror f.layout
  IsLfsChange (lfs.Resync name only) = IsResynced (selected_of only f.layout.components)
  IsLfsChange (lfs.Extend name spec) =
      let added : Composite = extended spec (length m.nexts) f.layout in
      IsExtended spec added (selected_of (Some (new_ids spec f.layout)) added.components) ⊎ ((cleared : List ℕ) × (new ≡ finished cleared f.layout))
  IsLfsChange (lfs.ExtendBy name victim) = IsTakingIn name victim
  IsLfsChange other = ⊥

  -- the command's change of the layout of this file, among what the metadata server keeps
  abbrev pub IsChangeBy : Command → Type 0
  IsChangeBy (command.Write name offset bytes) = IsIntended (command.Write name offset bytes)
  IsChangeBy (command.Truncate name size) = IsIntended (command.Truncate name size)
  IsChangeBy (command.Lfs of) = IsLfsChange of
  IsChangeBy other = ⊥

abbrev pub lfs_files : LfsCommand → List (List ℕ)
lfs_files (lfs.ExtendBy name victim) = name ∷ victim ∷ []
lfs_files other = lfs_name other ∷ []

-- the names of the files whose layouts a command may change
abbrev pub files_of : Command → List (List ℕ)
files_of (command.Write name offset bytes) = name ∷ []
files_of (command.Truncate name size) = name ∷ []
files_of (command.Lfs of) = lfs_files of
files_of other = []

-- a file that was there keeps its layout, or the command is about it, and it is its change
abbrev pub IsKeptOrChanged : MetaView → Command → File → File → Type 0
IsKeptOrChanged m asked old new = (new.layout ≡ old.layout) ⊎ (Contains (files_of asked) old.name × IsChangeBy m old new.layout asked)

-- ---- files that come and go

-- the mirror is split off to a file of this name: with its components and the size of the file that had it
abbrev pub IsPartOf : MetaView → File → List ℕ → ℕ → List ℕ → Type 0
IsPartOf m new name mirror to = (f : File) × (file_named name m.files ≡ Some f) × (new.name ≡ to) × (new.size ≡ f.size) × (new.layout ≡ split_off mirror f.layout)

abbrev pub IsSplitTo : MetaView → File → List ℕ → ℕ → SplitTo → Type 0
IsSplitTo m new name mirror split.Default = IsPartOf m new name mirror (default_name name mirror)
IsSplitTo m new name mirror (split.Named to) = IsPartOf m new name mirror to
IsSplitTo m new name mirror split.Destroy = ⊥

-- an empty file is made of this name, with these mirrors
abbrev pub IsMade : MetaView → File → List ℕ → List MirrorSpec → Type 0
IsMade m new name spec = (new.name ≡ name) × (new.size ≡ 0) × (new.layout ≡ new_layout spec (length m.nexts))

abbrev pub lfs_makes : MetaView → File → LfsCommand → Type 0
lfs_makes m new (lfs.SetStripe name spec) = IsMade m new name spec
lfs_makes m new (lfs.Create name spec) = IsMade m new name spec
lfs_makes m new (lfs.Split name mirror to) = IsSplitTo m new name mirror to
lfs_makes m new other = ⊥

-- a file that wasn't there has the next number, and the command makes it
abbrev pub IsMadeBy : MetaView → File → Command → Type 0
IsMadeBy m new (command.Lfs of) = (new.number ≡ m.next_file) × lfs_makes m new of
IsMadeBy m new other = ⊥

abbrev pub IsTakenIn : Command → File → Type 0
IsTakenIn (command.Lfs of) old = lfs_victim of ≡ Some old.name
IsTakenIn other old = ⊥

-- what a step of a command makes of the files: each that is there was made by it, or was there, has its name, and its layout is as it was or changed by it; and none goes but one that it takes in
pub record ChangesFiles (old : State) (c : ℕ) (new : State) (step : StepIs old c new) : Type 0 where
  pub made : (number : ℕ) (g : File) → file_of number new.shared.meta.files ≡ Some g → file_of number old.shared.meta.files ≡ None → IsMadeBy old.shared.meta g step.asked
  pub kept : (number : ℕ) (f g : File) → file_of number old.shared.meta.files ≡ Some f → file_of number new.shared.meta.files ≡ Some g → (g.name ≡ f.name) × IsKeptOrChanged old.shared.meta step.asked f g
  pub gone : (number : ℕ) (f : File) → file_of number old.shared.meta.files ≡ Some f → file_of number new.shared.meta.files ≡ None → IsTakenIn step.asked f

-- ---- stale

-- with this step a resync, or an extend by copy, of the file is answered, and this component is one of those that it cleared
pub record IsClearedBy (old : State) (c : ℕ) (new : State) (step : StepIs old c new) (f : File) (id : ℕ) : Type 0 where
  pub about : name_of step.asked ≡ Some f.name
  pub entry : Entry
  pub answered : new.entries ≡ old.entries ++ entry ∷ []
  pub cleared : List ℕ
  pub left : List Left
  pub copied : entry.reply ≡ reply.Copied cleared left
  pub there : Contains cleared id

-- stale goes only so: a component of a file that was stale and isn't any more was cleared with this step
abbrev pub StaleGoesOnlySo : (old : State) (c : ℕ) (new : State) → StepIs old c new → Type 0
StaleGoesOnlySo old c new step = (number : ℕ) (f g : File) (a b : Component) → file_of number old.shared.meta.files ≡ Some f → file_of number new.shared.meta.files ≡ Some g
    → Contains f.layout.components a → Contains g.layout.components b → b.id ≡ a.id → a.flags.stale ≡ true → b.flags.stale ≡ false → IsClearedBy old c new step f a.id

-- ---- evictions

-- a step that evicts a client takes its cookies and breaks its leases, and changes nothing else of the servers
abbrev pub TakesOnlyItsOwn : (old : State) (c : ℕ) (new : State) → StepIs old c new → Type 0
TakesOnlyItsOwn old c new step = (client : ℕ) → step.asked ≡ command.Evict client → new.shared ≡ record old.shared { meta = with_eviction client (place_in old) old.shared.meta }

-- a client loses the layout lock of a file, or an unbroken lease, by a step of its own; the lock else by an eviction, and the lease by a step that breaks it
pub record LosesOnlySo (old : State) (c : ℕ) (new : State) (step : StepIs old c new) : Type 0 where
  pub locks : (d number : ℕ) (f g : File) → file_of number old.shared.meta.files ≡ Some f → file_of number new.shared.meta.files ≡ Some g
      → shares_lock d f ≡ true → shares_lock d g ≡ false → (d ≡ c) ⊎ (step.asked ≡ command.Evict d)
  pub leases : (d number : ℕ) → HasLease old d number → (HasLease new d number → ⊥) → (d ≡ c) ⊎ (breaks_leases step.asked ≡ true)

-- ---- objects

-- the object stands at this stripe of this component of this file
pub record StandsAt (s : State) (o : ObjectId) (file component stripe : ℕ) : Type 0 where
  pub f : File
  pub there : file_of file s.shared.meta.files ≡ Some f
  pub c : Component
  pub listed : Contains f.layout.components c
  pub same : c.id ≡ component
  pub here : slice_get c.objects stripe ≡ Some o

-- an object stands at one place of one layout
abbrev pub ObjectsStandOnce : State → Type 0
ObjectsStandOnce s = (o : ObjectId) (file component stripe other_file other_component other_stripe : ℕ) → StandsAt s o file component stripe → StandsAt s o other_file other_component other_stripe
    → (other_file ≡ file) × (other_component ≡ component) × (other_stripe ≡ stripe)
