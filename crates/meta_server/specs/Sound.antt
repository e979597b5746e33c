-- What holds of the metadata server whatever was called.
use Rattle.std.specs.Prelude.{◌≡◌, ℕ, ◌<◌, ◌≤◌, true, List, [], ◌∷◌, length, Option, Some, None}
use Rattle.std.specs.List.{AllByRecursion}
use Rattle.composite_layout.specs.declared.component.State.TheVariants as states
use Rattle.composite_layout.specs.Layouts.{IsValid}
use Rattle.layout_lease.specs.declared.lease.Lease.{Lease}
use Rattle.layout_lease.specs.Leases.{IsSoundTable, is_unbroken}
use Rattle.layout_lease.specs.Shares.{IsSoundLock}
use Rattle.layout_state.specs.Making.{AreNext}
use Rattle.meta_server.specs.Files.{File, MetaView, AreAscending, AreBelow, file_of}
use Rattle.flr_base.specs.Limits.{most_bytes}

-- no two files have one name
abbrev pub AreNamedApart : List File → Type 0
AreNamedApart [] = Unit {0}
AreNamedApart (f ∷ fs) = AllByRecursion (λ (g : File). f.name ≡ g.name → ⊥) fs × AreNamedApart fs

-- a file has a valid layout, a sound layout lock, and isn't too big
pub record IsSoundFile (f : File) : Type 0 where
  pub layout : IsValid f.layout
  pub lock : IsSoundLock f.lock
  pub size : f.size ≤ most_bytes

-- the file is there, and a copy is under way
abbrev pub IsUnderCopy : Option File → Type 0
IsUnderCopy None = ⊥
IsUnderCopy (Some f) = f.layout.state ≡ states.SyncPending

-- while a lease stands its file is there, and a copy is under way
abbrev pub IsCovered : List File → Lease → Type 0
IsCovered files lease = is_unbroken lease.state ≡ true → IsUnderCopy (file_of lease.file files)

-- what holds of the server
pub record IsSound (m : MetaView) : Type 0 where
  pub files : AllByRecursion IsSoundFile m.files
  pub ascending : AreAscending m.files
  pub below : AreBelow m.next_file m.files
  pub named : AreNamedApart m.files
  pub few : length m.files ≤ 16
  pub leases : IsSoundTable m.leases
  pub covered : AllByRecursion (IsCovered m.files) m.leases.keys
  pub nexts : AreNext m.nexts
  pub some : 0 < m.most
  pub most : m.most ≤ 32
  pub evicted : length m.evicted ≡ 17

-- a change of the file with this number: it stays the file that it is, and sound
pub record IsFileChange (files : List File) (n : ℕ) (g : File → File) : Type 0 where
  pub number : (f : File) → (g f).number ≡ f.number
  pub name : (f : File) → (g f).name ≡ f.name
  pub sound : (f : File) → file_of n files ≡ Some f → IsSoundFile f → IsSoundFile (g f)

-- what holds of the files alone
pub record AreSound (next : ℕ) (fs : List File) : Type 0 where
  pub files : AllByRecursion IsSoundFile fs
  pub ascending : AreAscending fs
  pub below : AreBelow next fs
  pub named : AreNamedApart fs
  pub few : length fs ≤ 16
