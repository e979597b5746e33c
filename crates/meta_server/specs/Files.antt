-- What the metadata server keeps, and the single things that happen to it.
use Rattle.std.specs.Prelude.{ℕ, ◌+◌, ◌<◌, Bool, nat_eq, nat_le, Option, List, [], ◌∷◌, ◌++◌, length, map, filter, find, not, replicate, slice_set, if◌then◌else◌}
use Rattle.std.specs.List.{slice_index_or, AllByRecursion}
use Rattle.std.specs.Cmp.Lexicographic.{pointwise}
use Rattle.composite_layout.specs.declared.component.State.TheVariants as states
use Rattle.composite_layout.specs.Layouts.{Composite}
use Rattle.layout_lease.specs.declared.shared.Share.{Share}
use Rattle.layout_lease.specs.Shares.{LockView, new_lock, shared, freed, evicted}
use Rattle.layout_lease.specs.Leases.{TableView, KeyView, new_table, given, broken_by, evicted_by}

-- a file: its number, which no other file ever has, its name, its size in bytes, its layout and who shares its layout lock
pub record File : Type 0 where
  pub number : ℕ
  pub name : List ℕ
  pub size : ℕ
  pub layout : Composite
  pub lock : LockView

-- the metadata server: the files in order of creation, the leases of all files, the number of the next file, the number of the next object of each target, the most mirrors that a file may have, and the place of the latest eviction of each client, by its number, 0 where there was none
pub record MetaView : Type 0 where
  pub files : List File
  pub leases : TableView
  pub next_file : ℕ
  pub nexts : List ℕ
  pub most : ℕ
  pub evicted : List ℕ

-- ---- which file is meant

-- two names are the same
abbrev pub same_name : List ℕ → List ℕ → Bool
same_name a b = pointwise nat_eq a b

-- a file that isn't there
abbrev pub no_file : File
no_file = record {
  number = 0;
  name = [];
  size = 0;
  layout = record { generation = 0; state = states.Single; next_mirror = 0; next_counter = 0; components = [] };
  lock = new_lock;
}

-- the file at this place, in order of creation
abbrev pub file_at : List File → ℕ → File
file_at files place = slice_index_or files place no_file

-- the file of this name
abbrev pub file_named : List ℕ → List File → Option File
file_named name files = find (λ (f : File). same_name name f.name) files

-- the file with this number. A file that was merged into another is gone
abbrev pub file_of : ℕ → List File → Option File
file_of number files = find (λ (f : File). nat_eq f.number number) files

-- whether there are as many files as there may be
abbrev pub is_full : List File → Bool
is_full files = nat_le 16 (length files)

-- the numbers ascend in order of creation, so no two files have one number
abbrev pub AreAscending : List File → Type 0
AreAscending [] = Unit {0}
AreAscending (f ∷ fs) = AllByRecursion (λ (g : File). f.number < g.number) fs × AreAscending fs

-- each number was given before the next one
abbrev pub AreBelow : ℕ → List File → Type 0
AreBelow next files = AllByRecursion (λ (f : File). f.number < next) files

-- ---- what happens to files

-- the files, with the one of this number changed
abbrev pub changed : ℕ → (File → File) → List File → List File
changed number change files = map (λ (f : File). if nat_eq f.number number then change f else f) files

-- the files without the one of this number
abbrev pub without_file : ℕ → List File → List File
without_file number files = filter (λ (f : File). not (nat_eq f.number number)) files

abbrev pub with_layout : Composite → File → File
with_layout layout f = record f { layout = layout }

abbrev pub with_size : ℕ → File → File
with_size size f = record f { size = size }

-- the client shares the file's layout lock
abbrev pub with_share : ℕ → File → File
with_share client f = record f { lock = shared client f.lock }

-- the cookie is given back
abbrev pub with_freed : Share → File → File
with_freed cookie f = record f { lock = freed cookie f.lock }

-- the client's cookies are taken
abbrev pub with_evicted : ℕ → File → File
with_evicted client f = record f { lock = evicted client f.lock }

-- a file as it is made: nobody shares its layout lock
abbrev pub new_file : ℕ → List ℕ → ℕ → Composite → File
new_file number name size layout = record { number = number; name = name; size = size; layout = layout; lock = new_lock }

-- ---- what happens to the server

-- nothing was ever made
abbrev pub new_meta : ℕ → ℕ → MetaView
new_meta targets most = record { files = []; leases = new_table; next_file = 1; nexts = replicate targets 1; most = most; evicted = replicate 17 0 }

-- a change of the file with this number
abbrev pub with_change : ℕ → (File → File) → MetaView → MetaView
with_change number change m = record m { files = changed number change m.files }

-- the new file comes last
abbrev pub with_file : List ℕ → ℕ → Composite → MetaView → MetaView
with_file name size layout m = record m { files = m.files ++ new_file m.next_file name size layout ∷ []; next_file = m.next_file + 1 }

-- the layout of the file with this number changes, and if a lease of the file stands, this step breaks it
abbrev pub with_break : ℕ → ℕ → Composite → MetaView → MetaView
with_break number step layout m = record m { files = changed number (with_layout layout) m.files; leases = broken_by number step m.leases }

-- the key is given back
abbrev pub with_given : KeyView → MetaView → MetaView
with_given key m = record m { leases = given key m.leases }

-- the step evicts the client: its cookies of all files are taken, and its leases are broken
abbrev pub with_eviction : ℕ → ℕ → MetaView → MetaView
with_eviction client step m = record m {
  files = map (with_evicted client) m.files;
  leases = evicted_by client step m.leases;
  evicted = slice_set m.evicted client step;
}
