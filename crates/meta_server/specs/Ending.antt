-- How a copy ends, and a file is taken in.
use Rattle.std.specs.Prelude.{ℕ, Option, Some, None, List}
use Rattle.layout_lease.specs.declared.lease.KeyState.{KeyState}
use Rattle.layout_lease.specs.declared.lease.KeyState.TheVariants.{Held, Broken}
use Rattle.layout_lease.specs.Leases.{KeyView, given, state_of}
use Rattle.layout_lease.specs.Shares.{lowest_but}
use Rattle.meta_server.specs.Files.{File, MetaView, changed, file_of, with_given, with_layout, without_file}
use Rattle.meta_server.specs.Layouts.{finished, merged, merged_ids}
use Rattle.meta_server.specs.Outcomes.{Ending, Ends, Breaks, Holds}

-- ---- the end of a copy of one file

-- the components lose stale, and the lease ends: both, or neither
abbrev pub with_done : KeyView → List ℕ → File → MetaView → MetaView
with_done key cleared f m = record m { files = changed f.number (with_layout (finished cleared f.layout)) m.files; leases = given key m.leases }

module _ (key : KeyView) (cleared : List ℕ) (m : MetaView) where
  abbrev pub copy_ends_alone : File → Option ℕ → Ending (Unit {0})
  copy_ends_alone f (Some holder) = Holds holder
  copy_ends_alone f None = Ends tt (with_done key cleared f m)

  -- while a lease stands its file is there; else it is as if the lease had been broken
  abbrev pub copy_ends_file : Option File → Ending (Unit {0})
  copy_ends_file None = Breaks 0 (with_given key m)
  copy_ends_file (Some f) = copy_ends_alone f (lowest_but key.client f.lock)

  abbrev pub copy_ends_by : KeyState → Ending (Unit {0})
  copy_ends_by (Broken step) = Breaks step (with_given key m)
  copy_ends_by Held = copy_ends_file (file_of key.file m.files)

-- the copy under this key ends, and brought these components up to date
abbrev pub copy_ends : KeyView → List ℕ → MetaView → Ending (Unit {0})
copy_ends key cleared m = copy_ends_by key cleared m (state_of m.leases key)

-- ---- the end of a copy by a victim, which is taken in

module _ (ours theirs : KeyView) (m : MetaView) where
  -- both keys are given back
  abbrev pub both_given : MetaView
  both_given = with_given theirs (with_given ours m)

  -- the victim's mirrors come to our file, the victim and its name go, and the leases end
  abbrev pub with_merge : File → File → MetaView
  with_merge f v = record both_given { files = without_file v.number (changed f.number (with_layout (merged v.layout f.layout)) m.files) }

  abbrev pub merge_ends_alone : File → File → Option ℕ → Option ℕ → Ending (List ℕ)
  merge_ends_alone f v (Some holder) other = Holds holder
  merge_ends_alone f v None (Some holder) = Holds holder
  merge_ends_alone f v None None = Ends (merged_ids v.layout f.layout) (with_merge f v)

  -- while both leases stand both files are there; else it is as if a lease had been broken
  abbrev pub merge_ends_files : Option File → Option File → Ending (List ℕ)
  merge_ends_files None victim = Breaks 0 both_given
  merge_ends_files (Some f) None = Breaks 0 both_given
  merge_ends_files (Some f) (Some v) = merge_ends_alone f v (lowest_but ours.client f.lock) (lowest_but ours.client v.lock)

  abbrev pub merge_ends_by : KeyState → KeyState → Ending (List ℕ)
  merge_ends_by (Broken step) other = Breaks step both_given
  merge_ends_by Held (Broken step) = Breaks step both_given
  merge_ends_by Held Held = merge_ends_files (file_of ours.file m.files) (file_of theirs.file m.files)

-- the copy under these keys ends: the file of the second is taken in by that of the first
abbrev pub merge_ends : KeyView → KeyView → MetaView → Ending (List ℕ)
merge_ends ours theirs m = merge_ends_by ours theirs m (state_of m.leases ours) (state_of m.leases theirs)
