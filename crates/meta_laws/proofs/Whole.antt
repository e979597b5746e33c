-- The whole server stays sound where its parts do.
use Rattle.std.proofs.Common.{◌≡◌, ℕ, Bool, Some, List, find, refl}
use Rattle.std.specs.List.{AllByRecursion}
use Rattle.composite_layout.specs.Layouts.{Composite, IsValid}
use Rattle.layout_lease.specs.Leases.{TableView, IsSoundTable, broken_by}
use Rattle.layout_lease.proofs.Hands.{broken_free}
use Rattle.layout_lease.proofs.SoundTable.{IsSoundTable-broken}
use Rattle.layout_lease.specs.declared.lease.Lease.{Lease}
use Rattle.std.proofs.Common.{◌==◌}
use Rattle.layout_state.specs.Making.{AreNext}
use Rattle.meta_server.specs.Files.{File, MetaView, changed, with_break, with_change, with_layout}
use Rattle.meta_server.specs.Sound.{AreSound, IsCovered, IsFileChange, IsSound, IsSoundFile}
use Rattle.meta_server.proofs.SoundFiles.{copied_changed, files_changed}
use Rattle.meta_laws.proofs.Covering.{AreFree, covered_beside, covered_broken, covered_still, free_held}
use Rattle.meta_laws.proofs.Finding.{found_keeps, other_found}

-- the files of a sound server
pub files_of_sound : (m : MetaView) → IsSound m → AreSound m.next_file m.files
files_of_sound m h = record { files = h.files; ascending = h.ascending; below = h.below; named = h.named; few = h.few }

-- a server with other files, leases and numbers
pub with_parts : (m : MetaView) (files : List File) (leases : TableView) (next : ℕ) (nexts : List ℕ) → IsSound m → AreSound next files → IsSoundTable leases → AllByRecursion (IsCovered files) leases.keys → AreNext nexts
    → IsSound (record m { files = files; leases = leases; next_file = next; nexts = nexts })
with_parts m files leases next nexts h sound table covered nums = record {
  files = sound.files;
  ascending = sound.ascending;
  below = sound.below;
  named = sound.named;
  few = sound.few;
  leases = table;
  covered = covered;
  nexts = nums;
  some = h.some;
  most = h.most;
  evicted = h.evicted;
}

-- a file that is there is sound
pub sound_there : (p : File → Bool) (m : MetaView) (f : File) → IsSound m → find p m.files ≡ Some f → IsSoundFile f
sound_there p m f h e = found_keeps p IsSoundFile m.files f e h.files

-- a file gets a valid layout
pub laid_out : (files : List File) (n : ℕ) (l : Composite) → IsValid l → IsFileChange files n (with_layout l)
laid_out files n l v = record { number = λ f. refl; name = λ f. refl; sound = λ f e h. record { layout = v; lock = h.lock; size = h.size } }

-- ---- a change of one file

-- one that leaves the state of the layout
pub change_sound : (m : MetaView) (n : ℕ) (g : File → File) → IsSound m → IsFileChange m.files n g → ((f : File) → (g f).layout.state ≡ f.layout.state) → IsSound (with_change n g m)
change_sound m n g h is state =
    with_parts m (changed n g m.files) m.leases m.next_file m.nexts h (files_changed m.next_file n g m.files is (files_of_sound m h)) h.leases
    (covered_still m.files (changed n g m.files) m.leases.keys (λ k. copied_changed k n g m.files is.number state) h.covered) h.nexts

-- one of a file that has no unbroken lease
pub layout_sound : (m : MetaView) (n : ℕ) (l : Composite) (leases : TableView) (nexts : List ℕ) → IsSound m → IsValid l → IsSoundTable leases → AreFree n leases.keys → AllByRecursion (IsCovered m.files) leases.keys → AreNext nexts
    → IsSound (record m { files = changed n (with_layout l) m.files; leases = leases; nexts = nexts })
layout_sound m n l leases nexts h valid table free covered nums =
    with_parts m (changed n (with_layout l) m.files) leases m.next_file nexts h (files_changed m.next_file n (with_layout l) m.files (laid_out m.files n l valid) (files_of_sound m h)) table
    (covered_beside n m.files (changed n (with_layout l) m.files) leases.keys (λ k apart. other_found k n (with_layout l) m.files (λ f. refl) apart) free covered) nums

-- one that breaks the lease of the file
pub broken_sound : (m : MetaView) (n step : ℕ) (l : Composite) (nexts : List ℕ) → IsSound m → IsValid l → AreNext nexts → IsSound (record (with_break n step l m) { nexts = nexts })
broken_sound m n step l nexts h valid nums =
    layout_sound m n l (broken_by n step m.leases) nexts h valid
    (IsSoundTable-broken (λ (lease : Lease). lease.file == n) step m.leases.keys m.leases.next h.leases)
    (free_held n (broken_by n step m.leases) (broken_free n step m.leases))
    (covered_broken m.files (λ (lease : Lease). lease.file == n) step m.leases.keys h.covered)
    nums
