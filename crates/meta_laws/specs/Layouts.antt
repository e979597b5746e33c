-- What calls make of the layouts of files.
use Rattle.std.specs.Prelude.{◌≡◌, ℕ, ◌≤◌, List, Option, Some, None}
use Rattle.composite_layout.specs.declared.spec.MirrorSpec.{MirrorSpec}
use Rattle.composite_layout.specs.Layouts.{Composite}
use Rattle.composite_layout.specs.Making.{new_layout}
use Rattle.composite_layout.specs.Specs.{IsSpec}
use Rattle.layout_state.specs.Breaking.{unleased}
use Rattle.layout_state.specs.Changes.{Change, IsSplitOff, TakesIn}
use Rattle.layout_state.specs.Marking.{IsBegin}
use Rattle.layout_state.specs.Mirroring.{IsAdd}
use Rattle.meta_server.specs.Files.{File, MetaView, file_of}

-- a layout becomes another, among these files: it stays, or one of the changes is made, or mirrors are added and a copy begins, or it takes in that of another file
pub data Becomes (files : List File) (old new : Composite) : Type 0 where
  Stays : new ≡ old → Becomes files old new
  Changes : Change old new → Becomes files old new
  Extends : (mirrors : List MirrorSpec) (targets : ℕ) (added : Composite) (ids : List ℕ) (file : ℕ) (nexts after : List ℕ) → Change old added → IsAdd mirrors targets (unleased old) added → Change added new → IsBegin ids file nexts added new after → Becomes files old new
  Merges : (victim : File) → file_of victim.number files ≡ Some victim → TakesIn old victim.layout new → Becomes files old new

-- where the layout of a new file comes from: it is made for good mirrors, or split off from that of one of these files
pub data Comes (files : List File) (new : Composite) : Type 0 where
  Made : (mirrors : List MirrorSpec) (targets : ℕ) → IsSpec mirrors → new ≡ new_layout mirrors targets → Comes files new
  SplitOff : (whole : File) (mirror : ℕ) → file_of whole.number files ≡ Some whole → IsSplitOff mirror whole.layout new → Comes files new

-- the layout of the file with this number, by what the file was before: one that wasn't there is new, and its number wasn't given before
abbrev pub IsExplained : MetaView → ℕ → Option File → Composite → Type 0
IsExplained m n None new = (m.next_file ≤ n) × Comes m.files new
IsExplained m n (Some f) new = Becomes m.files f.layout new

-- the layout of each of the files that are there now comes from what was there before
abbrev pub AreExplained : MetaView → List File → Type 0
AreExplained m new = (n : ℕ) (f : File) → file_of n new ≡ Some f → IsExplained m n (file_of n m.files) f.layout
