-- What calls make of the numbers that come next.
use Rattle.std.specs.Prelude.{◌≡◌, ℕ, ◌+◌, ◌≤◌, ◌==◌, ◌&&◌, Bool, List, [], ◌∷◌, length, slice_index, if◌then◌else◌}
use Rattle.flr_base.specs.declared.reply.ObjectId.{ObjectId}
use Rattle.composite_layout.specs.declared.component.Component.{Component}
use Rattle.meta_server.specs.Files.{File, MetaView}

-- no next number falls: that of files, of keys, and of the objects of each target, of which there stay as many
pub record NoneFalls (old new : MetaView) : Type 0 where
  pub files : old.next_file ≤ new.next_file
  pub keys : old.leases.next ≤ new.leases.next
  pub objects : (target : ℕ) → slice_index old.nexts target ≤ slice_index new.nexts target
  pub targets : length new.nexts ≡ length old.nexts

-- ---- objects

-- whether two objects are the same
abbrev pub is_object : ObjectId → ObjectId → Bool
is_object o p = (p.target == o.target) && (p.number == o.number)

-- how often an object stands among others
abbrev pub times_among : ObjectId → List ObjectId → ℕ
times_among o [] = 0
times_among o (p ∷ ps) = (if is_object o p then 1 else 0) + times_among o ps

-- how often it stands in components
abbrev pub times_in : ObjectId → List Component → ℕ
times_in o [] = 0
times_in o (c ∷ cs) = times_among o c.objects + times_in o cs

-- how often it stands in the layouts of files
abbrev pub times : ObjectId → List File → ℕ
times o [] = 0
times o (f ∷ fs) = times_in o f.layout.components + times o fs

-- each object stands at one place at most, and was made: its number is below the next one of its target
pub record AreObjectsOnce (m : MetaView) : Type 0 where
  pub once : (o : ObjectId) → times o m.files ≤ 1
  pub made : (o : ObjectId) → slice_index m.nexts o.target ≤ o.number → times o m.files ≡ 0
