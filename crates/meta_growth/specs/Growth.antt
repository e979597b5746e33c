-- How far the numbers of the metadata server rise.
use Rattle.std.specs.Prelude.{◌≡◌, ℕ, ◌+◌, ◌≤◌, List, [], ◌∷◌, length, if◌then◌else◌}
use Rattle.std.specs.List.{AllByRecursion, sum}
use Rattle.composite_layout.specs.declared.component.Component.{Component}
use Rattle.meta_server.specs.declared.answers.CopyWhat.{CopyWhat}
use Rattle.meta_server.specs.declared.answers.CopyWhat.TheVariants.{Resync, Extend, Victim}
use Rattle.meta_server.specs.Files.{File, MetaView, AreAscending, AreBelow}
use Rattle.meta_laws.specs.Calls.{Call, OpenRead, OpenWrite, OpenCut, Free, Confirm, Commit, Cut, BeginCopy, CopyDone, MergeDone, GiveUp, Create, Remove, Set, Evict}
use Rattle.script_values.specs.Work.{stripes_of_mirrors}

-- ---- objects that were made, and those that may still be

-- the stripes of a component that has no objects yet
abbrev pub stripes_to_make : Component → ℕ
stripes_to_make c = if c.flags.init then 0 else c.stripe.count

-- all its stripes
abbrev pub stripes_at : Component → ℕ
stripes_at c = c.stripe.count

-- those of all these components together
abbrev pub total_in : (Component → ℕ) → List Component → ℕ
total_in stripes [] = 0
total_in stripes (c ∷ cs) = stripes c + total_in stripes cs

-- those of all these files together
abbrev pub total_of : (Component → ℕ) → List File → ℕ
total_of stripes [] = 0
total_of stripes (f ∷ fs) = total_in stripes f.layout.components + total_of stripes fs

-- the numbers of the next objects, one for each target, and the stripes that have no objects yet, together
abbrev pub drawn : MetaView → ℕ
drawn m = sum m.nexts + total_of stripes_to_make m.files

-- the stripes of all layouts, with objects or without
abbrev pub laid_out : MetaView → ℕ
laid_out m = total_of stripes_at m.files

-- ---- what is known of files

-- the generation of the file's layout and the number of its next cookie are at most these
pub record IsUpTo (g k : ℕ) (f : File) : Type 0 where
  pub generation : f.layout.generation ≤ g
  pub cookie : f.lock.next ≤ k

-- the numbers of files ascend, and are below the next one
pub record AreNumbered (m : MetaView) : Type 0 where
  pub ascending : AreAscending m.files
  pub below : AreBelow m.next_file m.files

-- ---- growth

-- how far each number rises at most: that of the next file, of the next key, the generations of layouts, the numbers of next cookies, and the stripes of components
pub record Growth : Type 0 where
  pub files : ℕ
  pub keys : ℕ
  pub generations : ℕ
  pub cookies : ℕ
  pub stripes : ℕ

-- each number rises so far at most, there stay as many targets, and the numbers of files stay in order
pub record Grows (by : Growth) (old new : MetaView) : Type 0 where
  pub files : new.next_file ≤ old.next_file + by.files
  pub keys : new.leases.next ≤ old.leases.next + by.keys
  pub each : (g k : ℕ) → AllByRecursion (IsUpTo g k) old.files → AllByRecursion (IsUpTo (g + by.generations) (k + by.cookies)) new.files
  pub stripes : drawn new ≤ drawn old + by.stripes
  pub whole : laid_out new ≤ laid_out old + by.stripes
  pub targets : length new.nexts ≡ length old.nexts
  pub numbered : AreNumbered new

-- the stripes of the mirrors with which a copy begins, over so many targets
abbrev pub stripes_of_what : ℕ → CopyWhat → ℕ
stripes_of_what targets (Resync only) = 0
stripes_of_what targets (Extend mirrors) = stripes_of_mirrors targets mirrors
stripes_of_what targets (Victim victim) = 0

-- the stripes of the mirrors that a call makes
abbrev pub stripes_of_call : ℕ → Call → ℕ
stripes_of_call targets (OpenRead client name) = 0
stripes_of_call targets (OpenWrite client name range step) = 0
stripes_of_call targets (OpenCut client name size step) = 0
stripes_of_call targets (Free file cookie) = 0
stripes_of_call targets (Confirm file cookie) = 0
stripes_of_call targets (Commit file cookie end) = 0
stripes_of_call targets (Cut file cookie size) = 0
stripes_of_call targets (BeginCopy client name what) = stripes_of_what targets what
stripes_of_call targets (CopyDone key cleared) = 0
stripes_of_call targets (MergeDone ours theirs) = 0
stripes_of_call targets (GiveUp key) = 0
stripes_of_call targets (Create name mirrors) = stripes_of_mirrors targets mirrors
stripes_of_call targets (Remove client name mirror to step) = 0
stripes_of_call targets (Set client name id change step) = 0
stripes_of_call targets (Evict client step) = 0

-- the most that a call raises numbers, where the mirrors that it makes have so many stripes
abbrev pub most_by_call : ℕ → Growth
most_by_call stripes = record { files = 1; keys = 2; generations = 3; cookies = 1; stripes = stripes }
