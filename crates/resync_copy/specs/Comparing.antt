-- What contracts see of two files that are compared, before the second is taken in by the first.
use Rattle.std.specs.Prelude.{◌≡◌, ℕ, nat_lt, Bool, not, ◌&&◌, ◌||◌, List, ◌++◌, length, map, filter, if◌then◌else◌}
use Rattle.std.specs.List.{list_any}
use Rattle.composite_layout.specs.declared.component.Component.{Component}
use Rattle.layout_state.specs.Selecting.{in_order}
use Rattle.meta_server.specs.declared.answers.Side.{Side}
use Rattle.resync_copy.specs.declared.parts.CopyObject.{CopyObject}
use Rattle.resync_copy.specs.Parts.{objects_in}

-- what a merge has since its begin: of each file the key, the number and the layout that it got there
pub record ComparingView : Type 0 where
  pub ours : Side
  pub theirs : Side

-- the merge of these two
abbrev pub comparing_of : Side → Side → ComparingView
comparing_of ours theirs = record { ours = ours; theirs = theirs }

-- whether a merge fences the component: it is fresh and has its objects
abbrev pub is_compared : Component → Bool
is_compared c = not c.flags.stale && c.flags.init

-- the ids of these components, in ascending order
abbrev pub compared_ids : List Component → List ℕ
compared_ids cs = in_order (map (λ (c : Component). c.id) (filter is_compared cs))

-- their objects, by component, then by stripe
abbrev pub compared_in : List Component → List CopyObject
compared_in cs = objects_in cs (compared_ids cs)

-- the objects that the merge fences: those of our file, then those of theirs
abbrev pub merge_fences : ComparingView → List CopyObject
merge_fences x = compared_in x.ours.layout.components ++ compared_in x.theirs.layout.components

-- whether there is a component to fence
abbrev pub has_compared : List Component → Bool
has_compared cs = list_any is_compared cs

abbrev pub has_fences : ComparingView → Bool
has_fences x = has_compared x.ours.layout.components || has_compared x.theirs.layout.components

-- how many of the fenced objects are those of our file
abbrev pub our_count : ComparingView → ℕ
our_count x = length (compared_in x.ours.layout.components)

-- the generation of the begin of the file that has the object at this place
abbrev pub version_at : ComparingView → ℕ → ℕ
version_at x place = if nat_lt place (our_count x) then x.ours.layout.generation else x.theirs.layout.generation

-- what a merge has listed beside: the objects to fence, and how many of them are ours
pub record AreFences (x : ComparingView) (listed : List CopyObject) (ours : ℕ) : Type 0 where
  pub fences : listed ≡ merge_fences x
  pub count : ours ≡ our_count x
