-- What contracts see of a copy that has begun.
use Rattle.std.specs.Prelude.{◌≡◌, ◌≤◌, ℕ, List, length, vec_capacity}
use Rattle.meta_server.specs.declared.answers.Side.{Side}
use Rattle.resync_copy.specs.declared.copying.Lists.{Lists}
use Rattle.resync_copy.specs.declared.parts.CopyObject.{CopyObject}
use Rattle.resync_copy.specs.declared.parts.Destination.{Destination}
use Rattle.resync_copy.specs.Parts.{destinations_in, fenced_in, objects_in}

-- what a copy has since its begin: the key, the file and the layout that it got there, the ids of its destinations, and which of these are left by now
pub record CopyingView : Type 0 where
  pub side : Side
  pub ids : List ℕ
  pub destinations : List Destination

-- a copy that has just begun: no destination is left
abbrev pub begun_copy : Side → List ℕ → CopyingView
begun_copy side ids = record { side = side; ids = ids; destinations = destinations_in side.layout.components ids }

-- the objects that the copy fences
abbrev pub fences_of : CopyingView → List CopyObject
fences_of x = fenced_in x.side.layout.components (destinations_in x.side.layout.components x.ids)

-- the objects of the destinations, which it resets
abbrev pub resets_of : CopyingView → List CopyObject
resets_of x = objects_in x.side.layout.components x.ids

-- the copy with these destinations
abbrev pub with_destinations : CopyingView → List Destination → CopyingView
with_destinations x ds = record x { destinations = ds }

-- what a copy has listed beside: the objects to fence and those to reset, and room for the ids of its destinations and for those that are left
pub record AreLists (x : CopyingView) (lists : Lists) : Type 0 where
  pub fences : lists.fences.items ≡ fences_of x
  pub resets : lists.resets.items ≡ resets_of x
  pub cleared : length x.destinations ≤ vec_capacity lists.cleared
  pub lefts : length x.destinations ≤ vec_capacity lists.lefts
