-- The objects that a change makes for components that have none.
use Rattle.std.specs.Prelude.{ℕ, ◌≢◌, unwrap_or, ◌+◌, ◌%◌, ◌≤◌, ◌<◌, Bool, true, not, ◌&&◌, List, [], ◌∷◌, length, map, filter, slice_index, slice_set, Option, Some, None, if◌then◌else◌}
use Rattle.std.specs.List.{flat_map, range_with_len, AllByRecursion}
use Rattle.flr_base.specs.declared.reply.ObjectId.{ObjectId}
use Rattle.composite_layout.specs.declared.component.Component.{Component}
use Rattle.composite_layout.specs.Layouts.{counter_of}

-- the next numbers of a maker: one for each of 1 to 64 targets, each at least 1
pub record AreNext (nexts : List ℕ) : Type 0 where
  pub some : 0 < length nexts
  pub few : length nexts ≤ 64
  pub counted : (target : ℕ) → target < length nexts → 0 < slice_index nexts target

-- the targets on which a component of this file has its stripes, one after the other
abbrev pub targets_of : ℕ → ℕ → Component → List ℕ
targets_of targets file c = map (λ i. (file + counter_of c + i) % targets) (range_with_len 0 c.stripe.count)

-- the next numbers once this target's is used
abbrev pub next_after : List ℕ → ℕ → List ℕ
next_after nexts target = slice_set nexts target (slice_index nexts target + 1)

-- the next numbers once an object was made on each of these targets
abbrev pub nexts_after : List ℕ → List ℕ → List ℕ
nexts_after nexts [] = nexts
nexts_after nexts (t ∷ ts) = nexts_after (next_after nexts t) ts

-- the objects made on these targets in turn: each has the next number of its target
abbrev pub objects_on : List ℕ → List ℕ → List ObjectId
objects_on nexts [] = []
objects_on nexts (t ∷ ts) = record { target = t; number = slice_index nexts t } ∷ objects_on (next_after nexts t) ts

-- whether the component has no objects and is one of those that are to have some
abbrev pub gets_objects : (Component → Bool) → Component → Bool
gets_objects wanted c = wanted c && not c.flags.init

-- the component with these objects
abbrev pub with_objects : Component → List ObjectId → Component
with_objects c objects = record c { flags = record c.flags { init = true }; objects = objects }

-- the objects made for a component, if it gets some
abbrev pub made_for : Bool → ℕ → List ℕ → Component → Option (List ObjectId)
made_for gets file nexts c = if gets then Some (objects_on nexts (targets_of (length nexts) file c)) else None

-- the next numbers after that
abbrev pub nexts_for : Bool → ℕ → List ℕ → Component → List ℕ
nexts_for gets file nexts c = if gets then nexts_after nexts (targets_of (length nexts) file c) else nexts

-- the objects made for each component, in the order of components, then of stripes
abbrev pub new_objects : (Component → Bool) → ℕ → List ℕ → List Component → List (Option (List ObjectId))
new_objects wanted file nexts [] = []
new_objects wanted file nexts (c ∷ cs) =
    made_for (gets_objects wanted c) file nexts c ∷ new_objects wanted file (nexts_for (gets_objects wanted c) file nexts c) cs

-- the component with what was made for it
abbrev pub with_made : Component → Option (List ObjectId) → Component
with_made c None = c
with_made c (Some objects) = with_objects c objects

-- each component with what was made for it
abbrev pub all_with_made : List Component → List (Option (List ObjectId)) → List Component
all_with_made [] made = []
all_with_made (c ∷ cs) [] = c ∷ cs
all_with_made (c ∷ cs) (o ∷ os) = with_made c o ∷ all_with_made cs os

-- the components, where those that are wanted and have no objects got new ones
abbrev pub with_new_objects : (Component → Bool) → ℕ → List ℕ → List Component → List Component
with_new_objects wanted file nexts cs = all_with_made cs (new_objects wanted file nexts cs)

-- the targets of all the objects that are made for these components, in the same order
abbrev pub new_targets : (Component → Bool) → ℕ → ℕ → List Component → List ℕ
new_targets wanted targets file cs = flat_map (targets_of targets file) (filter (gets_objects wanted) cs)

-- ---- what is said of the objects of a change

-- the objects that were made, one component after the other
abbrev pub all_objects : List (Option (List ObjectId)) → List ObjectId
all_objects made = flat_map (λ objects. unwrap_or objects []) made

-- the object's number was its target's next or a later one, and is used now
abbrev pub IsNewBetween : List ℕ → List ℕ → ObjectId → Type 0
IsNewBetween nexts after o = (slice_index nexts o.target ≤ o.number) × (o.number < slice_index after o.target)

-- no two of the objects are the same
abbrev pub AreApart : List ObjectId → Type 0
AreApart [] = Unit {0}
AreApart (o ∷ os) = AllByRecursion (λ p. o ≢ p) os × AreApart os
