-- What a layout is after each change, and the next object numbers.
use Rattle.std.specs.Prelude.{ℕ, ◌+◌, max, Bool, true, List, [], ◌++◌, length, map, Option}
use Rattle.std.specs.List.{range_with_len}
use Rattle.flr_base.specs.declared.reply.Range.{Range}
use Rattle.composite_layout.specs.declared.component.Component.{Component}
use Rattle.composite_layout.specs.declared.component.State.TheVariants as states
use Rattle.composite_layout.specs.declared.spec.MirrorSpec.{MirrorSpec}
use Rattle.composite_layout.specs.FlagChanges.{FlagSets}
use Rattle.composite_layout.specs.Layouts.{Composite, eof}
use Rattle.composite_layout.specs.LookUps.{mirror_ids}
use Rattle.composite_layout.specs.Making.{new_mirrors, new_state, part_count}
use Rattle.layout_state.specs.Breaking.{pending, unleased}
use Rattle.layout_state.specs.Choosing.{is_over}
use Rattle.layout_state.specs.Making.{new_targets, nexts_after, with_new_objects}
use Rattle.layout_state.specs.Marking.{changed_if_named, fresh_if_named, is_named, stale_if_behind}
use Rattle.layout_state.specs.Mirroring.{added_state, left_state, of_mirror, taken_in, without}
use Rattle.mirror_select.specs.Pieces.{first_without}

-- the next numbers once the wanted components of this file that had no objects got theirs
abbrev pub nexts_over : (Component → Bool) → ℕ → List ℕ → Composite → List ℕ
nexts_over wanted file nexts l = nexts_after nexts (new_targets wanted (length nexts) file l.components)

-- a write's intent for the range, to this mirror of this file
abbrev pub intended : Range → ℕ → ℕ → List ℕ → Composite → Composite
intended range mirror file nexts l = record (unleased l) {
  generation = (unleased l).generation + 1;
  state = pending (length (mirror_ids l.components));
  components = map (stale_if_behind range mirror) (with_new_objects (is_over range mirror) file nexts l.components);
}

-- the begin of a copy to these components of this file
abbrev pub begun : List ℕ → ℕ → List ℕ → Composite → Composite
begun ids file nexts l = record l {
  generation = l.generation + 1;
  state = states.SyncPending;
  components = with_new_objects (is_named ids) file nexts l.components;
}

-- the end of a copy that brought these components up to date
abbrev pub finished : List ℕ → Composite → Composite
finished ids l = record l {
  generation = l.generation + 1;
  state = new_state (length (mirror_ids l.components));
  components = map (fresh_if_named ids) l.components;
}

-- new mirrors on so many targets
abbrev pub extended : List MirrorSpec → ℕ → Composite → Composite
extended mirrors targets l = record {
  generation = (unleased l).generation + 1;
  state = added_state (unleased l).state;
  next_mirror = (unleased l).next_mirror + length mirrors;
  next_counter = (unleased l).next_counter + part_count mirrors;
  components = (unleased l).components ++ new_mirrors true targets (unleased l).next_mirror (unleased l).next_counter mirrors;
}

-- the ids of the new mirrors
abbrev pub new_ids : List MirrorSpec → Composite → List ℕ
new_ids mirrors l = range_with_len l.next_mirror (length mirrors)

-- a mirror goes
abbrev pub lessened : ℕ → Composite → Composite
lessened mirror l = record {
  generation = (unleased l).generation + 1;
  state = left_state (length (mirror_ids (without mirror (unleased l).components))) (unleased l).state;
  next_mirror = (unleased l).next_mirror;
  next_counter = (unleased l).next_counter;
  components = without mirror (unleased l).components;
}

-- the layout of the file that is split off with the mirror
abbrev pub split_off : ℕ → Composite → Composite
split_off mirror l = record {
  generation = (unleased l).generation + 1;
  state = states.Single;
  next_mirror = (unleased l).next_mirror;
  next_counter = (unleased l).next_counter;
  components = of_mirror mirror (unleased l).components;
}

-- the flags of a component change
abbrev pub flagged : ℕ → FlagSets → Composite → Composite
flagged id change l = record (unleased l) {
  generation = (unleased l).generation + 1;
  components = map (changed_if_named id change) (unleased l).components;
}

-- the mirrors of another file come
abbrev pub merged : Composite → Composite → Composite
merged victim l = record {
  generation = max l.generation victim.generation + 1;
  state = states.ReadOnly;
  next_mirror = l.next_mirror + length (mirror_ids victim.components);
  next_counter = l.next_counter + length victim.components;
  components = l.components ++ taken_in l.next_mirror l.next_counter victim.components;
}

-- the ids that the mirrors of the other file get
abbrev pub merged_ids : Composite → Composite → List ℕ
merged_ids victim l = range_with_len l.next_mirror (length (mirror_ids victim.components))

-- the lowest byte of the file whose every fresh component is offline
abbrev pub offline_byte : Composite → Option ℕ
offline_byte l = first_without l.components 0 eof []
