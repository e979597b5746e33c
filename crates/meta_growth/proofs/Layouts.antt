-- How each change of a layout raises its generation, and how many stripes it leaves without objects.
use Rattle.std.proofs.Common.{◌≡◌, ℕ, ◌+◌, ◌≤◌, true, nat_eq, List, refl, sym, ap, ◌∙◌, arith}
use Rattle.std.specs.List.{sum}
use Rattle.flr_base.specs.declared.reply.Range.{Range}
use Rattle.composite_layout.specs.declared.component.Component.{Component}
use Rattle.composite_layout.specs.declared.component.State.{State}
use Rattle.composite_layout.specs.declared.component.State.TheVariants as states
use Rattle.composite_layout.specs.declared.spec.MirrorSpec.{MirrorSpec}
use Rattle.composite_layout.specs.FlagChanges.{FlagSets}
use Rattle.composite_layout.specs.Layouts.{Composite}
use Rattle.composite_layout.specs.Making.{new_mirrors}
use Rattle.layout_state.specs.Breaking.{unleased}
use Rattle.layout_state.specs.Choosing.{is_over}
use Rattle.layout_state.specs.Making.{with_new_objects}
use Rattle.layout_state.specs.Marking.{changed_if_named, fresh_if_named, is_named, stale_if_behind}
use Rattle.layout_state.specs.Mirroring.{taken_in, unnamed}
use Rattle.layout_state.proofs.MarkLaws.{unleased_components}
use Rattle.layout_state.proofs.StayLaws.{taken_same}
use Rattle.meta_server.specs.Layouts.{begun, extended, finished, flagged, intended, lessened, merged, nexts_over, split_off}
use Rattle.script_values.specs.Work.{stripes_of_mirrors}
use Rattle.meta_growth.specs.Growth.{stripes_at, stripes_to_make, total_in}
use Rattle.meta_growth.proofs.Stripes.{Counts, all_counts, draws_stripes, to_make_counts, total_append, total_filter, total_fresh, total_map, total_marked, total_mirrors, total_stale, whole_made}

generation_from : (g : ℕ) (s : State) (n q : ℕ) (cs : List Component) → (unleased (record { generation = g; state = s; next_mirror = n; next_counter = q; components = cs })).generation ≤ g + 1
generation_from g states.Single n q cs = omega arith
generation_from g states.ReadOnly n q cs = omega arith
generation_from g states.WritePending n q cs = omega arith
generation_from g states.SyncPending n q cs = omega arith

-- a break is one generation
pub broken_once : (l : Composite) → (unleased l).generation ≤ l.generation + 1
broken_once l = generation_from l.generation l.state l.next_mirror l.next_counter l.components

-- ---- an intent and a begin make objects for stripes that had none

pub intended_drawn : (range : Range) (mirror file : ℕ) (nexts : List ℕ) (l : Composite)
    → sum (nexts_over (is_over range mirror) file nexts l) + total_in stripes_to_make (intended range mirror file nexts l).components ≤ sum nexts + total_in stripes_to_make l.components
intended_drawn range mirror file nexts l =
    let drawn = draws_stripes (is_over range mirror) file nexts l.components in
    let same = total_map stripes_to_make (stale_if_behind range mirror) (total_stale stripes_to_make to_make_counts range mirror) (with_new_objects (is_over range mirror) file nexts l.components) in
    omega (arith, drawn, same)

pub intended_whole : (range : Range) (mirror file : ℕ) (nexts : List ℕ) (l : Composite) → total_in stripes_at (intended range mirror file nexts l).components ≡ total_in stripes_at l.components
intended_whole range mirror file nexts l =
    total_map stripes_at (stale_if_behind range mirror) (total_stale stripes_at all_counts range mirror) (with_new_objects (is_over range mirror) file nexts l.components) ∙ whole_made (is_over range mirror) file nexts l.components

pub begun_drawn : (ids : List ℕ) (file : ℕ) (nexts : List ℕ) (l : Composite)
    → sum (nexts_over (is_named ids) file nexts l) + total_in stripes_to_make (begun ids file nexts l).components ≤ sum nexts + total_in stripes_to_make l.components
begun_drawn ids file nexts l = draws_stripes (is_named ids) file nexts l.components

pub begun_whole : (ids : List ℕ) (file : ℕ) (nexts : List ℕ) (l : Composite) → total_in stripes_at (begun ids file nexts l).components ≡ total_in stripes_at l.components
begun_whole ids file nexts l = whole_made (is_named ids) file nexts l.components

-- ---- the other changes, however stripes are counted

module _ (w : Component → ℕ) (counts : Counts w) where
  unleased_total : (l : Composite) → total_in w (unleased l).components ≡ total_in w l.components
  unleased_total l = ap (total_in w) (unleased_components l)

  pub finished_total : (ids : List ℕ) (l : Composite) → total_in w (finished ids l).components ≡ total_in w l.components
  finished_total ids l = total_map w (fresh_if_named ids) (total_fresh w counts ids) l.components

  pub flagged_total : (id : ℕ) (change : FlagSets) (l : Composite) → total_in w (flagged id change l).components ≡ total_in w l.components
  flagged_total id change l = total_map w (changed_if_named id change) (total_marked w counts id change) (unleased l).components ∙ unleased_total l

  -- new mirrors come with their stripes
  pub extended_total : (mirrors : List MirrorSpec) (targets : ℕ) (l : Composite) → total_in w (extended mirrors targets l).components ≡ total_in w l.components + stripes_of_mirrors targets mirrors
  extended_total mirrors targets l =
      let both = total_append w (unleased l).components (new_mirrors true targets (unleased l).next_mirror (unleased l).next_counter mirrors) in
      let new = total_mirrors w counts true targets (unleased l).next_mirror (unleased l).next_counter mirrors in
      let same = unleased_total l in
      omega (arith, both, new, same)

  -- a mirror takes its stripes along
  pub split_total : (mirror : ℕ) (l : Composite) → total_in w (lessened mirror l).components + total_in w (split_off mirror l).components ≡ total_in w l.components
  split_total mirror l = total_filter w (λ (c : Component). nat_eq c.mirror mirror) (unleased l).components ∙ unleased_total l

  pub merged_total : (victim l : Composite) → total_in w (merged victim l).components ≡ total_in w l.components + total_in w victim.components
  merged_total victim l =
      let theirs : List Component = taken_in l.next_mirror l.next_counter victim.components in
      let alike : (c : Component) → w (unnamed c) ≡ w c = λ c. counts.same c (unnamed c) refl refl in
      let same : total_in w theirs ≡ total_in w victim.components = sym (total_map w unnamed alike theirs) ∙ ap (total_in w) (taken_same l.next_mirror l.next_counter victim.components) ∙ total_map w unnamed alike victim.components in
      let both = total_append w l.components theirs in
      omega (arith, both, same)
