-- How many mirrors a layout has after each change.
use Rattle.std.proofs.Common.{◌≡◌, ℕ, suc, ◌+◌, ◌<◌, ◌≤◌, Bool, true, false, cond, not, nat_eq, None, List, [], ◌∷◌, ◌++◌, length, map, filter, refl, sym, ap, ◌∙◌, arith, length-append}
use Rattle.std.specs.List.{AllByRecursion, enumerate_from}
use Rattle.std.proofs.lemmas.Bool.{ne_eqb}
use Rattle.flr_base.specs.declared.reply.Range.{Range}
use Rattle.composite_layout.specs.declared.component.Component.{Component}
use Rattle.composite_layout.specs.declared.spec.MirrorSpec.{MirrorSpec}
use Rattle.composite_layout.specs.declared.spec.Part.{Part}
use Rattle.composite_layout.specs.FlagChanges.{FlagSets}
use Rattle.composite_layout.specs.Layouts.{Composite}
use Rattle.composite_layout.specs.LookUps.{begins_mirror, mirror_ids}
use Rattle.composite_layout.specs.Making.{new_layout, new_mirrors, new_parts, part_count}
use Rattle.composite_layout.specs.Specs.{IsMirrorSpec, IsSpec, PartsTile}
use Rattle.composite_layout.proofs.Steps.{length_ids}
use Rattle.layout_lease.proofs.Lists.{length-filter_filter}
use Rattle.layout_state.specs.Breaking.{unleased}
use Rattle.layout_state.specs.Marking.{changed_if_named, frame_of, fresh_if_named, is_named}
use Rattle.layout_state.specs.Mirroring.{excess, place_of, renamed, taken_in}
use Rattle.layout_state.proofs.AppendLaws.{room}
use Rattle.layout_state.proofs.MarkLaws.{flags_frame, frames_map, same_ids, unleased_components}
use Rattle.layout_state.proofs.MirrorLaws.{ids_append}
use Rattle.layout_state.proofs.ObjectLaws.{intended_frames, new_frames}
use Rattle.meta_server.specs.Layouts.{begun, extended, finished, flagged, intended, lessened, merged, split_off}

-- how many mirrors these components have
abbrev pub mirrors_in : List Component → ℕ
mirrors_in cs = length (mirror_ids cs)

-- ---- components that change, and stay

pub intended_count : (range : Range) (mirror file : ℕ) (nexts : List ℕ) (l : Composite) → mirrors_in (intended range mirror file nexts l).components ≡ mirrors_in l.components
intended_count range mirror file nexts l = ap (λ (ids : List ℕ). length ids) (same_ids l.components (intended range mirror file nexts l).components (intended_frames range mirror file nexts l.components))

pub begun_count : (ids : List ℕ) (file : ℕ) (nexts : List ℕ) (l : Composite) → mirrors_in (begun ids file nexts l).components ≡ mirrors_in l.components
begun_count ids file nexts l = ap (λ (ids : List ℕ). length ids) (same_ids l.components (begun ids file nexts l).components (new_frames (is_named ids) file nexts l.components))

fresh_frame : (ids : List ℕ) (c : Component) → frame_of (fresh_if_named ids c) ≡ frame_of c
fresh_frame ids c = by (is_named ids c)
  where
    by : (b : Bool) → frame_of (cond b (record c { flags = record c.flags { stale = false } }) c) ≡ frame_of c
    by true = refl
    by false = refl

pub finished_count : (ids : List ℕ) (l : Composite) → mirrors_in (finished ids l).components ≡ mirrors_in l.components
finished_count ids l = ap (λ (ids : List ℕ). length ids) (same_ids l.components (finished ids l).components (frames_map (fresh_if_named ids) (fresh_frame ids) l.components))

-- a break leaves all mirrors
unleased_count : (l : Composite) → mirrors_in (unleased l).components ≡ mirrors_in l.components
unleased_count l = ap mirrors_in (unleased_components l)

pub flagged_count : (id : ℕ) (change : FlagSets) (l : Composite) → mirrors_in (flagged id change l).components ≡ mirrors_in l.components
flagged_count id change l =
    ap (λ (ids : List ℕ). length ids) (same_ids (unleased l).components (flagged id change l).components (frames_map (changed_if_named id change) (flags_frame id change) (unleased l).components)) ∙ unleased_count l

-- ---- mirrors that come

append_count : (xs ys : List Component) → mirrors_in (xs ++ ys) ≡ mirrors_in xs + mirrors_in ys
append_count xs ys = ap (λ (ids : List ℕ). length ids) (ids_append xs ys) ∙ length-append (mirror_ids xs) (mirror_ids ys)

-- past byte 0 no new mirror begins
none_new : (stale : Bool) (targets id : ℕ) (prefer : Bool) (q start : ℕ) (ps : List Part) → 0 < start → PartsTile start ps → mirrors_in (new_parts stale targets id prefer q start ps) ≡ 0
none_new stale targets id prefer q start [] some t = refl
none_new stale targets id prefer q start (p ∷ ps) some t =
    rw (ne_eqb start 0 (λ e. omega (arith, some, e))) (none_new stale targets id prefer (q + 1) p.end ps (omega (arith, some, t.0)) t.2)

-- the parts of a new mirror begin one
one_new : (stale : Bool) (targets id : ℕ) (prefer : Bool) (q : ℕ) (ps : List Part) → PartsTile 0 ps → mirrors_in (new_parts stale targets id prefer q 0 ps) ≡ 1
one_new stale targets id prefer q [] t = absurd (omega (arith, t))
one_new stale targets id prefer q (p ∷ ps) t = ap suc (none_new stale targets id prefer (q + 1) p.end ps (omega (arith, t.0)) t.2)

new_count : (stale : Bool) (targets id q : ℕ) (ms : List MirrorSpec) → AllByRecursion IsMirrorSpec ms → mirrors_in (new_mirrors stale targets id q ms) ≡ length ms
new_count stale targets id q [] h = refl
new_count stale targets id q (m ∷ ms) h =
    let front : List Component = new_parts stale targets id m.prefer q 0 m.parts in
    let rest : List Component = new_mirrors stale targets (id + 1) (q + length m.parts) ms in
    let both = append_count front rest in
    let one = one_new stale targets id m.prefer q m.parts h.0.tiles in
    let more = new_count stale targets (id + 1) (q + length m.parts) ms h.1 in
    omega (arith, both, one, more)

-- a new file has the mirrors that are asked for
pub made_count : (ms : List MirrorSpec) (targets : ℕ) → IsSpec ms → mirrors_in (new_layout ms targets).components ≡ length ms
made_count ms targets spec = new_count false targets 1 1 ms spec.mirrors

-- mirrors come where there is room for them
pub extended_few : (ms : List MirrorSpec) (targets most : ℕ) (l : Composite) → IsSpec ms → excess l (length ms) (part_count ms) most ≡ None → mirrors_in (extended ms targets l).components ≤ most
extended_few ms targets most l spec within =
    let old : List Component = (unleased l).components in
    let new : List Component = new_mirrors true targets (unleased l).next_mirror (unleased l).next_counter ms in
    let both = append_count old new in
    let same = unleased_count l in
    let more = new_count true targets (unleased l).next_mirror (unleased l).next_counter ms spec.mirrors in
    let fits = room l (length ms) (part_count ms) most within in
    omega (arith, both, same, more, fits.0)

-- components with other names begin as many mirrors
renamed_begin : (name : ℕ × Component → ℕ) (q : ℕ) (cs : List Component) → length (filter begins_mirror (map (λ p. renamed (name p) p.0 p.1) (enumerate_from q cs))) ≡ length (filter begins_mirror cs)
renamed_begin name q [] = refl
renamed_begin name q (c ∷ cs) = by (begins_mirror c) (renamed_begin name (q + 1) cs)
  where
    new : List Component
    new = filter begins_mirror (map (λ p. renamed (name p) p.0 p.1) (enumerate_from (q + 1) cs))

    old : List Component
    old = filter begins_mirror cs

    by : (b : Bool) → length new ≡ length old → length (cond b (renamed (name (q, c)) q c ∷ new) new) ≡ length (cond b (c ∷ old) old)
    by true rest = ap suc rest
    by false rest = rest

taken_count : (id q : ℕ) (cs : List Component) → mirrors_in (taken_in id q cs) ≡ mirrors_in cs
taken_count id q cs = length_ids (taken_in id q cs) ∙ renamed_begin (λ p. id + place_of p.1.mirror cs) q cs ∙ sym (length_ids cs)

-- a file takes in another whose mirrors there is room for
pub merged_few : (most : ℕ) (victim l : Composite) → excess l (mirrors_in victim.components) (length victim.components) most ≡ None → mirrors_in (merged victim l).components ≤ most
merged_few most victim l within =
    let theirs : List Component = taken_in l.next_mirror l.next_counter victim.components in
    let both = append_count l.components theirs in
    let same = taken_count l.next_mirror l.next_counter victim.components in
    let fits = room l (mirrors_in victim.components) (length victim.components) most within in
    omega (arith, both, same, fits.0)

-- ---- mirrors that go

-- some of the components have no more mirrors
some_few : (p : Component → Bool) (cs : List Component) → mirrors_in (filter p cs) ≤ mirrors_in cs
some_few p cs =
    let fewer = length-filter_filter p begins_mirror cs in
    let a = length_ids (filter p cs) in
    let b = length_ids cs in
    omega (arith, fewer, a, b)

pub lessened_few : (mirror : ℕ) (l : Composite) → mirrors_in (lessened mirror l).components ≤ mirrors_in l.components
lessened_few mirror l = let fewer = some_few (λ c. not (nat_eq c.mirror mirror)) (unleased l).components in let same = unleased_count l in omega (arith, fewer, same)

pub split_few : (mirror : ℕ) (l : Composite) → mirrors_in (split_off mirror l).components ≤ mirrors_in l.components
split_few mirror l = let fewer = some_few (λ c. nat_eq c.mirror mirror) (unleased l).components in let same = unleased_count l in omega (arith, fewer, same)
