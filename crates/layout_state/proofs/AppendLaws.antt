-- A layout stays valid when mirrors come to its end.
use Rattle.std.proofs.Common.{◌≡◌, ℕ, ◌+◌, ◌<◌, ◌≤◌, Bool, true, false, cond, ltb, List, [], ◌∷◌, ◌++◌, length, Option, Some, None, refl, ap, sym, ◌∙◌, arith}
use Rattle.std.specs.List.{AllByRecursion}
use Rattle.std.proofs.lemmas.Bool.{ltb-false, or_left}
use Rattle.std.proofs.lemmas.List.{length-append}
use Rattle.std.proofs.lemmas.List.Folds.{list_any-append}
use Rattle.std.proofs.lemmas.Grind.{flat_map-append}
use Rattle.composite_layout.specs.declared.component.Component.{Component}
use Rattle.composite_layout.specs.declared.component.State.{State}
use Rattle.composite_layout.specs.declared.component.State.TheVariants as states
use Rattle.composite_layout.specs.declared.spec.MirrorSpec.{MirrorSpec}
use Rattle.composite_layout.specs.Layouts.{Composite, Mirror, Ascend, parts_of, Numbered, IsShaped, all_fresh, most, IsValid}
use Rattle.composite_layout.specs.LookUps.{mirror_ids}
use Rattle.composite_layout.specs.Making.{new_mirrors, part_count}
use Rattle.composite_layout.specs.Specs.{IsSpec}
use Rattle.composite_layout.proofs.Tiling.{few_ids, few_lines}
use Rattle.composite_layout.proofs.New.{mirrors_of, new_whole, length_mirrors, length_new, new_ascend, Climbs, new_climbs, AllBelow, climbs_numbered, all_append, new_shaped, part_count_some}
use Rattle.layout_state.specs.declared.error.StateError.{StateError}
use Rattle.layout_state.specs.declared.error.StateError.TheVariants as errors
use Rattle.layout_state.specs.Breaking.{unleased}
use Rattle.layout_state.specs.Mirroring.{excess, added_state}
use Rattle.layout_state.proofs.MirrorLaws.{count_ids}
use Rattle.layout_state.proofs.BreakLaws.{Goes, goes_pending, some_mirror, few_mirrors}

-- ---- room

-- what holds where an if gives None
not_then : (b : Bool) (e : StateError) (o : Option StateError) → cond b (Some e) o ≡ None → (b ≡ false) × (o ≡ None)
not_then true e o h = absurd cc
not_then false e o h = (refl, h)

-- where nothing is in the way there is room
pub room : (l : Composite) (mirrors components most : ℕ) → excess l mirrors components most ≡ None → (length (mirror_ids l.components) + mirrors ≤ most) × (l.next_counter + components ≤ 65536)
room l mirrors components most h =
    let one = not_then (ltb most (length (mirror_ids l.components) + mirrors)) errors.TooManyMirrors _ h in
    let two = not_then (ltb 65536 (l.next_counter + components)) errors.TooManyComponents _ one.1 in
    (ltb-false most _ one.0, ltb-false 65536 _ two.0)

-- ---- the state that a change begins from

goes_from : (g : ℕ) (s : State) (n q : ℕ) (cs : List Component) (k : ℕ) → length (mirror_ids cs) ≡ k → 0 < k → k ≤ 65535 → Goes s k → Goes (unleased (record { generation = g; state = s; next_mirror = n; next_counter = q; components = cs })).state k
goes_from g states.Single n q cs k e some few goes = goes
goes_from g states.ReadOnly n q cs k e some few goes = goes
goes_from g states.WritePending n q cs k e some few goes = goes
goes_from g states.SyncPending n q cs k e some few goes = rw e (goes_pending k some few)

-- after a break, if one comes, the state goes with the mirrors
pub goes_unleased : (l : Composite) → (v : IsValid l) → Goes (unleased l).state (length v.mirrors)
goes_unleased l v = goes_from l.generation l.state l.next_mirror l.next_counter l.components (length v.mirrors) (count_ids l v) (some_mirror l v) (few_mirrors l v) (v.low, v.high)

-- ---- mirrors at the end

ascend_append : (last next top : ℕ) (ms ns : List Mirror) → last < next → next ≤ top → Ascend last next ms → ((k : ℕ) → k < next → Ascend k top ns) → Ascend last top (ms ++ ns)
ascend_append last next top [] ns lt le a b = b last lt
ascend_append last next top (m ∷ ms) ns lt le a b = (a.0, omega (arith, a.1, le), a.2, a.3, ascend_append m.id next top ms ns a.1 le a.4 b)

numbered_append : (next top : ℕ) (seen xs ys : List Component) → 0 < next → next + length ys ≤ top → AllBelow next seen → Numbered next seen xs → Climbs next ys → Numbered top seen (xs ++ ys)
numbered_append next top seen [] ys some le b a k = climbs_numbered top next seen ys some le b k
numbered_append next top seen (x ∷ xs) ys some le b a k =
    (a.0, omega (arith, a.1, le), a.2, numbered_append next top (seen ++ x ∷ []) xs ys some le (all_append (λ (c : Component). _) seen (x ∷ []) b (a.1, tt)) a.3 k)

-- mirror ids begin at 1
pub begun : (l : Composite) → IsValid l → 0 < l.next_mirror
begun l v = let one = some_mirror l v in let ids = few_ids 0 l.next_mirror v.mirrors v.ascend in omega (arith, one, ids)

-- mirrors whose ids and numbers go on from the next ones may come, where the state goes with all of them
pub appended_valid : (l : Composite) → (v : IsValid l) → (g : ℕ) (s : State) (ns : List Mirror) (cs : List Component)
    → 0 < g
    → Goes s (length v.mirrors + length ns)
    → cs ≡ parts_of ns
    → ((k : ℕ) → k < l.next_mirror → Ascend k (l.next_mirror + length ns) ns)
    → Climbs l.next_counter cs
    → AllByRecursion IsShaped cs
    → l.next_counter + length cs ≤ 65536
    → IsValid (record { generation = g; state = s; next_mirror = l.next_mirror + length ns; next_counter = l.next_counter + length cs; components = l.components ++ cs })
appended_valid l v g s ns cs some goes whole ascend climbs shaped few =
    let n : length (v.mirrors ++ ns) ≡ length v.mirrors + length ns = length-append v.mirrors ns in
    let first = begun l v in
    let below = v.below in
    let lines = few_lines 0 (l.next_mirror + length ns) ns (ascend 0 first) in
    let size : length cs ≡ length (parts_of ns) = ap (λ (xs : List Component). length xs) whole in
    record {
      mirrors = v.mirrors ++ ns;
      whole = rw (v.whole, whole) (sym (flat_map-append (λ (m : Mirror). m.parts) v.mirrors ns));
      ascend = ascend_append 0 l.next_mirror (l.next_mirror + length ns) v.mirrors ns first (omega arith) v.ascend ascend;
      numbered = numbered_append l.next_counter (l.next_counter + length cs) [] l.components cs (omega (arith, first, below)) (omega arith) tt v.numbered climbs;
      shaped = all_append IsShaped l.components cs v.shaped shaped;
      fresh = list_any-append (λ (m : Mirror). all_fresh m.parts) v.mirrors ns ∙ or_left _ _ v.fresh;
      low = rw n goes.0;
      high = rw n goes.1;
      generation = some;
      below = omega (arith, below, lines, size);
      few = few;
    }

-- ---- new mirrors

goes_added : (s : State) (n k : ℕ) → 0 < k → n + k ≤ 65535 → Goes s n → Goes (added_state s) (n + k)
goes_added states.Single n k some few goes = (omega (arith, some, goes.0), few)
goes_added states.ReadOnly n k some few goes = (omega (arith, goes.0), few)
goes_added states.WritePending n k some few goes = (omega (arith, goes.0), few)
goes_added states.SyncPending n k some few goes = (omega (arith, goes.0), few)

-- a layout to which the mirrors of a spec came is valid
pub added_valid : (l : Composite) → (v : IsValid l) → (g targets most : ℕ) (ms : List MirrorSpec)
    → 0 < g
    → 0 < targets
    → targets ≤ 64
    → most ≤ 32
    → IsSpec ms
    → excess l (length ms) (part_count ms) most ≡ None
    → IsValid (record { generation = g; state = added_state (unleased l).state; next_mirror = l.next_mirror + length ms; next_counter = l.next_counter + part_count ms; components = l.components ++ new_mirrors true targets l.next_mirror l.next_counter ms })
added_valid l v g targets most ms some one few le s h =
    let fits = room l (length ms) (part_count ms) most h in
    let ns = mirrors_of true targets l.next_mirror l.next_counter ms in
    let cs = new_mirrors true targets l.next_mirror l.next_counter ms in
    let n : length ns ≡ length ms = length_mirrors true targets l.next_mirror l.next_counter ms in
    let size : length cs ≡ part_count ms = length_new true targets l.next_mirror l.next_counter ms in
    let count = count_ids l v in
    let valid = appended_valid l v g (added_state (unleased l).state) ns cs some
    (rw n (goes_added (unleased l).state (length v.mirrors) (length ms) s.some (omega (arith, fits.0, count, le)) (goes_unleased l v)))
    (new_whole true targets l.next_mirror l.next_counter ms)
    (λ k lt. new_ascend true targets k (l.next_mirror + length ns) l.next_mirror l.next_counter ms lt (omega (arith, n)) s.mirrors)
    (new_climbs true targets l.next_mirror l.next_counter ms fits.1)
    (new_shaped true targets l.next_mirror l.next_counter ms one few fits.1 s.mirrors)
    (omega (arith, size, fits.1)) in
    rw (n, size) at valid

-- where there is room the new ids fit
pub ids_fit : (l : Composite) → IsValid l → (ms rs : List MirrorSpec) (p n most : ℕ) (o : Option StateError) → IsSpec ms → rs ≡ ms → p ≡ part_count ms → n ≡ l.next_mirror → o ≡ excess l (length rs) p most → o ≡ None → n + length rs ≤ 65536
ids_fit l v ms rs p n most o s e size next is none =
    let fits = room l (length rs) p most (sym is ∙ none) in
    let some = part_count_some ms s.mirrors in
    let below = v.below in
    let same = ap (λ (xs : List MirrorSpec). length xs) e in
    omega (arith, fits.1, some, below, same, size, next)

-- a layout that has what one has to which mirrors came is valid
pub added_is : (l : Composite) → IsValid l → (targets most g n q p : ℕ) (s t : State) (ms rs : List MirrorSpec) (old made cs : List Component) (o : Option StateError)
    → 0 < targets
    → targets ≤ 64
    → most ≤ 32
    → IsSpec ms
    → rs ≡ ms
    → p ≡ part_count ms
    → n ≡ l.next_mirror
    → q ≡ l.next_counter
    → s ≡ (unleased l).state
    → t ≡ added_state s
    → o ≡ excess l (length rs) p most
    → o ≡ None
    → old ≡ l.components
    → made ≡ new_mirrors true targets n q ms
    → cs ≡ old ++ made
    → IsValid (record { generation = g + 1; state = t; next_mirror = n + length rs; next_counter = q + p; components = cs })
added_is l v targets most g n q p s t ms rs old made cs o one few le spec same size next counter state added is none before new all =
    let empty : excess l (length ms) (part_count ms) most ≡ None = rw (same, size) at (sym is ∙ none) in
    rw (all, new, before, added, state, counter, next, size, same) (added_valid l v (g + 1) targets most ms (omega arith) one few le spec empty)
