-- A layout stays valid when it takes in the mirrors of another.
use Rattle.std.proofs.Common.{◌≡◌, ℕ, ◌+◌, ◌-◌, ◌<◌, ◌≤◌, max, List, ◌++◌, length, Option, None, ap, sym, ◌∙◌, arith, refl}
use Rattle.composite_layout.specs.declared.component.Component.{Component}
use Rattle.composite_layout.specs.declared.component.State.TheVariants as states
use Rattle.composite_layout.specs.Layouts.{Composite, parts_of, IsValid}
use Rattle.composite_layout.specs.LookUps.{mirror_ids}
use Rattle.composite_layout.proofs.Tiling.{few_lines}
use Rattle.layout_state.specs.declared.error.StateError.{StateError}
use Rattle.layout_state.specs.Mirroring.{excess, taken_in, run_on, Merge}
use Rattle.layout_state.proofs.MirrorLaws.{count_ids}
use Rattle.layout_state.proofs.BreakLaws.{some_mirror}
use Rattle.layout_state.proofs.AppendLaws.{room, begun, appended_valid}
use Rattle.layout_state.proofs.TakenLaws.{mirrors_in, run_whole, length_in, ascend_in, run_climbs, run_shaped, length_run, run_taken}

-- a valid layout has no more mirrors than components
mirrors_few : (l : Composite) → IsValid l → length (mirror_ids l.components) ≤ length l.components
mirrors_few l v =
    let n = count_ids l v in
    let lines = few_lines 0 l.next_mirror v.mirrors v.ascend in
    let size = ap (λ (cs : List Component). length cs) v.whole in
    omega (arith, n, lines, size)

-- where there is room the new ids fit
pub taken_fit : (l d : Composite) → IsValid l → IsValid d → (m k n most : ℕ) (o : Option StateError) → m ≡ length (mirror_ids d.components) → k ≡ length d.components → n ≡ l.next_mirror → o ≡ excess l m k most → o ≡ None → n + m ≤ 65536
taken_fit l d v w m k n most o mirrors size next is none =
    let fits = room l m k most (sym is ∙ none) in
    let fewer = mirrors_few d w in
    let below = v.below in
    omega (arith, fits.1, fewer, below, mirrors, size, next)

-- a layout that took in the mirrors of another is valid
merged_valid : (l d : Composite) → (v : IsValid l) → (w : IsValid d) → (g most : ℕ) → 0 < g → most ≤ 32 → excess l (length (mirror_ids d.components)) (length d.components) most ≡ None
    → IsValid (record { generation = g; state = states.ReadOnly; next_mirror = l.next_mirror + length (mirror_ids d.components); next_counter = l.next_counter + length d.components; components = l.components ++ run_on (l.next_mirror - 1) l.next_counter d.components })
merged_valid l d v w g most some le h =
    let fits = room l (length (mirror_ids d.components)) (length d.components) most h in
    let first = begun l v in
    let e : (l.next_mirror - 1) + 1 ≡ l.next_mirror = omega (arith, first) in
    let ns = mirrors_in l.next_mirror l.next_counter w.mirrors in
    let cs = run_on (l.next_mirror - 1) l.next_counter d.components in
    let n : length ns ≡ length (mirror_ids d.components) = length_in l.next_mirror l.next_counter w.mirrors ∙ sym (count_ids d w) in
    let size : length cs ≡ length d.components = length_run (l.next_mirror - 1) l.next_counter d.components in
    let count = count_ids l v in
    let theirs = count_ids d w in
    let one = some_mirror l v in
    let two = some_mirror d w in
    let whole : cs ≡ parts_of ns = ap (λ (xs : List Component). run_on (l.next_mirror - 1) l.next_counter xs) w.whole ∙ run_whole (l.next_mirror - 1) l.next_counter 0 d.next_mirror w.mirrors w.ascend ∙ ap (λ (id : ℕ). parts_of (mirrors_in id l.next_counter w.mirrors)) e in
    let valid = appended_valid l v g states.ReadOnly ns cs some
    (omega (arith, one, two, n, theirs), omega (arith, n, fits.0, count, le))
    whole
    (λ k lt. ascend_in k (l.next_mirror + length ns) l.next_mirror l.next_counter 0 d.next_mirror w.mirrors lt (omega (arith, n, theirs)) w.ascend)
    (run_climbs (l.next_mirror - 1) l.next_counter d.components fits.1)
    (run_shaped (l.next_mirror - 1) l.next_counter d.components fits.1 w.shaped)
    (omega (arith, size, fits.1)) in
    rw (n, size) at valid

-- a layout that has what one has that took in the mirrors of another is valid
pub merged_is : (l d : Composite) → IsValid l → IsValid d → (most g n q m k : ℕ) (old taken new cs : List Component) (o : Option StateError)
    → most ≤ 32
    → n ≡ l.next_mirror
    → q ≡ l.next_counter
    → m ≡ length (mirror_ids d.components)
    → k ≡ length d.components
    → o ≡ excess l m k most
    → o ≡ None
    → old ≡ l.components
    → taken ≡ d.components
    → new ≡ run_on (n - 1) q taken
    → cs ≡ old ++ new
    → IsValid (record { generation = g + 1; state = states.ReadOnly; next_mirror = n + m; next_counter = q + k; components = cs })
merged_is l d v w most g n q m k old taken new cs o le next counter mirrors size is none before theirs numbered all =
    let empty : excess l (length (mirror_ids d.components)) (length d.components) most ≡ None = rw (mirrors, size) at (sym is ∙ none) in
    rw (all, numbered, before, theirs, next, counter, mirrors, size) (merged_valid l d v w (g + 1) most (omega arith) le empty)

-- and it took them in
pub merge_is : (l d : Composite) → IsValid l → IsValid d → (g n q m k : ℕ) (old taken new cs : List Component)
    → g ≡ max l.generation d.generation
    → n ≡ l.next_mirror
    → q ≡ l.next_counter
    → m ≡ length (mirror_ids d.components)
    → k ≡ length d.components
    → old ≡ l.components
    → taken ≡ d.components
    → new ≡ run_on (n - 1) q taken
    → cs ≡ old ++ new
    → Merge l d (record { generation = g + 1; state = states.ReadOnly; next_mirror = n + m; next_counter = q + k; components = cs })
merge_is l d v w g n q m k old taken new cs greater next counter mirrors size before theirs numbered all =
    let first = begun l v in
    let e : (l.next_mirror - 1) + 1 ≡ l.next_mirror = omega (arith, first) in
    let same : run_on (l.next_mirror - 1) l.next_counter d.components ≡ taken_in l.next_mirror l.next_counter d.components = run_taken d w (l.next_mirror - 1) l.next_counter ∙ ap (λ (id : ℕ). taken_in id l.next_counter d.components) e in
    record {
      generation = ap (λ (x : ℕ). x + 1) greater;
      state = refl;
      next_mirror = rw (next, mirrors) refl;
      next_counter = rw (counter, size) refl;
      components = rw (all, numbered, before, theirs, next, counter, same) refl;
    }
