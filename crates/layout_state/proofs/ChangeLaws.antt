-- Each change of a valid layout leaves it valid, and its generation grows.
use Rattle.std.proofs.Common.{◌≡◌, ℕ, ◌+◌, ◌-◌, ◌<◌, ◌≤◌, List, ◌++◌, length, filter, refl, sym, ap, subst, ◌∙◌, arith}
use Rattle.std.specs.Prelude.{max, None, true}
use Rattle.composite_layout.specs.declared.component.Component.{Component}
use Rattle.composite_layout.specs.declared.component.State.{State}
use Rattle.composite_layout.specs.declared.component.State.TheVariants as states
use Rattle.composite_layout.specs.declared.spec.MirrorSpec.{MirrorSpec}
use Rattle.composite_layout.specs.Layouts.{Composite, IsValid}
use Rattle.composite_layout.specs.LookUps.{begins_mirror, mirror_ids}
use Rattle.composite_layout.specs.Making.{new_mirrors, part_count}
use Rattle.composite_layout.specs.Specs.{IsSpec}
use Rattle.composite_layout.proofs.Steps.{length_ids}
use Rattle.layout_state.specs.Breaking.{unleased}
use Rattle.layout_state.specs.Mirroring.{added_state, excess, keeping, left_state, of_mirror, taken_in, IsAdd, IsRemove}
use Rattle.layout_state.specs.Changes.{Change, Intent, Begin, Break, Done, Add, Remove, Flags, TakesIn, IsSplitOff}
use Rattle.layout_state.proofs.AppendLaws.{added_is, begun}
use Rattle.layout_state.proofs.BreakLaws.{broken_valid}
use Rattle.layout_state.proofs.LeaveLaws.{left_is, part_is}
use Rattle.layout_state.proofs.MergeLaws.{merged_is}
use Rattle.layout_state.proofs.TakenLaws.{run_taken}
use Rattle.layout_state.proofs.ValidLaws.{done_keeps, flags_keep, begin_keeps, intent_keeps}
use Rattle.layout_state.proofs.KeepLaws.{done_grows, flags_grow, begin_grows, intent_grows}
use Rattle.layout_state.proofs.StayLaws.{add_grows, remove_grows}

-- layouts with the same fields are the same
same_layout : (g h : ℕ) (s t : State) (n m q k : ℕ) (cs ds : List Component) → g ≡ h → s ≡ t → n ≡ m → q ≡ k → cs ≡ ds
    → IsValid (record { generation = g; state = s; next_mirror = n; next_counter = q; components = cs }) → IsValid (record { generation = h; state = t; next_mirror = m; next_counter = k; components = ds })
same_layout g h s t n m q k cs ds a b c d e v = rw (sym a, sym b, sym c, sym d, sym e) v

-- a break, if one comes, leaves the numbers and the components
kept_from : (g : ℕ) (s : State) (n q : ℕ) (cs : List Component) → let l : Composite = record { generation = g; state = s; next_mirror = n; next_counter = q; components = cs } in
    ((unleased l).next_mirror ≡ n) × ((unleased l).next_counter ≡ q) × ((unleased l).components ≡ cs)
kept_from g states.Single n q cs = (refl, refl, refl)
kept_from g states.ReadOnly n q cs = (refl, refl, refl)
kept_from g states.WritePending n q cs = (refl, refl, refl)
kept_from g states.SyncPending n q cs = (refl, refl, refl)

kept : (l : Composite) → ((unleased l).next_mirror ≡ l.next_mirror) × ((unleased l).next_counter ≡ l.next_counter) × ((unleased l).components ≡ l.components)
kept l = kept_from l.generation l.state l.next_mirror l.next_counter l.components

add_keeps : (old new : Composite) (mirrors : List MirrorSpec) (targets most : ℕ) → IsValid old → IsSpec mirrors → 0 < targets → targets ≤ 64 → most ≤ 32 → excess old (length mirrors) (part_count mirrors) most ≡ None → IsAdd mirrors targets (unleased old) new → IsValid new
add_keeps old new mirrors targets most v s some few le room h =
    let k = kept old in
    let made = new_mirrors true targets (unleased old).next_mirror (unleased old).next_counter mirrors in
    same_layout _ new.generation _ new.state _ new.next_mirror _ new.next_counter _ new.components (sym h.generation) (sym h.state) (sym h.next_mirror) (sym h.next_counter) (sym h.components)
    (added_is old v targets most (unleased old).generation (unleased old).next_mirror (unleased old).next_counter (part_count mirrors) (unleased old).state (added_state (unleased old).state) mirrors mirrors (unleased old).components made ((unleased old).components ++ made) (excess old (length mirrors) (part_count mirrors) most)
    some few le s refl refl k.0 k.1 refl refl refl room k.2 refl refl)

remove_keeps : (old new : Composite) (mirror : ℕ) → IsValid old → keeping mirror old.components ≡ None → IsRemove mirror (unleased old) new → IsValid new
remove_keeps old new mirror v may h =
    let k = kept old in
    let ids : length (mirror_ids new.components) ≡ length (filter begins_mirror new.components) = length_ids new.components in
    let left : new.state ≡ left_state (length (mirror_ids new.components)) (unleased old).state = h.state in
    same_layout _ new.generation _ new.state _ new.next_mirror _ new.next_counter _ new.components (sym h.generation) refl (sym (h.next_mirror ∙ k.0)) (sym (h.next_counter ∙ k.1)) refl
    (left_is old v mirror (unleased old).generation (length (filter begins_mirror new.components)) (unleased old).state new.state (unleased old).components new.components may refl k.2 h.components refl (left ∙ ap (λ (n : ℕ). left_state n (unleased old).state) ids))

-- a change of a valid layout leaves it valid
pub change_keeps : (old new : Composite) → IsValid old → Change old new → IsValid new
change_keeps old new v (Intent range mirror file nexts after a primary h) = intent_keeps range mirror file nexts old new after v a primary h
change_keeps old new v (Begin ids file nexts after a h) = begin_keeps ids file nexts old new after v a h
change_keeps old new v (Break h) = subst IsValid (sym h) (broken_valid old v)
change_keeps old new v (Done ids h) = done_keeps ids old new v h
change_keeps old new v (Add mirrors targets most s some few le room h) = add_keeps old new mirrors targets most v s some few le room h
change_keeps old new v (Remove mirror may h) = remove_keeps old new mirror v may h
change_keeps old new v (Flags id change none h) = flags_keep id change old new v none h

-- and has a greater generation
pub change_grows : (old new : Composite) → Change old new → old.generation < new.generation
change_grows old new (Intent range mirror file nexts after a primary h) = intent_grows range mirror file nexts old new after h
change_grows old new (Begin ids file nexts after a h) = begin_grows ids file nexts old new after h
change_grows old new (Break h) = let e = ap (λ (l : Composite). l.generation) h in omega (arith, e)
change_grows old new (Done ids h) = done_grows ids old new h
change_grows old new (Add mirrors targets most s some few le room h) = add_grows mirrors targets old new h
change_grows old new (Remove mirror may h) = remove_grows mirror old new h
change_grows old new (Flags id change none h) = flags_grow id change old new h

-- a valid layout that takes in another stays valid
pub merge_keeps : (old victim new : Composite) → IsValid old → IsValid victim → TakesIn old victim new → IsValid new
merge_keeps old victim new v w h =
    let m = h.merged in
    let first = begun old v in
    let e : (old.next_mirror - 1) + 1 ≡ old.next_mirror = omega (arith, first) in
    let n = length (mirror_ids victim.components) in
    let k = length victim.components in
    let run = run_taken victim w (old.next_mirror - 1) old.next_counter ∙ ap (λ (id : ℕ). taken_in id old.next_counter victim.components) e in
    same_layout _ new.generation _ new.state _ new.next_mirror _ new.next_counter _ new.components (sym m.generation) (sym m.state) (sym m.next_mirror) (sym m.next_counter) (sym m.components)
    (merged_is old victim v w h.most (max old.generation victim.generation) old.next_mirror old.next_counter n k old.components victim.components (taken_in old.next_mirror old.next_counter victim.components) (old.components ++ taken_in old.next_mirror old.next_counter victim.components) (excess old n k h.most)
    h.few refl refl refl refl refl h.within refl refl (sym run) refl)

-- what is split off from a valid layout is valid
pub part_keeps : (mirror : ℕ) (old part : Composite) → IsValid old → IsSplitOff mirror old part → IsValid part
part_keeps mirror old part v h =
    let k = kept old in
    let o = h.off in
    same_layout _ part.generation _ part.state _ part.next_mirror _ part.next_counter _ part.components (sym o.generation) (sym o.state) (sym (o.next_mirror ∙ k.0)) (sym (o.next_counter ∙ k.1)) (sym o.components)
    (part_is old v mirror (unleased old).generation (unleased old).components (of_mirror mirror (unleased old).components) h.fresh k.2 refl)
