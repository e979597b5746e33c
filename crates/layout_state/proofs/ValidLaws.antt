-- A mark of a valid layout leaves it valid.
use Rattle.std.proofs.Common.{◌≡◌, ℕ, ◌+◌, true, List, length, map, sym, subst, refl, None, Some}
use Rattle.flr_base.specs.declared.reply.Range.{Range}
use Rattle.composite_layout.specs.declared.component.Component.{Component}
use Rattle.composite_layout.specs.declared.component.State.{State}
use Rattle.composite_layout.specs.declared.component.State.TheVariants as states
use Rattle.composite_layout.specs.FlagChanges.{FlagSets}
use Rattle.composite_layout.specs.Layouts.{Composite, IsValid}
use Rattle.composite_layout.specs.LookUps.{mirror_ids, wholly_fresh}
use Rattle.layout_state.specs.Breaking.{pending, unleased}
use Rattle.layout_state.specs.Choosing.{IsPrimary, primary_of}
use Rattle.layout_state.specs.Making.{AreNext}
use Rattle.layout_state.specs.Marking.{changed_if_named, flags_refusal, IsDone, IsFlagChange, IsBegin, IsIntent}
use Rattle.layout_state.proofs.BreakLaws.{broken_valid}
use Rattle.layout_state.proofs.ChoiceLaws.{primary_least, primary_fresh}
use Rattle.layout_state.proofs.MarkLaws.{done_valid, flagged_valid, unleased_components}
use Rattle.layout_state.proofs.ObjectLaws.{begin_valid, intent_valid, intended}

unleased_valid_from : (g : ℕ) (s : State) (n q : ℕ) (cs : List Component) → IsValid (record { generation = g; state = s; next_mirror = n; next_counter = q; components = cs }) → IsValid (unleased (record { generation = g; state = s; next_mirror = n; next_counter = q; components = cs }))
unleased_valid_from g states.Single n q cs v = v
unleased_valid_from g states.ReadOnly n q cs v = v
unleased_valid_from g states.WritePending n q cs v = v
unleased_valid_from g states.SyncPending n q cs v = broken_valid _ v

unleased_valid : (l : Composite) → IsValid l → IsValid (unleased l)
unleased_valid l v = unleased_valid_from l.generation l.state l.next_mirror l.next_counter l.components v

pub done_keeps : (ids : List ℕ) (old new : Composite) → IsValid old → IsDone ids old new → IsValid new
done_keeps ids old new v h = subst IsValid (sym h) (done_valid old v ids)

pub flags_keep : (id : ℕ) (change : FlagSets) (old new : Composite) → IsValid old → flags_refusal id change old.components ≡ None → IsFlagChange id change old new → IsValid new
flags_keep id change old new v none h =
    subst IsValid (sym h) (subst (λ (cs : List Component). IsValid (record (unleased old) { generation = (unleased old).generation + 1; components = map (changed_if_named id change) cs })) (unleased_components old) (flagged_valid old (unleased old) refl (unleased_valid old v) id change none))

pub begin_keeps : (ids : List ℕ) (file : ℕ) (nexts : List ℕ) (old new : Composite) (after : List ℕ) → IsValid old → AreNext nexts → IsBegin ids file nexts old new after → IsValid new
begin_keeps ids file nexts old new after v a h = subst IsValid (sym h.layout) (begin_valid old v ids file nexts a)

pub intent_keeps : (range : Range) (mirror file : ℕ) (nexts : List ℕ) (old new : Composite) (after : List ℕ) → IsValid old → AreNext nexts → primary_of range old.components ≡ Some mirror → IsIntent range mirror file nexts old new after → IsValid new
intent_keeps range mirror file nexts old new after v a primary h =
    let same = unleased_components old in
    let fresh : wholly_fresh mirror old.components ≡ true = primary_fresh range old.components (Some mirror) (subst (IsPrimary range old.components) primary (primary_least old v range)) in
    let there : wholly_fresh mirror (unleased old).components ≡ true = subst (λ (cs : List Component). wholly_fresh mirror cs ≡ true) (sym same) fresh in
    subst IsValid (sym h.layout) (subst (λ (cs : List Component). IsValid (record (unleased old) { generation = (unleased old).generation + 1; state = pending (length (mirror_ids cs)); components = intended range mirror file nexts cs })) same (intent_valid (unleased old) (unleased_valid old v) range mirror file nexts a there))
