-- One more component, and all of them.
use Rattle.std.proofs.Common.{◌≡◌, ◌+◌, cond, ◌&&◌, List, get_or, take, take_all, Some, refl, subst, arith}
use Rattle.composite_layout.specs.declared.component.Component.{Component}
use Rattle.mirror_select.specs.Tails.{has_lower_id, is_better_id, is_next}
use Rattle.mirror_select.proofs.Least.{IsBest, best_next, best_within, least_place}
use Rattle.mirror_select.proofs.TailWalk.{total_id, along_id}
use Rattle.client_write.proofs.tails.next_component.Goals as goal
use Rattle.client_write.proofs.tails.next_component.Goals.{then-is_next+then-has_better_id, else-is_next, else-is_next-via-then-is_next+else-has_better_id, else-is_next-via-else-is_next}

pub has_better_id-requires : goal.has_better_id-requires
has_better_id-requires c = best_within (is_next (Some c.args.mirror) c.args.from c.args.id) has_lower_id c.args.components.now c.loop-index.index c.loop-index.best (omega arith) c.loop-index.invariant

pub loop-index-preserved : goal.loop-index-preserved
loop-index-preserved c =
    let x = c.index-components-index.result in
    let next = best_next (is_next (Some c.args.mirror) c.args.from c.args.id) has_lower_id total_id along_id c.args.components.now c.loop-index.index x c.loop-index.best (omega arith) c.loop-index.invariant in
    let same : cond (is_next (Some c.args.mirror) c.args.from c.args.id (get_or c.args.components.now c.loop-index.index x) && is_better_id c.args.components.now c.loop-index.best (get_or c.args.components.now c.loop-index.index x)) (Some c.loop-index.index) c.loop-index.best ≡ c.if-is_next.best =
    (elim c.if-is_next.branch [
      | then-is_next+then-has_better_id w ↦ rw (← c.index-components-index.is, ← c.is_next.ensures, ← w.has_better_id.ensures, w.if-is_next.true, w.if-has_better_id.true, w.best-is) refl
      | else-is_next w ↦ (elim w.else-is_next.branch [
        | else-is_next-via-then-is_next+else-has_better_id v ↦ rw (← c.index-components-index.is, ← c.is_next.ensures, ← v.has_better_id.ensures, v.if-is_next.true, v.if-has_better_id.false, w.best-is) refl
        | else-is_next-via-else-is_next v ↦ rw (← c.index-components-index.is, ← c.is_next.ensures, v.if-is_next.false, w.best-is) refl
      ])
    ]) in
    subst (IsBest (is_next (Some c.args.mirror) c.args.from c.args.id) has_lower_id (take (c.loop-index.index + 1) c.args.components.now)) same next

pub returns : goal.returns
returns c =
    let all : take c.loop-index.index c.args.components.now ≡ c.args.components.now = take_all c.loop-index.index c.args.components.now (omega arith) in
    least_place (is_next (Some c.args.mirror) c.args.from c.args.id) has_lower_id c.args.components.now c.loop-index.best (subst (λ (xs : List Component). IsBest (is_next (Some c.args.mirror) c.args.from c.args.id) has_lower_id xs c.loop-index.best) all c.loop-index.invariant)
