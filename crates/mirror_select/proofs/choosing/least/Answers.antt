-- One more component, and all of them.
use Rattle.std.proofs.Common.{◌≡◌, ◌+◌, cond, ◌&&◌, List, get_or, take, take_all, Some, refl, subst, arith}
use Rattle.composite_layout.specs.declared.component.Component.{Component}
use Rattle.mirror_select.specs.Candidates.{comes_first, is_better, is_candidate}
use Rattle.mirror_select.proofs.Least.{IsBest, best_next, best_within, least_place}
use Rattle.mirror_select.proofs.Order.{total, along}
use Rattle.mirror_select.proofs.choosing.least.Goals as goal
use Rattle.mirror_select.proofs.choosing.least.Goals.{then-is_candidate+then-is_better, else-is_candidate, else-is_candidate-via-then-is_candidate+else-is_better, else-is_candidate-via-else-is_candidate}

pub is_better-requires : goal.is_better-requires
is_better-requires c = best_within (is_candidate c.args.failed.now c.args.byte) comes_first c.args.components.now c.loop-index.index c.loop-index.best (omega arith) c.loop-index.invariant

pub loop-index-preserved : goal.loop-index-preserved
loop-index-preserved c =
    let x = c.index-components-index.result in
    let next = best_next (is_candidate c.args.failed.now c.args.byte) comes_first total along c.args.components.now c.loop-index.index x c.loop-index.best (omega arith) c.loop-index.invariant in
    let same : cond (is_candidate c.args.failed.now c.args.byte (get_or c.args.components.now c.loop-index.index x) && is_better c.args.components.now c.loop-index.best (get_or c.args.components.now c.loop-index.index x)) (Some c.loop-index.index) c.loop-index.best ≡ c.if-is_candidate.best =
    (elim c.if-is_candidate.branch [
      | then-is_candidate+then-is_better w ↦ rw (← c.index-components-index.is, ← c.is_candidate.ensures, ← w.is_better.ensures, w.if-is_candidate.true, w.if-is_better.true, w.best-is) refl
      | else-is_candidate w ↦ (elim w.else-is_candidate.branch [
        | else-is_candidate-via-then-is_candidate+else-is_better v ↦ rw (← c.index-components-index.is, ← c.is_candidate.ensures, ← v.is_better.ensures, v.if-is_candidate.true, v.if-is_better.false, w.best-is) refl
        | else-is_candidate-via-else-is_candidate v ↦ rw (← c.index-components-index.is, ← c.is_candidate.ensures, v.if-is_candidate.false, w.best-is) refl
      ])
    ]) in
    subst (IsBest (is_candidate c.args.failed.now c.args.byte) comes_first (take (c.loop-index.index + 1) c.args.components.now)) same next

pub returns : goal.returns
returns c =
    let all : take c.loop-index.index c.args.components.now ≡ c.args.components.now = take_all c.loop-index.index c.args.components.now (omega arith) in
    least_place (is_candidate c.args.failed.now c.args.byte) comes_first c.args.components.now c.loop-index.best (subst (λ (xs : List Component). IsBest (is_candidate c.args.failed.now c.args.byte) comes_first xs c.loop-index.best) all c.loop-index.invariant)
