use Rattle.std.proofs.Common.{arith, rules, refl, sym, ap, subst, length, ◌∙◌}
use Rattle.turn_cell.specs.Schedules.{IsFront}
use Rattle.turn_cell.proofs.PlaceLists.{places_later}
use Rattle.turn_cell.proofs.cell.TurnCell.try_turn.Goals as goal

pub invariant_of-result : goal.invariant_of-result
invariant_of-result g c =
    let took = c.in-Some.ensures.took in
    let turn = took.1 in
    let word = turn.word_is in
    let few = turn.few in
    let long = ap length turn.seen in (
      search rules,
      took.0,
      turn.has_turn,
      turn.origin_is ∙ turn.same,
      omega arith,
      omega arith,
      few,
      sym turn.seen,
      (λ _. refl),
      places_later _ _ _ _ c.seat.invariant.3 turn.mine (subst (λ z. IsFront c.seat.inside.seat.me.0.seen z) (sym turn.seen) turn.front),
    )
