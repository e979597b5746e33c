use Rattle.std.proofs.Common.{◌≡◌, true, ◌++◌}
use Rattle.std.specs.Prelude.{All}
use Rattle.turn_cell.specs.Schedules.{IsFront}
use Rattle.turn_crew.proofs.crew.gather.Given as goal

abbrev pub invariant-loop-one : goal.invariant-loop-one
invariant-loop-one g l = record {
  can_next : (goal.iterator-loop-one g).can_next l.one-iterator;
  is_finite : (goal.iterator-loop-one g).is_finite l.one-iterator;
  cell : l.seat.cell ≡ l.initial.seat.cell;
  origin : l.seat.origin ≡ l.initial.seat.origin;
  front : IsFront l.initial.seat.seen l.seat.seen;
  each : All (λ d. IsFront d.seat.seen l.seat.seen × (l.all ≡ true → d.ended ≡ true)) l.yielded;
  rest : l.yielded ++ l.one-iterator.rest.items ≡ l.initial.one-iterator.rest.items;
}
