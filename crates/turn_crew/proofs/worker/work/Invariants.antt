use Rattle.std.proofs.Common.{◌≡◌, ◌≤◌, length}
use Rattle.turn_cell.specs.Schedules.{IsFront}
use Rattle.turn_crew.proofs.worker.work.Given as goal

abbrev pub invariant-loop : goal.invariant-loop
invariant-loop g l = record {
  cell : l.seat.cell ≡ l.initial.seat.cell;
  origin : l.seat.origin ≡ l.initial.seat.origin;
  front : IsFront l.initial.seat.seen l.seat.seen;
  few : l.made ≤ length l.seat.seen;
}
