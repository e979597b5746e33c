use Rattle.std.proofs.Common.{◌≡◌}
use Rattle.turn_crew.proofs.crew.close.Given as goal

abbrev pub invariant-loop : goal.invariant-loop
invariant-loop g l = record {
  cell : l.seat.cell ≡ l.cell;
  origin : l.seat.origin ≡ l.initial.seat.origin;
  seen : l.seat.seen ≡ l.initial.seat.seen;
}
