use Rattle.std.proofs.Common.{arith, ap, sym, ◌∙◌}
use Rattle.turn_cell.proofs.Keeps.{splits}
use Rattle.turn_cell.proofs.cell.TurnCell.split.Goals as goal

pub split_seat-second-requires : goal.split_seat-second-requires
split_seat-second-requires g c = let one = c.self.invariant.0 in (ap (λ s. s.cell) c.seat.view_is ∙ (c.requires.seat_of_cell ∙ sym c.self.view_is), omega arith, splits _ _ _ _ _)
