use Rattle.std.proofs.Common.{◌≡◌, List, ℕ, arith, ap, sym, subst, ◌∙◌}
use Rattle.turn_cell.specs.Places.{HasBoth, merged}
use Rattle.turn_cell.proofs.Keeps.{joins, join_loads}
use Rattle.turn_cell.proofs.PlaceLists.{both-merged}
use Rattle.turn_cell.proofs.cell.TurnCell.join.Goals as goal

pub join_seat-requires : goal.join_seat-requires
join_seat-requires g c = let one = c.self.invariant.0 in (
  ap (λ s. s.cell) c.first.view_is ∙ (c.requires.first_of_cell ∙ sym c.self.view_is),
  ap (λ s. s.cell) c.second.view_is ∙ (c.requires.second_of_cell ∙ sym c.self.view_is),
  c.second.invariant.0,
  omega arith,
  joins _ _ _ _ _ _ _ c.second.invariant.1,
)

pub load-requires : goal.load-requires
load-requires g c = let one = c.self.invariant.0 in (c.join_seat.ensures.0 ∙ (ap (λ s. s.cell) c.first.view_is ∙ (c.requires.first_of_cell ∙ sym c.self.view_is)), omega arith, join_loads _ _ _ _ _ _)

pub returns-clause-mine : goal.returns-clause-mine
returns-clause-mine g c =
    let both = ap (λ m. m.0.mine) (c.load.ensures.2.0 ∙ c.join_seat.ensures.2) in
    let first = ap (λ s. s.mine) c.first.view_is in
    let second = ap (λ s. s.mine) c.second.view_is in
    let all : c.load.new.seat.me.0.mine ≡ merged c.args.first.mine c.args.second.mine = both ∙ (ap (λ l. merged l c.second.inside.seat.me.0.mine) first ∙ ap (merged c.args.first.mine) second) in
    subst (λ (l : List ℕ). HasBoth l c.args.first.mine c.args.second.mine) (sym all) (both-merged c.args.first.mine c.args.second.mine)
