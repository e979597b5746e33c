use Rattle.std.proofs.Common.{◌∷◌, arith, rules, ap, sym, ◌∙◌, refl, Some}
use Rattle.turn_cell.proofs.Keeps.{loads, claims}
use Rattle.atomic_table.specs.Table.{rest}
use Rattle.turn_cell.proofs.cell.TurnCell.try_take.Goals as goal

pub load-word-requires : goal.load-word-requires
load-word-requires g c = let one = c.self.invariant.0 in (c.requires.cell ∙ sym c.self.view_is, omega arith, loads _ _ _ _ _ _)

pub compare_exchange-found-requires : goal.compare_exchange-found-requires
compare_exchange-found-requires g c = let one = c.self.invariant.0 in (c.load-word.ensures.0 ∙ (c.requires.cell ∙ sym c.self.view_is), omega arith, claims _ _ _ _ _ _ _ _ (search rules) refl)

pub exchange-requires : goal.exchange-requires
exchange-requires g c =
    let took = (c.compare_exchange-found.ensures.2 (ap (λ m. m.0.read) c.load-word.ensures.2)).0 (search rules) in
    let has = ap (λ m. m.1) took.1 in
    (c.compare_exchange-found.ensures.0 ∙ (c.load-word.ensures.0 ∙ (c.requires.cell ∙ sym c.self.view_is)), (Some took.0, has ∙ ap (λ l. (0, Some took.0) ∷ l) (sym (ap rest has))))
