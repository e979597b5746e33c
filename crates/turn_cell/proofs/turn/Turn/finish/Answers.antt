use Rattle.std.proofs.Common.{[], ◌∷◌, ◌++◌, Some, length, arith, ap, sym, ◌∙◌}
use Rattle.std.specs.Prelude.{is_some}
use Rattle.turn_cell.proofs.PlaceLists.{places_made}
use Rattle.atomic_table.specs.Table.{rest}
use Rattle.turn_cell.specs.Schedules.{schedule_with}
use Rattle.turn_cell.proofs.Keeps.{step_releases, releases}
use Rattle.turn_cell.proofs.turn.Turn.finish.Goals as goal

pub store-requires : goal.store-requires
store-requires g c =
    let i = c.self.invariant in
    let e = c.exchange.ensures in
    let one = c.cell.invariant in
    let words = one.0 in
    let slots = one.1 in
    let v = ap (λ m. m.0) e.3 in
    let long = ap (λ m. length m.0.seen) e.3 in
    let odd = i.4 in (
      e.0 ∙ (i.0 ∙ sym c.cell.view_is),
      omega arith,
      step_releases _ _ _ _ _ _ c.self.inside.value c.in-Some-made.field-0 _ (omega arith) (ap (λ d. d.has_turn) v ∙ i.2) (ap (λ d. d.origin) v ∙ i.3)
          (ap (λ m. m.1) e.3 ∙ ap (λ l. (0, Some c.self.inside.value) ∷ rest l) i.1)
          (i.7 ∙ (ap (λ d. schedule_with d.seen c.self.inside.made) (sym v) ∙ ap (schedule_with c.exchange.new.seat.me.0.seen) c.in-Some-made.is)) (omega arith) i.6,
    )

pub store-requires-in-None-made : goal.store-requires-in-None-made
store-requires-in-None-made g c =
    let i = c.self.invariant in
    let e = c.exchange.ensures in
    let one = c.cell.invariant in
    let words = one.0 in
    let slots = one.1 in
    let v = ap (λ m. m.0) e.3 in
    let long = ap (λ m. length m.0.seen) e.3 in
    let odd = i.4 in (
      e.0 ∙ (i.0 ∙ sym c.cell.view_is),
      omega arith,
      releases _ _ _ _ _ _ c.self.inside.value _ (omega arith) (ap (λ d. d.has_turn) v ∙ i.2) (ap (λ d. d.origin) v ∙ i.3)
          (ap (λ m. m.1) e.3 ∙ ap (λ l. (0, Some c.self.inside.value) ∷ rest l) i.1)
          (i.7 ∙ (ap (λ d. schedule_with d.seen c.self.inside.made) (sym v) ∙ ap (schedule_with c.exchange.new.seat.me.0.seen) c.in-None-made.is)) (omega arith) i.6,
    )

pub returns-in-Some-made-clause-places : goal.returns-in-Some-made-clause-places
returns-in-Some-made-clause-places g c =
    let i = c.self.invariant in
    let e = c.exchange.ensures.3 in
    let s = c.store.ensures.2 c.self.inside.value (ap (λ m. m.1) e ∙ ap (λ l. (0, Some c.self.inside.value) ∷ rest l) i.1) in
    let seen = ap (λ m. m.0.seen) s in
    places_made _ _ _ _ c.in-Some-made.field-0 i.9 (seen ∙ (i.7 ∙ ap (schedule_with c.self.inside.seat.me.0.seen) c.in-Some-made.is))
    (ap (λ m. m.0.mine) s ∙ (ap (λ m. m.0.mine ++ length (g.W.Stepped.schedule c.self.inside.value) ∷ []) e ∙ ap (λ l. c.self.inside.seat.me.0.mine ++ length l ∷ []) (sym seen)))

pub invariant_of-t-13 : goal.invariant_of-t-13
invariant_of-t-13 g c =
    let i = c.self.invariant in
    let e = c.exchange.ensures.3 in
    let s = c.store.ensures.2 c.self.inside.value (ap (λ m. m.1) e ∙ ap (λ l. (0, Some c.self.inside.value) ∷ rest l) i.1) in
    let seen = ap (λ m. m.0.seen) s in (
      ap (λ m. m.1) s,
      ap (λ m. m.0.has_turn) s,
      ap (λ m. is_some m.0.origin) s ∙ (ap (λ m. is_some m.0.origin) e ∙ ap is_some i.3),
      places_made _ _ _ _ c.in-Some-made.field-0 i.9 (seen ∙ (i.7 ∙ ap (schedule_with c.self.inside.seat.me.0.seen) c.in-Some-made.is))
          (ap (λ m. m.0.mine) s ∙ (ap (λ m. m.0.mine ++ length (g.W.Stepped.schedule c.self.inside.value) ∷ []) e ∙ ap (λ l. c.self.inside.seat.me.0.mine ++ length l ∷ []) (sym seen))),
    )
