use Rattle.std.proofs.Common.{rules, ◌≡◌, true, true≢false, All, [], ◌∷◌, ◌++◌, sym, ap, subst, ◌∙◌, append_assoc, append-nil}
use Rattle.std.proofs.lemmas.List.{nil_from_length}
use Rattle.turn_crew.specs.declared.crew.Done.{Done}
use Rattle.turn_cell.specs.Schedules.{IsFront}
use Rattle.turn_cell.proofs.Fronts.{front_along}
use Rattle.turn_crew.proofs.Ends.{all_push}
use Rattle.turn_crew.proofs.crew.gather.Goals as goal

pub loop-one-preserved-then-all : goal.loop-one-preserved-then-all
loop-one-preserved-then-all g c =
    let i = c.loop-one.invariant in
    let j = c.join-seat.ensures in
    record {
      can_next = tt;
      is_finite = tt;
      cell = j.cell ∙ i.cell;
      origin = j.origin ∙ i.origin;
      front = front_along _ _ _ i.front j.fronts.0;
      each = all_push (λ d. IsFront d.seat.seen c.loop-one.seat.seen × (c.loop-one.all ≡ true → d.ended ≡ true)) (λ d. IsFront d.seat.seen c.join-seat.result.seen × (c.in-Some.one.ended ≡ true → d.ended ≡ true)) c.loop-one.yielded c.in-Some.one i.each
          (λ x p. (front_along _ _ _ p.0 j.fronts.0, λ e. p.1 c.if-all.true)) (j.fronts.1, λ e. e);
      rest = append_assoc c.loop-one.yielded (c.in-Some.one ∷ []) c.next.new.self.rest.items ∙ (ap (λ l. c.loop-one.yielded ++ l) (sym c.in-Some.ensures.steps.0) ∙ i.rest);
    }

pub loop-one-preserved : goal.loop-one-preserved
loop-one-preserved g c =
    let i = c.loop-one.invariant in
    let j = c.join-seat.ensures in
    record {
      can_next = tt;
      is_finite = tt;
      cell = j.cell ∙ i.cell;
      origin = j.origin ∙ i.origin;
      front = front_along _ _ _ i.front j.fronts.0;
      each = all_push (λ d. IsFront d.seat.seen c.loop-one.seat.seen × (c.loop-one.all ≡ true → d.ended ≡ true)) (λ d. IsFront d.seat.seen c.join-seat.result.seen × (c.loop-one.all ≡ true → d.ended ≡ true)) c.loop-one.yielded c.in-Some.one i.each
          (λ x p. (front_along _ _ _ p.0 j.fronts.0, p.1)) (j.fronts.1, λ e. absurd (true≢false (sym e ∙ c.if-all.false)));
      rest = append_assoc c.loop-one.yielded (c.in-Some.one ∷ []) c.next.new.self.rest.items ∙ (ap (λ l. c.loop-one.yielded ++ l) (sym c.in-Some.ensures.steps.0) ∙ i.rest);
    }

pub returns-clause-each : goal.returns-clause-each
returns-clause-each g c =
    let i = c.loop-one.invariant in
    let P = λ (d : Done g.row.W.Denot g.row.W-Origin.Denot). IsFront d.seat.seen c.loop-one.seat.seen × (c.loop-one.all ≡ true → d.ended ≡ true) in
    let none : c.loop-one.one-iterator.rest.items ≡ [] = nil_from_length c.loop-one.one-iterator.rest.items (search rules) in
    let is : c.loop-one.yielded ≡ c.args.done.items = sym (append-nil c.loop-one.yielded) ∙ (ap (λ l. c.loop-one.yielded ++ l) (sym none) ∙ (i.rest ∙ search rules)) in
    subst (All P) is i.each
