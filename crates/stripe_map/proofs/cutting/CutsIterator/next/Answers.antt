use Rattle.std.proofs.Common.{sym, ap, ◌∙◌, ◌<◌, length, arith}
use Rattle.stripe_map.proofs.CutLaws.{cuts_of-some}
use Rattle.stripe_map.proofs.cutting.CutsIterator.next.Goals as goal

pub returns-clause-steps : goal.returns-clause-steps
returns-clause-steps c =
    let some : 0 < c.self.inside.stripe.size = omega (arith, c.self.invariant.striped.least_size) in
    sym c.self.view_is ∙ cuts_of-some c.self.inside.stripe c.self.inside.left.start c.self.inside.left.end c.min-end.result c.place.result some c.if-start-self.false c.min-end.ensures c.place.ensures.raid0

pub returns-clause-goes : goal.returns-clause-goes
returns-clause-goes c =
    let some : 0 < c.self.inside.stripe.size = omega (arith, c.self.invariant.striped.least_size) in
    let steps = sym c.self.view_is ∙ cuts_of-some c.self.inside.stripe c.self.inside.left.start c.self.inside.left.end c.min-end.result c.place.result some c.if-start-self.false c.min-end.ensures c.place.ensures.raid0 in
    let fewer = ap length steps in
    record { on = λ _. (tt, tt, omega (arith, fewer)); keeps = tt; rests = λ _. tt }
