use Rattle.std.proofs.Common.{rules, arith, ◌≡◌, ◌+◌, ◌-◌, sym, ap, ◌∙◌}
use Rattle.turn_crew.proofs.Ends.{some_inj, ended_along}
use Rattle.turn_crew.proofs.crew.run_crew.Goals as goal

pub returns-clause-ended : goal.returns-clause-ended
returns-clause-ended g c client low high =
    let first = c.in_ok-cell.ensures.first in
    let jobs = c.in_ok-seat.ensures in
    let count = jobs.count in
    let work = c.in_ok-seat-2.ensures in
    let e = work.ended (search rules) (client - 1) (omega arith) in
    let from = ap (λ s. s.origin) jobs.same ∙ ap (λ s. s.origin) first in
    let origin : e.0 ≡ g.W.Stepped.origin c.args.world = some_inj _ _ (sym e.1 ∙ from) in
    let seen = ap (λ s. s.seen) jobs.same ∙ ap (λ s. s.seen) first in
    let same : client - 1 + 1 ≡ client = omega arith in
    ended_along g.W.Stepped.allowed e.0 _ _ _ _ _ _ _ origin seen same e.2 c.close.ensures.front
