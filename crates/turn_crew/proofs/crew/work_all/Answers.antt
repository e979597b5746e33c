use Rattle.std.proofs.Common.{rules, of_calls, true, sym, refl, ap, subst, ◌∙◌}
use Rattle.std.specs.Prelude.{slice_index_or}
use Rattle.turn_crew.specs.declared.crew.Done.{Done}
use Rattle.turn_crew.specs.declared.crew.Job.{Job}
use Rattle.turn_crew.specs.Crew.{HasWorked, IsJob}
use Rattle.turn_crew.proofs.Ends.{ended_along}
use Rattle.turn_crew.proofs.crew.work_all.Goals as goal

pub returns-clause-ended : goal.returns-clause-ended
returns-clause-ended g c all i lt =
    let d : Done g.row.W.Denot g.row.W-Origin.Denot = record { seat = c.args.seat; ended = true } in
    let r = slice_index_or c.in_ok-done.done.items i d in
    let one = (c.in_ok-done.ensures.each i d (search rules)).1 in
    let j = one.job in
    let worked : HasWorked g.W.Stepped.allowed j.seat j.client r.seat r.ended = search of_calls in
    let is = subst (λ (x : Job g.row.W.Denot g.row.W-Origin.Denot). IsJob c.args.seat i x.client x.seat) (one.job_is j) (c.requires.jobs i j lt) in
    let at = c.gather.ensures.each i d (search rules) in
    let done = worked.ended (at.1 all) in
    let seen = ap (λ s. s.seen) is.1 in (done.0, sym (ap (λ s. s.origin) is.1) ∙ done.1, ended_along g.W.Stepped.allowed done.0 done.0 _ _ _ _ _ _ refl seen is.0 done.2 at.0)
