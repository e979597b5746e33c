use Rattle.std.proofs.Common.{◌≡◌, length, subst, ap, arith}
use Rattle.script_values.specs.Scripts.{ScriptView}
use Rattle.flr_steps.specs.Schedules.{IsTaken}
use Rattle.flr_steps.specs.States.{State}
use Rattle.flr_run.proofs.Ends.{taken_by_all}
use Rattle.flr_run.proofs.crew.crewed.Goals as goal

pub returns-clause-taken : goal.returns-clause-taken
returns-clause-taken g c =
    let begun : c.in_ok-world.world.script ≡ c.args.script = ap (λ (s : State). s.script) c.in_ok-world.ensures.start in
    let many = c.clients-clients.ensures.clients in
    let same : length c.in_ok-world.world.script.clients ≡ length c.args.script.clients = ap (λ (v : ScriptView). length v.clients) begun in
    subst (λ (v : ScriptView). IsTaken v c.in_ok-world-2.world.schedule c.in_ok-world-2.world) begun
    (taken_by_all c.in_ok-world.world.script c.in_ok-world.world.schedule c.in_ok-world-2.world c.keeps_run.ensures c.in_ok-world-2.ensures.origin (λ client low high. c.in_ok-world-2.ensures.ended client low (omega (arith, high, many, same))))
