use Rattle.std.proofs.Common.{length, ap, arith}
use Rattle.std.proofs.lemmas.List.{length-map}
use Rattle.flr_steps.specs.States.{State}
use Rattle.flr_world.specs.Worlds.{client_of}
use Rattle.flr_world.proofs.Steps.{counted}
use Rattle.flr_world.proofs.world.World.has_left.Goals as goal

pub overflow_add-k : goal.overflow_add-k
overflow_add-k c =
    let i = c.self.inside in
    let many = counted i.script i.meta i.targets i.locks i.members.items i.entries.items i.schedule.items c.self.invariant in
    let same = length-map i.members.items client_of in
    let shown = ap (λ (s : State). length s.clients) c.self.view_is in
    let less = c.requires in
    let few = c.self.invariant.run.limits.form.few_clients in
    omega (arith, many, same, shown, less, few)

pub next_command-requires-clause-high : goal.next_command-requires-clause-high
next_command-requires-clause-high c =
    let i = c.self.inside in
    let many = counted i.script i.meta i.targets i.locks i.members.items i.entries.items i.schedule.items c.self.invariant in
    let same = length-map i.members.items client_of in
    let shown = ap (λ (s : State). length s.clients) c.self.view_is in
    let less = c.requires in
    omega (arith, many, same, shown, less)
