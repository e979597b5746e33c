use Rattle.std.proofs.Common.{◌≤◌, length, arith}
use Rattle.flr_world.proofs.Steps.{short}
use Rattle.flr_world.proofs.world.WorldStepped.places.Goals as goal

pub overflow_cast-result : goal.overflow_cast-result
overflow_cast-result c =
    let i = c.self.inside in
    let few : length i.schedule.items ≤ 8388608 = short i.script i.meta i.targets i.locks i.members.items i.entries.items i.schedule.items c.self.invariant in
    omega arith
