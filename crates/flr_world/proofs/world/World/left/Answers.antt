use Rattle.std.proofs.Common.{◌≡◌, ◌<◌, ◌+◌, length, true, false, sym, ◌∙◌, arith}
use Rattle.flr_world.proofs.Counting.{count_by, count_end}
use Rattle.flr_world.proofs.Steps.{shown_count}
use Rattle.flr_world.proofs.world.World.left.Goals as goal
use Rattle.flr_world.proofs.world.World.left.Goals.{then-has_left, else-has_left}

pub has_left-requires : goal.has_left-requires
has_left-requires c =
    let i = c.self.inside in
    let many = shown_count i.script i.meta i.targets i.locks i.members.items i.entries.items i.schedule.items c.args.self.now c.self.invariant c.self.view_is in
    let less = c.loop-k-test.true in
    omega (arith, many, less, c.clients-k-end.ensures.clients)

pub loop-k-preserved : goal.loop-k-preserved
loop-k-preserved c =
    let i = c.self.inside in
    let many = shown_count i.script i.meta i.targets i.locks i.members.items i.entries.items i.schedule.items c.args.self.now c.self.invariant c.self.view_is in
    let less : c.loop-k.k < length c.args.self.now.clients = (let near = c.loop-k-test.true in omega (arith, many, near, c.clients-k-end.ensures.clients)) in
    let so_far = c.loop-k.invariant.0 in
    let few = c.loop-k.invariant.1 in
    elim c.if-has_left.branch [
      | then-has_left w ↦ (let more = count_by c.args.self.now.script c.args.self.now.clients (c.loop-k.k + 1) c.loop-k.k true less (sym w.if-has_left.true ∙ c.has_left.ensures) in let found = w.found-is in (omega (arith, so_far, more, found), omega (arith, few, found)))
      | else-has_left w ↦ (let more = count_by c.args.self.now.script c.args.self.now.clients (c.loop-k.k + 1) c.loop-k.k false less (sym w.if-has_left.false ∙ c.has_left.ensures) in let found = w.found-is in (omega (arith, so_far, more, found), omega (arith, few, found)))
    ]

pub returns : goal.returns
returns c =
    let i = c.self.inside in
    let many = shown_count i.script i.meta i.targets i.locks i.members.items i.entries.items i.schedule.items c.args.self.now c.self.invariant c.self.view_is in
    let last : c.loop-k.k ≡ length c.args.self.now.clients = (let far = c.loop-k-test.false in let within = c.loop-k.auto.k-end in omega (arith, many, far, within, c.clients-k-end.ensures.clients)) in
    let none = count_end c.args.self.now.script c.args.self.now.clients (c.loop-k.k + 1) c.loop-k.k last in
    let so_far = c.loop-k.invariant.0 in
    record { count = omega (arith, so_far, none) }
