use Rattle.std.proofs.Common.{◌≡◌, ◌<◌, ◌+◌, length, true, sym, ◌∙◌, arith}
use Rattle.flr_world.proofs.Counting.{from_by, from_end}
use Rattle.flr_world.proofs.Steps.{shown_count}
use Rattle.flr_world.proofs.world.World.unfinished.Goals as goal

pub has_left-requires : goal.has_left-requires
has_left-requires c =
    let i = c.self.inside in
    let many = shown_count i.script i.meta i.targets i.locks i.members.items i.entries.items i.schedule.items c.args.self.now c.self.invariant c.self.view_is in
    let less = c.loop-k-test.true in
    omega (arith, many, less, c.clients-k-end.ensures.clients)

pub returns-then-has_left : goal.returns-then-has_left
returns-then-has_left c =
    let i = c.self.inside in
    let many = shown_count i.script i.meta i.targets i.locks i.members.items i.entries.items i.schedule.items c.args.self.now c.self.invariant c.self.view_is in
    let less : c.loop-k.k < length c.args.self.now.clients = (let near = c.loop-k-test.true in omega (arith, many, near, c.clients-k-end.ensures.clients)) in
    record { lowest = sym (c.loop-k.invariant ∙ from_by c.args.self.now.script c.args.self.now.clients (c.loop-k.k + 1) c.loop-k.k true less (sym c.if-has_left.true ∙ c.has_left.ensures)) }

pub returns : goal.returns
returns c =
    let i = c.self.inside in
    let many = shown_count i.script i.meta i.targets i.locks i.members.items i.entries.items i.schedule.items c.args.self.now c.self.invariant c.self.view_is in
    let last : c.loop-k.k ≡ length c.args.self.now.clients = (let far = c.loop-k-test.false in let within = c.loop-k.auto.k-end in omega (arith, many, far, within, c.clients-k-end.ensures.clients)) in
    record { lowest = sym (c.loop-k.invariant ∙ from_end c.args.self.now.script c.args.self.now.clients (c.loop-k.k + 1) c.loop-k.k last) }
