use Rattle.std.proofs.Common.{sym}
use Rattle.layout_text.proofs.FrontLaws.{memory_behind, so_far_memory, so_far_fault, so_far_whole, so_far_more, so_far_end, next_shorter}
use Rattle.layout_text.proofs.read.read_lines.Goals as goal

pub returns-in_err-after : goal.returns-in_err-after
returns-in_err-after c = memory_behind _ c.args.text.now c.from_residual.result c.from_residual.ensures (so_far_memory c.args.text.now c.loop-line.taken c.loop-line.phase c.loop-line.seen c.loop-line.rest.now c.in-Some.line.now c.in-Some.more.now c.loop-line.invariant (c.in-Some.ensures.first, c.in-Some.ensures.rest))

pub returns-in_default-2 : goal.returns-in_default-2
returns-in_default-2 c =
    so_far_fault c.args.text.now c.loop-line.taken c.loop-line.phase c.loop-line.seen c.loop-line.rest.now c.in-Some.line.now c.in-Some.more.now c.loop-line.invariant (c.in-Some.ensures.first, c.in-Some.ensures.rest) (rw c.in_default-2.is at c.in_ok-after.ensures.took)

pub returns-in-Some-complete : goal.returns-in-Some-complete
returns-in-Some-complete c =
    so_far_whole c.args.text.now c.loop-line.taken c.loop-line.phase c.in-Some-2.after c.loop-line.seen c.take_line.new.seen c.into_components.result.items c.loop-line.rest.now c.in-Some.line.now c.in-Some.more.now c.in-Some-complete.head c.loop-line.invariant (c.in-Some.ensures.first, c.in-Some.ensures.rest)
    (rw c.in-Some-2.is at c.in_ok-after.ensures.took) (sym c.in-Some-complete.ensures) c.into_components.ensures.same

pub loop-line-smaller : goal.loop-line-smaller
loop-line-smaller c = next_shorter c.loop-line.rest.now c.in-Some.line.now c.in-Some.more.now (c.in-Some.ensures.first, c.in-Some.ensures.rest)

pub loop-line-preserved : goal.loop-line-preserved
loop-line-preserved c =
    so_far_more c.args.text.now c.loop-line.taken c.loop-line.phase c.in-Some-2.after c.loop-line.seen c.take_line.new.seen c.loop-line.rest.now c.in-Some.line.now c.in-Some.more.now c.loop-line.invariant (c.in-Some.ensures.first, c.in-Some.ensures.rest)
    (rw c.in-Some-2.is at c.in_ok-after.ensures.took) (rw c.in-Some-2.is at c.in_ok-after.ensures.small) (sym c.in_default-complete.ensures)

pub returns : goal.returns
returns c = so_far_end c.args.text.now c.loop-line.taken c.loop-line.phase c.loop-line.seen c.loop-line.rest.now c.loop-line.invariant c.in_default.ensures.first
