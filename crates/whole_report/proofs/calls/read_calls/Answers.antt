use Rattle.std.proofs.Common.{sym, ◌∙◌}
use Rattle.whole_report.proofs.CallLaws.{calls_more, calls_shorter, calls_end, calls_fault}
use Rattle.whole_report.proofs.calls.read_calls.Goals as goal

pub loop-alloc-smaller : goal.loop-alloc-smaller
loop-alloc-smaller c = calls_shorter c.loop-alloc.after c.loop-alloc.rest.now c.in-Ok.told.0 c.in-Ok.told.1.now c.in-Ok.ensures

pub loop-alloc-preserved : goal.loop-alloc-preserved
loop-alloc-preserved c = rw (c.in_ok-push-in-Ok.ensures.appended, c.max-top.ensures) (calls_more c.args.text.now c.loop-alloc.calls c.loop-alloc.after c.loop-alloc.top c.loop-alloc.rest.now c.in-Ok.told.0 c.in-Ok.told.1.now c.loop-alloc.invariant c.in-Ok.ensures)

pub returns-in-Err : goal.returns-in-Err
returns-in-Err c = calls_fault c.args.text.now c.loop-alloc.calls c.loop-alloc.after c.loop-alloc.top c.loop-alloc.rest.now c.in-Err.error c.further.result c.loop-alloc.invariant c.in-Err.ensures c.further.ensures

pub returns : goal.returns
returns c = calls_end c.args.text.now c.loop-alloc.calls c.loop-alloc.after c.loop-alloc.top c.loop-alloc.rest.now c.loop-alloc.invariant (sym c.begins.ensures ∙ c.loop-alloc-test.false)
