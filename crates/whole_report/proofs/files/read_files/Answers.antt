use Rattle.std.proofs.Common.{sym, ◌∙◌}
use Rattle.whole_report.proofs.FileLaws.{files_more, files_shorter, files_end, files_fault}
use Rattle.whole_report.proofs.files.read_files.Goals as goal

pub loop-alloc-smaller : goal.loop-alloc-smaller
loop-alloc-smaller c = files_shorter c.loop-alloc.rest.now c.in-Ok.told.0 c.in-Ok.told.1.now c.in-Ok.ensures.read

pub loop-alloc-preserved : goal.loop-alloc-preserved
loop-alloc-preserved c = rw c.in_ok-push-in-Ok.ensures.appended (files_more c.args.text.now c.loop-alloc.files c.loop-alloc.rest.now c.in-Ok.told.0 c.in-Ok.told.1.now c.loop-alloc.invariant c.in-Ok.ensures.read)

pub returns-in-Err : goal.returns-in-Err
returns-in-Err c = files_fault c.args.text.now c.loop-alloc.files c.loop-alloc.rest.now c.in-Err.error c.further.result c.loop-alloc.invariant (sym c.begins.ensures ∙ c.loop-alloc-test.true) c.in-Err.ensures.bad c.further.ensures

pub returns : goal.returns
returns c = files_end c.args.text.now c.loop-alloc.files c.loop-alloc.rest.now c.loop-alloc.invariant (sym c.begins.ensures ∙ c.loop-alloc-test.false)
