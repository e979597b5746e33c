use Rattle.std.proofs.Common.{None, Some, refl}
use Rattle.report_read.proofs.FileLaws.{no_line, no_head, file_found, stop_found}
use Rattle.report_read.proofs.file.front.Goals as goal

pub returns-in_default : goal.returns-in_default
returns-in_default c = no_line c.args.text.now c.in_default.ensures.first

pub returns-in_default-2 : goal.returns-in_default-2
returns-in_default-2 c = no_head c.args.text.now c.in-Some.line.now c.in-Some.rest.now None c.in-Some.ensures.first (rw c.in_default-2.is at c.in_ok-head.ensures.spelled) refl

pub returns-in-Ok : goal.returns-in-Ok
returns-in-Ok c =
    file_found c.args.text.now c.in-Some.line.now c.in-Some.rest.now c.in-Ok.told.1.now (Some c.in-Some-2.head) c.in-Some-2.head c.in-Ok.told.0 c.in-Some.ensures.rest (rw c.in-Some-2.is at c.in_ok-head.ensures.spelled) refl c.in-Ok.ensures

pub returns-in-Err : goal.returns-in-Err
returns-in-Err c =
    stop_found c.args.text.now c.in-Some.line.now c.in-Some.rest.now (Some c.in-Some-2.head) c.in-Some-2.head c.in-Err.error c.line_on.result c.in-Some.ensures.first (rw c.in-Some-2.is at c.in_ok-head.ensures.spelled) refl c.in-Err.ensures c.line_on.ensures
