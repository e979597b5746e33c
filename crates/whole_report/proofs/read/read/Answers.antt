use Rattle.whole_report.proofs.ReportLaws.{no_line, no_head, other_line, this_line, report_found, body_wrong}
use Rattle.whole_report.proofs.read.read.Goals as goal

pub returns-in_default : goal.returns-in_default
returns-in_default c = no_line c.args.text.now c.in_default.ensures.first

pub returns-then-ne : goal.returns-then-ne
returns-then-ne c = no_head c.args.text.now c.in-Some.line.now c.in-Some.rest.now c.in-Some.ensures.first (other_line c.in-Some.line.now c.as_slice.result.now c.ne.result c.ne.ensures c.if-ne.true c.as_slice.ensures)

pub returns-in-Ok : goal.returns-in-Ok
returns-in-Ok c = report_found c.args.text.now c.in-Some.line.now c.in-Some.rest.now c.in-Ok.report c.in-Some.ensures.rest (this_line c.in-Some.line.now c.as_slice.result.now c.ne.result c.ne.ensures c.if-ne.false c.as_slice.ensures) c.in-Ok.ensures

pub returns-in-Err : goal.returns-in-Err
returns-in-Err c = body_wrong c.args.text.now c.in-Some.line.now c.in-Some.rest.now c.in-Err.error c.further.result c.in-Some.ensures.rest (this_line c.in-Some.line.now c.as_slice.result.now c.ne.result c.ne.ensures c.if-ne.false c.as_slice.ensures) c.in-Err.ensures c.further.ensures
