use Rattle.whole_report.proofs.ReportLaws.{body_found, last_wrong, files_wrong}
use Rattle.whole_report.proofs.read.body.Goals as goal

pub returns-in-Ok-last_line : goal.returns-in-Ok-last_line
returns-in-Ok-last_line c =
    body_found c.args.text.now c.in_ok-calls.behind.now c.in-Ok.told.1.now c.in_ok-calls.calls c.in-Ok.told.0 c.in_ok-calls.top c.in-Ok-last_line.schedule c.in_ok-calls.ensures c.in-Ok.ensures c.in-Ok-last_line.ensures

pub returns-in-Err-last_line : goal.returns-in-Err-last_line
returns-in-Err-last_line c =
    last_wrong c.args.text.now c.in_ok-calls.behind.now c.in-Ok.told.1.now c.in_ok-calls.calls c.in-Ok.told.0 c.in_ok-calls.top c.in-Err-last_line.error c.further.result c.in_ok-calls.ensures c.in-Ok.ensures c.in-Err-last_line.ensures c.further.ensures

pub returns-in-Err : goal.returns-in-Err
returns-in-Err c = files_wrong c.args.text.now c.in_ok-calls.behind.now c.in_ok-calls.calls c.in_ok-calls.top c.in-Err.error c.further-in-Err.result c.in_ok-calls.ensures c.in-Err.ensures c.further-in-Err.ensures
