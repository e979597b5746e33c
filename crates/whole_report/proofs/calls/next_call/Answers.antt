use Rattle.std.proofs.Common.{None, Some, refl}
use Rattle.whole_report.proofs.CallLaws.{no_line, no_head, call_found, stop_found}
use Rattle.whole_report.proofs.calls.next_call.Goals as goal

pub returns-in_default : goal.returns-in_default
returns-in_default c = no_line c.args.after c.args.text.now c.requires c.in_default.ensures.first

pub returns-in_default-2 : goal.returns-in_default-2
returns-in_default-2 c = no_head c.args.after c.args.text.now c.in-Some.line.now c.in-Some.rest.now None c.requires c.in-Some.ensures.first (rw c.in_default-2.is at c.in_ok-head.ensures) refl

pub returns-in-Ok : goal.returns-in-Ok
returns-in-Ok c =
    call_found c.args.after c.args.text.now c.in-Some.line.now c.in-Some.rest.now c.in-Ok.told.1.now (Some c.in-Some-2.head) c.in-Some-2.head c.in-Ok.told.0.0 c.in-Ok.told.0.1 c.in-Some.ensures.rest (rw c.in-Some-2.is at c.in_ok-head.ensures) refl c.in-Ok.ensures.read

pub returns-in-Err : goal.returns-in-Err
returns-in-Err c =
    stop_found c.args.after c.args.text.now c.in-Some.line.now c.in-Some.rest.now (Some c.in-Some-2.head) c.in-Some-2.head c.in-Err.error c.further.result c.in-Some.ensures.rest (rw c.in-Some-2.is at c.in_ok-head.ensures) refl c.in-Err.ensures.read c.further.ensures
