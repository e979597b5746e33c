use Rattle.std.proofs.Common.{None, Some, refl, arith}
use Rattle.layout_text.proofs.ReadLaws.{not_empty}
use Rattle.whole_report.proofs.LastLaws.{no_line, no_schedule, too_short, too_long, no_bytes, last_found}
use Rattle.whole_report.proofs.last.last_line.Goals as goal

pub returns-in_default : goal.returns-in_default
returns-in_default c = no_line c.args.top c.args.text.now (omega arith) c.in_default.ensures.first

pub returns-in_default-2 : goal.returns-in_default-2
returns-in_default-2 c = no_schedule c.args.top c.args.text.now c.in-Some.line.now c.in-Some.rest.now None (omega arith) c.in-Some.ensures.first (rw c.in_default-2.is at c.in_ok-schedule.ensures.spelled) refl

pub returns-then-len-top : goal.returns-then-len-top
returns-then-len-top c =
    too_short c.args.top c.args.text.now c.in-Some.line.now c.in-Some.rest.now (Some c.in-Some-2.schedule) c.in-Some-2.schedule (omega arith) c.in-Some.ensures.first (rw c.in-Some-2.is at c.in_ok-schedule.ensures.spelled) refl (rw c.len.ensures.count at c.if-len-top.true)

pub returns-then-not-is_empty : goal.returns-then-not-is_empty
returns-then-not-is_empty c =
    too_long c.args.top c.args.text.now c.in-Some.line.now c.in-Some.rest.now (Some c.in-Some-2.schedule) c.in-Some-2.schedule c.in-Some.ensures.first (rw c.in-Some-2.is at c.in_ok-schedule.ensures.spelled) refl (rw c.len.ensures.count at c.if-len-top.false)
    (not_empty c.in-Some.rest.now c.is_empty.result c.is_empty.ensures c.if-not-is_empty.true)

pub returns : goal.returns
returns c =
    last_found c.args.top c.args.text.now c.in-Some.line.now c.in-Some.rest.now (Some c.in-Some-2.schedule) c.in-Some-2.schedule c.in-Some.ensures.rest (rw c.in-Some-2.is at c.in_ok-schedule.ensures.spelled) refl (rw c.len.ensures.count at c.if-len-top.false)
    (no_bytes c.in-Some.rest.now c.is_empty.result c.is_empty.ensures c.if-not-is_empty.false)
