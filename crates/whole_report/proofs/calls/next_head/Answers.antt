use Rattle.std.proofs.Common.{Some, refl}
use Rattle.whole_report.proofs.CallLaws.{may_say}
use Rattle.whole_report.proofs.calls.next_head.Goals as goal

pub returns-then-may_come : goal.returns-then-may_come
returns-then-may_come c = λ head. may_say c.args.after c.args.line.now (Some c.in-Some.head) c.in-Some.head head c.may_come.result (rw c.in-Some.is at c.in_ok-head.ensures.spelled) refl c.may_come.ensures c.if-may_come.true
