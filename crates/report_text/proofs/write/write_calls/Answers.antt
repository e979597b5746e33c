use Rattle.std.proofs.Common.{ℕ, List, rules}
use Rattle.report_text.specs.declared.report.Call.{Call}
use Rattle.report_text.specs.Texts.{text_of_call}
use Rattle.report_text.proofs.Writes.{writes_item, taken_item}
use Rattle.report_text.proofs.write.write_calls.Goals as goal

abbrev text : Call → List ℕ
text = λ (c : Call). text_of_call c.entry c.command

pub returns-in_err-write_call-clause-front : goal.returns-in_err-write_call-clause-front
returns-in_err-write_call-clause-front g c =
    writes_item text c.args.calls.now c.loop-call.call-index c.call-item.result (g.K.Sink.taken c.args.out.now) (g.K.Sink.taken c.loop-call.out) (g.K.Sink.taken c.write_call.new.out) c.in_err-write_call.field-0.0 c.from_residual.result c.loop-call-test.true c.call-item.is c.from_residual.ensures.0
    c.loop-call.invariant.taken c.in_err-write_call.ensures.front

pub loop-call-preserved : goal.loop-call-preserved
loop-call-preserved g c = record {
  taken = taken_item text c.args.calls.now c.loop-call.call-index c.call-item.result (g.K.Sink.taken c.args.out.now) (g.K.Sink.taken c.loop-call.out) (g.K.Sink.taken c.write_call.new.out) c.in_ok-write_call.field-0 c.loop-call-test.true c.call-item.is c.loop-call.invariant.taken c.in_ok-write_call.ensures.front;
  kept = search rules;
}
