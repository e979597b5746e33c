use Rattle.std.proofs.Common.{rules}
use Rattle.report_text.proofs.Writes.{writes_item, taken_item}
use Rattle.flr_world.specs.Reports.{text_of_entry}
use Rattle.flr_world.proofs.report.write_entries.Goals as goal

pub returns-in_err-write_entry-clause-front : goal.returns-in_err-write_entry-clause-front
returns-in_err-write_entry-clause-front g c =
    writes_item (text_of_entry c.args.script.now) c.args.entries.now c.loop-entry.entry-index c.entry-item.result (g.K.Sink.taken c.args.out.now) (g.K.Sink.taken c.loop-entry.out) (g.K.Sink.taken c.write_entry.new.out) c.in_err-write_entry.field-0.0 c.from_residual.result c.loop-entry-test.true c.entry-item.is
    c.from_residual.ensures.0 c.loop-entry.invariant.taken c.in_err-write_entry.ensures.front

pub loop-entry-preserved : goal.loop-entry-preserved
loop-entry-preserved g c = record {
  taken = taken_item (text_of_entry c.args.script.now) c.args.entries.now c.loop-entry.entry-index c.entry-item.result (g.K.Sink.taken c.args.out.now) (g.K.Sink.taken c.loop-entry.out) (g.K.Sink.taken c.write_entry.new.out) c.in_ok-write_entry.field-0 c.loop-entry-test.true c.entry-item.is c.loop-entry.invariant.taken c.in_ok-write_entry.ensures.front;
  kept = search rules;
}
