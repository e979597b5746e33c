use Rattle.std.proofs.Common.{ℕ, List, rules}
use Rattle.report_text.specs.declared.report.FileLine.{FileLine}
use Rattle.report_text.specs.Texts.{text_of_file}
use Rattle.report_text.proofs.Writes.{writes_item, taken_item}
use Rattle.report_text.proofs.write.write_files.Goals as goal

abbrev text : FileLine → List ℕ
text = λ (f : FileLine). text_of_file f.name f.size f.layout

pub returns-in_err-write_file-clause-front : goal.returns-in_err-write_file-clause-front
returns-in_err-write_file-clause-front g c =
    writes_item text c.args.files.now c.loop-file.file-index c.file-item.result (g.K.Sink.taken c.args.out.now) (g.K.Sink.taken c.loop-file.out) (g.K.Sink.taken c.write_file.new.out) c.in_err-write_file.field-0.0 c.from_residual.result c.loop-file-test.true c.file-item.is c.from_residual.ensures.0
    c.loop-file.invariant.taken c.in_err-write_file.ensures.front

pub loop-file-preserved : goal.loop-file-preserved
loop-file-preserved g c = record {
  taken = taken_item text c.args.files.now c.loop-file.file-index c.file-item.result (g.K.Sink.taken c.args.out.now) (g.K.Sink.taken c.loop-file.out) (g.K.Sink.taken c.write_file.new.out) c.in_ok-write_file.field-0 c.loop-file-test.true c.file-item.is c.loop-file.invariant.taken c.in_ok-write_file.ensures.front;
  kept = search rules;
}
