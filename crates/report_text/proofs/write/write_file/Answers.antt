use Rattle.std.proofs.Common.{◌∙◌}
use Rattle.layout_text.specs.Texts.{text_of_layout}
use Rattle.report_text.specs.Texts.{file_head, text_of_file}
use Rattle.report_text.proofs.Parts.{file_parts}
use Rattle.report_text.proofs.Writes.{two_cut, two_whole}
use Rattle.report_text.proofs.write.write_file.Goals as goal

pub returns-in_err-write_text-clause-front : goal.returns-in_err-write_text-clause-front
returns-in_err-write_text-clause-front g c =
    two_cut (g.K.Sink.taken c.args.out.now) (g.K.Sink.taken c.write_text.new.out) c.in_err-write_text.field-0.0 c.from_residual-in_err-write_text.result (file_head c.args.name.now c.args.size) (text_of_layout c.args.layout.now) (text_of_file c.args.name.now c.args.size c.args.layout.now) c.deref.result.now
    (file_parts c.args.name.now c.args.size c.args.layout.now) (c.deref.ensures.value ∙ c.in_ok-line.ensures) c.from_residual-in_err-write_text.ensures.0 c.in_err-write_text.ensures.front

pub returns-clause-front : goal.returns-clause-front
returns-clause-front g c =
    two_whole (g.K.Sink.taken c.args.out.now) (g.K.Sink.taken c.write_text.new.out) (g.K.Sink.taken c.write_text-2.new.out) c.in_ok-write_text.field-0 c.write_text-2.result (file_head c.args.name.now c.args.size) (text_of_layout c.args.layout.now) (text_of_file c.args.name.now c.args.size c.args.layout.now) c.deref.result.now c.as_slice.result.now
    (file_parts c.args.name.now c.args.size c.args.layout.now) (c.deref.ensures.value ∙ c.in_ok-line.ensures) (c.as_slice.ensures.same ∙ c.in_ok-text.ensures.exact) c.in_ok-write_text.ensures.front c.write_text-2.ensures.front
