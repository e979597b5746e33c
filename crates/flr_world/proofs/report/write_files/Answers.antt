use Rattle.std.proofs.Common.{◌<◌, List, ℕ, Err, length, subst, arith}
use Rattle.flr_base.specs.Streams.{WritesFront}
use Rattle.meta_server.specs.Files.{File, file_at}
use Rattle.report_text.specs.declared.error.WriteError.{WriteError}
use Rattle.report_text.specs.Texts.{text_of_file}
use Rattle.report_text.proofs.Writes.{writes_item}
use Rattle.flr_world.proofs.Reports.{file_text, file_there}
use Rattle.flr_world.proofs.report.write_files.Goals as goal

pub returns-in_err-write_file-clause-front : goal.returns-in_err-write_file-clause-front
returns-in_err-write_file-clause-front g c =
    let files = c.args.meta.now.files in
    let f : File = file_at files c.loop-k.k in
    let less : c.loop-k.k < length files = (let near = c.loop-k-test.true in let many = c.files-k-end.ensures.count in omega (arith, near, many)) in
    let text = file_text f c.file_at-size.result.0.now c.file_at-size.result.1 c.file_at-size.result.2.now c.file_at-size.ensures.name c.file_at-size.ensures.size c.file_at-size.ensures.layout in
    let front = subst (λ (xs : List ℕ). WritesFront {E = WriteError} (g.K.Sink.taken c.loop-k.out) (g.K.Sink.taken c.write_file.new.out) (Err c.in_err-write_file.field-0.0) xs) text c.in_err-write_file.ensures.front in
    writes_item (λ (f : File). text_of_file f.name f.size f.layout) files c.loop-k.k f (g.K.Sink.taken c.args.out.now) (g.K.Sink.taken c.loop-k.out) (g.K.Sink.taken c.write_file.new.out) c.in_err-write_file.field-0.0 c.from_residual.result less (file_there files c.loop-k.k f less) c.from_residual.ensures.0 c.loop-k.invariant.taken front
