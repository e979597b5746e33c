use Rattle.std.proofs.Common.{◌≡◌, take}
use Rattle.std.specs.Io.KnownBytes.{Appends}
use Rattle.report_text.specs.Texts.{text_of_files}
use Rattle.report_text.proofs.write.write_files.Given as goal

abbrev pub invariant-loop-file : goal.invariant-loop-file
invariant-loop-file g l = record {
  taken : Appends (g.K.Sink.taken l.fn.out) (g.K.Sink.taken l.out) (text_of_files (take l.file-index l.files));
  kept : g.K.Sink.faults l.out ≡ g.K.Sink.faults l.fn.out;
}
