use Rattle.std.proofs.Common.{◌≡◌, take}
use Rattle.std.specs.Io.KnownBytes.{Appends}
use Rattle.report_text.specs.Texts.{text_of_calls}
use Rattle.report_text.proofs.write.write_calls.Given as goal

abbrev pub invariant-loop-call : goal.invariant-loop-call
invariant-loop-call g l = record {
  taken : Appends (g.K.Sink.taken l.fn.out) (g.K.Sink.taken l.out) (text_of_calls (take l.call-index l.calls));
  kept : g.K.Sink.faults l.out ≡ g.K.Sink.faults l.fn.out;
}
