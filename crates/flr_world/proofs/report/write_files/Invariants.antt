use Rattle.std.proofs.Common.{◌≡◌, take}
use Rattle.std.specs.Io.KnownBytes.{Appends}
use Rattle.flr_world.specs.Reports.{text_of_kept_files}
use Rattle.flr_world.proofs.report.write_files.Given as goal

abbrev pub invariant-loop-k : goal.invariant-loop-k
invariant-loop-k g l = record {
  taken : Appends (g.K.Sink.taken l.fn.out) (g.K.Sink.taken l.out) (text_of_kept_files (take l.k l.meta.files));
  kept : g.K.Sink.faults l.out ≡ g.K.Sink.faults l.fn.out;
}
