use Rattle.std.proofs.Common.{◌≡◌, take}
use Rattle.std.specs.Io.KnownBytes.{Appends}
use Rattle.flr_world.specs.Reports.{text_of_entries}
use Rattle.flr_world.proofs.report.write_entries.Given as goal

abbrev pub invariant-loop-entry : goal.invariant-loop-entry
invariant-loop-entry g l = record {
  taken : Appends (g.K.Sink.taken l.fn.out) (g.K.Sink.taken l.out) (text_of_entries l.script (take l.entry-index l.entries));
  kept : g.K.Sink.faults l.out ≡ g.K.Sink.faults l.fn.out;
}
