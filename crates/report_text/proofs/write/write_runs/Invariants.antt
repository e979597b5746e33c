use Rattle.std.proofs.Common.{◌≡◌, ◌++◌, List, ℕ, length}
use Rattle.std.specs.Io.KnownBytes.{Appends}
use Rattle.report_text.specs.Texts.{runs_words}
use Rattle.report_text.proofs.write.write_runs.Given as goal

abbrev pub invariant-loop-rest : goal.invariant-loop-rest
invariant-loop-rest g l = record {
  taken : (x : List ℕ) × (runs_words l.schedule ≡ x ++ runs_words l.rest) × Appends (g.K.Sink.taken l.fn.out) (g.K.Sink.taken l.out) x;
  kept : g.K.Sink.faults l.out ≡ g.K.Sink.faults l.fn.out;
}

abbrev pub decreases-loop-rest : goal.decreases-loop-rest
decreases-loop-rest g l = length l.rest
