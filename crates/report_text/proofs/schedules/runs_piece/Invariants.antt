use Rattle.std.proofs.Common.{◌≡◌, ◌≤◌, ◌++◌, length}
use Rattle.report_text.specs.Texts.{runs_words}
use Rattle.report_text.proofs.schedules.runs_piece.Given as goal

abbrev pub invariant-loop-rest : goal.invariant-loop-rest
invariant-loop-rest l = record {
  words : runs_words l.schedule ≡ l.piece.items ++ runs_words l.rest;
  fewer : length l.rest ≤ length l.schedule;
}

abbrev pub decreases-loop-rest : goal.decreases-loop-rest
decreases-loop-rest l = length l.rest
