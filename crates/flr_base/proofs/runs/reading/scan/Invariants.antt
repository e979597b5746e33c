use Rattle.std.proofs.Common.{◌≡◌, [], take, Some, None}
use Rattle.flr_base.proofs.Machine.{run}
use Rattle.flr_base.specs.declared.runs.scan.Phase.TheVariants.{Start}
use Rattle.flr_base.specs.Scan.{step, last_after}
use Rattle.flr_base.proofs.runs.reading.scan.Given as goal

abbrev pub invariant-loop-at : goal.invariant-loop-at
invariant-loop-at l = record {
  state : run step ([], Start) (take l.at l.text) ≡ Some (l.runs.items, l.phase);
  last : l.last ≡ last_after None l.runs.items;
}
