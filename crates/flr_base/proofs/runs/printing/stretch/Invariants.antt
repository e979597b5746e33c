use Rattle.std.proofs.Common.{◌≡◌, ◌-◌, ◌≤◌, length, take, replicate}
use Rattle.flr_base.proofs.runs.printing.stretch.Given as goal

abbrev pub invariant-loop-done : goal.invariant-loop-done
invariant-loop-done l = record {
  within : l.done ≤ length l.bytes;
  same : take l.done l.bytes ≡ replicate l.done l.byte;
}

abbrev pub decreases-loop-done : goal.decreases-loop-done
decreases-loop-done l = length l.bytes - l.done
