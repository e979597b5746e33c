use Rattle.std.proofs.Common.{◌-◌, length}
use Rattle.flr_base.proofs.RunLaws.{Grouped}
use Rattle.flr_base.proofs.runs.printing.group.Given as goal

abbrev pub invariant-loop-done : goal.invariant-loop-done
invariant-loop-done l = Grouped l.bytes l.done l.runs.items

abbrev pub decreases-loop-done : goal.decreases-loop-done
decreases-loop-done l = length l.bytes - l.done
