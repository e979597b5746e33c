-- Each byte so far has a source.
use Rattle.std.proofs.Common.{◌≤◌, ◌-◌}
use Rattle.layout_state.specs.Selecting.{AreSourced}
use Rattle.layout_state.proofs.select.is_sourced.Given as goal

abbrev pub invariant-loop-at : goal.invariant-loop-at
invariant-loop-at l = record { onward : l.range.start ≤ l.at; sourced : AreSourced l.components l.range.start l.at }

abbrev pub decreases-loop-at : goal.decreases-loop-at
decreases-loop-at l = l.range.end - l.at
