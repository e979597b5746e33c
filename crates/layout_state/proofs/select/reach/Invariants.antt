-- Each byte up to the end so far has a source, and without one no component so far is a source.
use Rattle.std.proofs.Common.{◌≡◌, ◌≤◌, false, take}
use Rattle.std.specs.List.{list_any}
use Rattle.layout_state.specs.Selecting.{AreSourced, is_source}
use Rattle.layout_state.proofs.select.reach.Given as goal

abbrev pub invariant-loop-component : goal.invariant-loop-component
invariant-loop-component l = record {
  least : l.byte ≤ l.end;
  sourced : AreSourced l.components l.byte l.end;
  stuck : l.end ≡ l.byte → list_any (is_source l.byte) (take l.component-index l.components) ≡ false;
}
