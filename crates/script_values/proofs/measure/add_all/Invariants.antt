use Rattle.std.proofs.Common.{◌≡◌, ◌+◌, take}
use Rattle.std.specs.List.{sum_by}
use Rattle.script_values.specs.Work.{capped}
use Rattle.script_values.proofs.measure.add_all.Given as goal

abbrev pub invariant-loop-command : goal.invariant-loop-command
invariant-loop-command g l = l.sum ≡ capped (l.start + sum_by (g.M.Measure.measure l.measure) (take l.command-index l.commands))
