use Rattle.std.proofs.Common.{◌≡◌, max, take}
use Rattle.script_values.specs.Work.{greatest_by, capped}
use Rattle.script_values.proofs.measure.greatest_from.Given as goal

abbrev pub invariant-loop-command : goal.invariant-loop-command
invariant-loop-command g l = l.most ≡ max l.start (capped (greatest_by (g.M.Measure.measure l.measure) (take l.command-index l.commands)))
