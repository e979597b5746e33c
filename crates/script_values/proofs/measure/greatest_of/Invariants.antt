use Rattle.std.proofs.Common.{◌≡◌, take}
use Rattle.script_values.specs.Scripts.{all_commands}
use Rattle.script_values.specs.Work.{greatest_by, capped}
use Rattle.script_values.proofs.measure.greatest_of.Given as goal

abbrev pub invariant-loop-own : goal.invariant-loop-own
invariant-loop-own g l = l.most ≡ capped (greatest_by (g.M.Measure.measure l.measure) (all_commands (take l.own-index l.clients)))
