use Rattle.std.proofs.Common.{◌≡◌, take}
use Rattle.std.specs.List.{sum_by}
use Rattle.script_values.specs.Scripts.{all_commands}
use Rattle.script_values.specs.Work.{capped}
use Rattle.script_values.proofs.measure.sum_of.Given as goal

abbrev pub invariant-loop-own : goal.invariant-loop-own
invariant-loop-own g l = l.sum ≡ capped (sum_by (g.M.Measure.measure l.measure) (all_commands (take l.own-index l.clients)))
