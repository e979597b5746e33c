use Rattle.std.proofs.Common.{subst}
use Rattle.script_values.specs.Scripts.{IsScript}
use Rattle.script_values.proofs.script.Script.commands.Goals as goal

pub returns-clause-limits : goal.returns-clause-limits
returns-clause-limits c = subst IsScript c.self.view_is c.self.invariant
