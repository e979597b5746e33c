-- What is claimed of every run.
use Rattle.std.specs.Prelude.{◌≤◌, length}
use Rattle.script_values.specs.Scripts.{ScriptView, IsScript}
use Rattle.flr_steps.specs.States.{State, IsRun}
use Rattle.flr_bound.specs.Numbers.{AreNamed, AreWithin, HasRoom, stripes_named}

-- in every state all numbers are within these bounds
abbrev pub NumbersAreWithin : Type 0
NumbersAreWithin = (s : State) → IsRun s → AreWithin s.script (length s.schedule) s.shared

-- in every state no more stripes are there than the begun commands name
abbrev pub StripesAreNamed : Type 0
StripesAreNamed = (s : State) → IsRun s → AreNamed s

-- the commands of a script name at most 2 ^ 29 stripes
abbrev pub ScriptsNameFew : Type 0
ScriptsNameFew = (script : ScriptView) → IsScript script → stripes_named script ≤ 536870912

-- after at most one place more than a script may have work, there is room for whatever comes next
abbrev pub ShortRunsHaveRoom : Type 0
ShortRunsHaveRoom = (s : State) → IsRun s → length s.schedule ≤ 8388609 → HasRoom s.shared
