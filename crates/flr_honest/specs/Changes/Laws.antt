-- What is claimed of the steps of every run, and of where objects stand in it.
use Rattle.flr_steps.specs.States.{IsRun, State}
use Rattle.flr_claims.specs.Claims.{CommandsChangeTheirFiles, EvictionsTakeTheirs, ObjectsAreApart, StaleIsClearedByCopies}

-- after every run no object stands twice
abbrev pub ObjectsStayApart : Type 0
ObjectsStayApart = (s : State) → IsRun s → ObjectsAreApart s

-- each eviction of a run took what its client held and nothing else, and nobody lost a lock or a lease in another way
abbrev pub RunsTakeTheirs : Type 0
RunsTakeTheirs = (s : State) → IsRun s → EvictionsTakeTheirs s

-- what was stale became fresh only by the end of a copy that cleared it
abbrev pub RunsClearByCopies : Type 0
RunsClearByCopies = (s : State) → IsRun s → StaleIsClearedByCopies s

-- each step of a run made, changed and took away just what its command is for
abbrev pub RunsChangeTheirFiles : Type 0
RunsChangeTheirFiles = (s : State) → IsRun s → CommandsChangeTheirFiles s
