-- What is claimed of every run without rot.
use Rattle.std.specs.Prelude.{◌≡◌, false}
use Rattle.flr_steps.specs.States.{IsRun, State}
use Rattle.flr_steps.specs.Traces.{trace_after}
use Rattle.flr_claims.specs.Causes.{has_rot}
use Rattle.flr_claims.specs.Honesty.{IsHonest}
use Rattle.flr_bytes.specs.Laws.{StepsKeepHonest}
use Rattle.flr_bytes.specs.Runs.{Honest}

-- each step keeps what is known of bytes
abbrev pub StepsStayHonest : Type 0
StepsStayHonest = StepsKeepHonest

-- after every run the files hold the plain files' bytes, what has landed stays, and each call knows of bytes what its phase says
abbrev pub RunsAreHonest : Type 0
RunsAreHonest = (s : State) → IsRun s → has_rot s.script ≡ false → Honest s (trace_after s.script s.schedule)

-- so one file after the other is honest against its plain file
abbrev pub RunsHoldPlainFiles : Type 0
RunsHoldPlainFiles = (s : State) → IsRun s → has_rot s.script ≡ false → IsHonest s (trace_after s.script s.schedule)
