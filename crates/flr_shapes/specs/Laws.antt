-- What is claimed of the shapes of objects, in states, of steps and after runs.
use Rattle.std.specs.Prelude.{ℕ, length}
use Rattle.composite_layout.specs.Layouts.{Composite}
use Rattle.script_values.specs.Scripts.{IsScript, ScriptView}
use Rattle.flr_steps.specs.States.{IsRun, State, start}
use Rattle.flr_steps.specs.Steps.{StepIs}
use Rattle.flr_numbers.specs.Hands.{AreMade}
use Rattle.flr_numbers.specs.Laws.{LeaveRoom}
use Rattle.flr_numbers.specs.Sentences.{HasRoom, Holds}
use Rattle.flr_shapes.specs.Sentences.{Agree, AgreesWith, HaveOneShape, Keeps}

-- before any step an object has one shape in all the files
abbrev pub StartAgrees : Type 0
StartAgrees = (script : ScriptView) → IsScript script → Agree (start script).shared.meta (start script).shared.meta

-- each step for which there is room keeps the shapes of the objects that were made
abbrev pub StepsKeep : Type 0
StepsKeep = (s t : State) (c : ℕ) → Holds s → HasRoom s.shared → StepIs s c t → Keeps s.shared.meta t.shared.meta

-- so an object has one shape in the files before the step and in those after it
abbrev pub StepsAgree : Type 0
StepsAgree = (s t : State) (c : ℕ) → Holds s → HasRoom s.shared → StepIs s c t → Agree s.shared.meta t.shared.meta

-- a layout that was got before the step, whose objects were made and have their shapes in the files, still agrees with the files after it
abbrev pub StepsAgreeWith : Type 0
StepsAgreeWith = (s t : State) (c : ℕ) → Holds s → HasRoom s.shared → StepIs s c t → (l : Composite) → AreMade s.shared.meta l → AgreesWith s.shared.meta l → AgreesWith t.shared.meta l

-- after a run an object has one shape in all the files, where no run that isn't longer wants room
abbrev pub RunsAgree : Type 0
RunsAgree = (s : State) → IsRun s → LeaveRoom (length s.schedule) → Agree s.shared.meta s.shared.meta

-- before any step an object has one shape in all the files, and no call has a layout in hand
abbrev pub StartHasOneShape : Type 0
StartHasOneShape = (script : ScriptView) → IsScript script → HaveOneShape (start script)

-- each step for which there is room leaves each object with one shape in the files and in the layouts in hand
abbrev pub StepsLeaveOneShape : Type 0
StepsLeaveOneShape = (s t : State) (c : ℕ) → Holds s → HasRoom s.shared → HaveOneShape s → StepIs s c t → HaveOneShape t

-- so it is after a run, where no run that isn't longer wants room
abbrev pub RunsLeaveOneShape : Type 0
RunsLeaveOneShape = (s : State) → IsRun s → LeaveRoom (length s.schedule) → HaveOneShape s
