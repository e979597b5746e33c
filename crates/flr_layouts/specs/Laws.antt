-- What is claimed of the layouts of files, in states and of steps.
use Rattle.std.specs.Prelude.{ℕ, length}
use Rattle.std.specs.List.{AllByRecursion}
use Rattle.meta_server.specs.Files.{File}
use Rattle.meta_laws.specs.Layouts.{AreExplained}
use Rattle.flr_steps.specs.States.{IsRun, State}
use Rattle.flr_steps.specs.Steps.{StepIs}
use Rattle.flr_numbers.specs.Laws.{LeaveRoom}
use Rattle.flr_layouts.specs.Sentences.{IsSoundLayout}

-- after a run the layout of each file is sound, where no run that isn't longer wants room
abbrev pub LayoutsAreSound : Type 0
LayoutsAreSound = (s : State) → IsRun s → LeaveRoom (length s.schedule) → AllByRecursion (λ (f : File). IsSoundLayout f.layout) s.shared.meta.files

-- and the layout of each file that is there after one more step comes from what was there before it
abbrev pub StepsExplainLayouts : Type 0
StepsExplainLayouts = (s t : State) (c : ℕ) → IsRun s → LeaveRoom (length s.schedule) → StepIs s c t → AreExplained s.shared.meta t.shared.meta.files
