-- Every run is sound.
use Rattle.std.proofs.Common.{length}
use Rattle.flr_steps.specs.States.{IsRun, State}
use Rattle.flr_steps.proofs.Fronts.{fronts_are_runs}
use Rattle.flr_steps.proofs.Inversion.{step_is}
use Rattle.flr_honest.proofs.Runs.{runs_hold_plain}
use Rattle.flr_layouts.proofs.Steps.{steps_explained}
use Rattle.flr_live.proofs.Ending.{never_stuck}
use Rattle.flr_past.proofs.Runs.{runs_are_in_order}
use Rattle.flr_runs.proofs.Runs.{all_hold, runs_leave, runs_short}
use Rattle.flr_sole.proofs.Runs.{runs_hold_alone}
use Rattle.flr_honest.proofs.Legal.Runs.{runs_are_linear, runs_judge_all}
use Rattle.flr_claims.specs.Claims.{ChangesAreExplained}
use Rattle.flr_honest.proofs.Causes.{runs_answer_alone, runs_have_causes, runs_refuse_first, runs_tell_what_they_read}
use Rattle.flr_honest.proofs.Changes.Clearing.{runs_clear_by_copies}
use Rattle.flr_honest.proofs.Changes.Evictions.{runs_take_theirs}
use Rattle.flr_honest.proofs.Changes.Files.{runs_change_their_files}
use Rattle.flr_honest.proofs.Changes.Objects.{objects_stay_apart}
use Rattle.flr_honest.proofs.GoingWell.Answers.{runs_go_well}
use Rattle.flr_world.specs.Claims.{IsSoundRun}

changes : (s : State) → IsRun s → ChangesAreExplained s
changes s run place c old new at made = steps_explained old new c (fronts_are_runs s old place run at) (runs_leave (length old.schedule)) (step_is old new c made)

pub runs_are_sound : (s : State) → IsRun s → IsSoundRun s
runs_are_sound s run = record {
  order = runs_are_in_order s run;
  all = runs_judge_all s run;
  linear = λ none. runs_are_linear s run none;
  causes = λ none. runs_have_causes s run none;
  alone = λ none. runs_answer_alone s run none;
  refusals = runs_refuse_first s run;
  verifies = runs_tell_what_they_read s run;
  well = runs_go_well s run;
  files = (all_hold s run).servers.sound;
  changes = changes s run;
  commands = runs_change_their_files s run;
  stale = runs_clear_by_copies s run;
  evictions = runs_take_theirs s run;
  objects = objects_stay_apart s run;
  sole = runs_hold_alone s run (runs_leave (length s.schedule));
  honest = λ none. runs_hold_plain s run none;
  live = λ c has. never_stuck s c run has;
  short = runs_short s run;
}
