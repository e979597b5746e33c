-- What the layouts of files come from, in a step.
use Rattle.std.proofs.Common.{ℕ, length, sym, subst, arith}
use Rattle.meta_laws.specs.Layouts.{AreExplained}
use Rattle.call_steps.specs.Steps.{Outcome, Going, Fixed, Ended, Answered, Blocked}
use Rattle.flr_steps.specs.declared.client.Client.{Client}
use Rattle.flr_steps.specs.declared.client.Running.{Running}
use Rattle.flr_steps.specs.Clients.{first_now}
use Rattle.flr_steps.specs.States.{IsRun, State, place_in}
use Rattle.flr_steps.specs.Steps.{LeavesState, StepIs}
use Rattle.flr_numbers.specs.Hands.{Fine}
use Rattle.flr_numbers.specs.Laws.{LeaveRoom}
use Rattle.flr_numbers.specs.Sentences.{HasRoom, Holds, IsCallOf, hand_of}
use Rattle.flr_numbers.proofs.Keeping.{came_fine}
use Rattle.flr_numbers.proofs.Runs.{runs_hold}

-- what a fine step left explains the layouts
left_explained : (s : State) (c : ℕ) (client : Client) (first : ℕ) (came : Outcome Running) (t : State) → Fine c hand_of (IsCallOf c) s.shared came → LeavesState s c client first came t → AreExplained s.shared.meta t.shared.meta.files
left_explained s c client first (Going next after) t fine left = subst (λ (x : State). AreExplained s.shared.meta x.shared.meta.files) (sym left) fine.0.layouts
left_explained s c client first (Fixed next reply takes after) t fine left = subst (λ (x : State). AreExplained s.shared.meta x.shared.meta.files) (sym left) fine.0.layouts
left_explained s c client first (Ended after) t fine left = subst (λ (x : State). AreExplained s.shared.meta x.shared.meta.files) (sym left) fine.layouts
left_explained s c client first (Answered reply takes after) t fine left = subst (λ (x : State). AreExplained s.shared.meta x.shared.meta.files) (sym left) fine.layouts
left_explained s c client first (Blocked holder) t fine left = absurd left

-- each step for which there is room explains them
pub step_explained : (s t : State) (c : ℕ) → Holds s → HasRoom s.shared → StepIs s c t → AreExplained s.shared.meta t.shared.meta.files
step_explained s t c h room step = left_explained s c step.client (first_now step.client.call (place_in s) step.client.first) step.came t (came_fine s t c h room step) step.left

pub steps_explained : (s t : State) (c : ℕ) → IsRun s → LeaveRoom (length s.schedule) → StepIs s c t → AreExplained s.shared.meta t.shared.meta.files
steps_explained s t c run leave = step_explained s t c (runs_hold s run leave) (leave s run (omega arith))
