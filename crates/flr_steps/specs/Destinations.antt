-- For which destination a copy made a call of a target: of each take and put the trace tells it by the call's own place in the copy.
use Rattle.std.specs.Prelude.{ℕ, ◌-◌, Bool, false, nat_eq, List, filter, Option, None, Some}
use Rattle.std.specs.Option.{option_and_then, option_map, option_map_or}
use Rattle.resync_copy.specs.declared.phase.CopyAt.{CopyAt}
use Rattle.resync_copy.specs.declared.phase.CopyAt.TheVariants as at
use Rattle.resync_copy.specs.declared.phase.CopyStage.{CopyStage}
use Rattle.resync_copy.specs.declared.phase.CopyStage.TheVariants as stage
use Rattle.resync_copy.specs.Copies.{destination_of}
use Rattle.flr_steps.specs.declared.client.Client.{Client}
use Rattle.flr_steps.specs.declared.client.Running.{Running}
use Rattle.flr_steps.specs.declared.client.Running.TheVariants as running
use Rattle.flr_steps.specs.States.{State, client_at, state_at}
use Rattle.flr_steps.specs.Traces.{Made}

-- the call that the client had under way after the first so many places of the run to this state
abbrev pub running_at : State → ℕ → ℕ → Option Running
running_at last client place = option_and_then (λ (s : State). option_map (λ (c : Client). c.call) (client_at s.clients client)) (state_at last.script last.schedule place)

abbrev pub stage_destination : CopyStage → Option ℕ
stage_destination (stage.Take h) = Some (destination_of h).component
stage_destination (stage.Put h bytes) = Some (destination_of h).component
stage_destination other = None

abbrev pub copy_destination : CopyAt → Option ℕ
copy_destination (at.Copy next) = stage_destination next
copy_destination other = None

-- the component to which a call copies a chunk with its next step
abbrev pub destination_now : Running → Option ℕ
destination_now (running.Copy call) = copy_destination call.at
destination_now other = None

-- whether the client made the call of a target to copy a chunk to this component
abbrev pub is_made_for : State → ℕ → ℕ → Made → Bool
is_made_for last client id m = option_map_or (nat_eq id) (option_and_then destination_now (running_at last client (m.place - 1))) false

-- those of these calls that it made for that
abbrev pub made_for : State → ℕ → ℕ → List Made → List Made
made_for last client id made = filter (is_made_for last client id) made
