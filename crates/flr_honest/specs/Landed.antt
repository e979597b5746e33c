-- What is claimed besides of parts that land.
use Rattle.std.specs.Prelude.{◌≡◌, ℕ, false, true}
use Rattle.flr_base.specs.declared.reply.ObjectId.{ObjectId}
use Rattle.object_target.specs.Calls.{has_effect, next_fail}
use Rattle.call_steps.specs.Servers.{Servers, target_at}
use Rattle.flr_steps.specs.Clients.{call_now}
use Rattle.flr_steps.specs.States.{State}
use Rattle.flr_steps.specs.Traces.{Trace, traced}
use Rattle.flr_claims.specs.Sending.{Part, part_object}
use Rattle.flr_bytes.specs.Laws.{LandsHere}
use Rattle.flr_bytes.specs.Runs.{IsStep}
use Rattle.flr_bytes.specs.Writing.{IsThisPart}

-- the next call of the object's target isn't one that the script lists to be refused
abbrev pub MayPass : Servers → ObjectId → Type 0
MayPass s o = has_effect (next_fail (target_at s.targets o.target)) false ≡ true

-- a part that was sent at a step has landed, where its call wasn't refused
abbrev pub PassingPartsLand : Type 0
PassingPartsLand =
    (s t : State) (old new : Trace) (c : ℕ) (is : IsStep s t old new c) → new ≡ traced s t old c → (p : Part) → IsThisPart s.shared t.shared (call_now c is.step.client.call is.step.asked) p → MayPass s.shared (part_object p) → LandsHere s t new c p
