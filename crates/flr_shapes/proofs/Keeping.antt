-- Each step, and every run for whose steps there is room.
use Rattle.std.proofs.Common.{◌≡◌, ℕ, ◌<◌, ◌⊎◌, inl, inr, refl, sym, subst, arith, length, get_or}
use Rattle.flr_base.specs.declared.reply.ObjectId.{ObjectId}
use Rattle.script_values.specs.Commands.{IsCommand}
use Rattle.script_values.specs.Scripts.{IsScript, ScriptView}
use Rattle.composite_layout.specs.Layouts.{Composite}
use Rattle.meta_server.specs.Ending.{both_given}
use Rattle.meta_server.specs.Files.{MetaView}
use Rattle.call_steps.specs.Steps.{Outcome, Going, Fixed, Ended, Answered, Blocked}
use Rattle.meta_laws.specs.Numbers.{AreObjectsOnce}
use Rattle.flr_steps.specs.declared.client.Client.{Client}
use Rattle.flr_steps.specs.declared.client.Running.{Running}
use Rattle.flr_steps.specs.Clients.{call_now, first_now}
use Rattle.flr_steps.specs.States.{IsRun, State, place_in, start}
use Rattle.flr_steps.specs.Steps.{LeavesState, StepIs}
use Rattle.flr_numbers.specs.Frames.{IsUnmade}
use Rattle.flr_numbers.specs.Hands.{AreMade}
use Rattle.flr_numbers.specs.Laws.{LeaveRoom}
use Rattle.flr_numbers.specs.Sentences.{HasRoom, Holds, IsCallOf}
use Rattle.flr_numbers.proofs.Clients.{is_now}
use Rattle.flr_numbers.proofs.Commands.{is_command}
use Rattle.flr_numbers.proofs.Objects.{file_made}
use Rattle.flr_numbers.proofs.Runs.{runs_hold, start_holds}
use Rattle.flr_shapes.specs.Sentences.{Agree, AgreesWith, IsShapeOf, Keeps, Shape}
use Rattle.flr_shapes.proofs.Calls.{call_keeps}
use Rattle.flr_behind.proofs.Commands.{step_leaves}
use Rattle.flr_shapes.proofs.Files.{kept, same}
use Rattle.flr_shapes.proofs.Single.{one_shape, stripe_counted}
use Rattle.flr_behind.proofs.Steps.{OnMeta}

left_keeps : (s : State) (c : ℕ) (client : Client) (first : ℕ) (came : Outcome Running) (t : State) → OnMeta (Keeps s.shared.meta) came → LeavesState s c client first came t → Keeps s.shared.meta t.shared.meta
left_keeps s c client first (Going next after) t keeps left = subst (λ (x : State). Keeps s.shared.meta x.shared.meta) (sym left) keeps
left_keeps s c client first (Fixed next reply takes after) t keeps left = subst (λ (x : State). Keeps s.shared.meta x.shared.meta) (sym left) keeps
left_keeps s c client first (Ended after) t keeps left = subst (λ (x : State). Keeps s.shared.meta x.shared.meta) (sym left) keeps
left_keeps s c client first (Answered reply takes after) t keeps left = subst (λ (x : State). Keeps s.shared.meta x.shared.meta) (sym left) keeps
left_keeps s c client first (Blocked holder) t keeps left = absurd left

-- each step keeps shapes
pub step_keeps : (s t : State) (c : ℕ) → Holds s → HasRoom s.shared → StepIs s c t → Keeps s.shared.meta t.shared.meta
step_keeps s t c h room step =
    let client : Client = step.client in
    let of = h.clients c client step.here in
    let le = h.script.form.few_mirrors in
    let few = h.script.form.few_clients in
    let good : IsCommand s.script.most s.script.targets (length s.script.clients) step.asked = is_command s.script c client.done step.asked h.script step.commanded in
    let call : Running = call_now c client.call step.asked in
    let is : IsCallOf c call = is_now c s.shared step.asked s.script.most s.script.targets (length s.script.clients) le few good client.call of.call in
    let m : MetaView = s.shared.meta in
    let keeps = step_leaves (Keeps m) c (place_in s) s.shared (record { same = same m; calls = call_keeps m h.servers.sound }) (λ ours theirs. kept m (both_given ours theirs m) refl) call step.asked is in
    left_keeps s c client (first_now client.call (place_in s) client.first) step.came t (subst (λ (o : Outcome Running). OnMeta (Keeps m) o) step.made keeps) step.left

-- an object that stands in a file was made
pub standing_made : (m : MetaView) (o : ObjectId) (shape : Shape) → AreObjectsOnce m → IsShapeOf m o shape → IsUnmade m o → ⊥
standing_made m o shape once is late =
    let made : o.number < get_or m.nexts o.target 0 = file_made m is.number is.file once is.there o (stripe_counted o shape is.file.layout.components is.has) in
    absurd (omega (arith, made, late))

-- so the files before a change that keeps shapes and those after it agree
keep_agree : (m new : MetaView) → AreObjectsOnce m → Keeps m new → Agree m new
keep_agree m new once keeps o before after was is = by (keeps o after is)
  where
    by : IsUnmade m o ⊎ IsShapeOf m o after → before ≡ after
    by (inl late) = absurd (standing_made m o before once was late)
    by (inr had) = one_shape m once o before after was had

pub step_agrees : (s t : State) (c : ℕ) → Holds s → HasRoom s.shared → StepIs s c t → Agree s.shared.meta t.shared.meta
step_agrees s t c h room step = keep_agree s.shared.meta t.shared.meta h.servers.once (step_keeps s t c h room step)

-- a layout whose objects were made goes on to agree with the files
pub layout_agrees : (s t : State) (c : ℕ) → Holds s → HasRoom s.shared → StepIs s c t → (l : Composite) → AreMade s.shared.meta l → AgreesWith s.shared.meta l → AgreesWith t.shared.meta l
layout_agrees s t c h room step l made agrees o a b has is = by (step_keeps s t c h room step o b is)
  where
    by : IsUnmade s.shared.meta o ⊎ IsShapeOf s.shared.meta o b → a ≡ b
    by (inl late) = let less : o.number < get_or s.shared.meta.nexts o.target 0 = made o (stripe_counted o a l.components has) in absurd (omega (arith, less, late))
    by (inr had) = agrees o a b has had

pub start_agrees : (script : ScriptView) → IsScript script → Agree (start script).shared.meta (start script).shared.meta
start_agrees script is = one_shape (start script).shared.meta (start_holds script is).servers.once

pub runs_agree : (s : State) → IsRun s → LeaveRoom (length s.schedule) → Agree s.shared.meta s.shared.meta
runs_agree s run leave = one_shape s.shared.meta (runs_hold s run leave).servers.once
