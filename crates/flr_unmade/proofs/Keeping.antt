-- Each step leaves objects that were never made empty.
use Rattle.std.proofs.Common.{◌≡◌, ℕ, Option, None, [], length, sym, ap, subst, arith}
use Rattle.std.specs.Prelude.{unwrap_or}
use Rattle.flr_base.specs.declared.reply.ObjectId.{ObjectId}
use Rattle.object_target.specs.declared.objects.Object.{Object}
use Rattle.script_values.specs.Commands.{IsCommand}
use Rattle.call_steps.specs.Servers.{Servers}
use Rattle.call_steps.specs.Steps.{Outcome, Going, Fixed, Ended, Answered, Blocked}
use Rattle.flr_steps.specs.declared.client.Client.{Client}
use Rattle.flr_steps.specs.declared.client.Running.{Running}
use Rattle.flr_steps.specs.Clients.{call_now, first_now}
use Rattle.flr_steps.specs.States.{State, place_in}
use Rattle.flr_steps.specs.Steps.{LeavesState, StepIs}
use Rattle.flr_numbers.specs.Frames.{IsUnmade}
use Rattle.flr_numbers.specs.Hands.{Changes, Fine, Has}
use Rattle.flr_numbers.specs.Sentences.{HasRoom, Holds, IsCallOf, hand_of}
use Rattle.flr_numbers.proofs.Clients.{has_now, is_now, step_fine}
use Rattle.flr_numbers.proofs.Commands.{is_command}
use Rattle.flr_numbers.proofs.Keeping.{is_client}
use Rattle.flr_unmade.specs.Sentences.{AreSpared, Spared, kept_on}
use Rattle.flr_unmade.proofs.Calls.{StepSpares}
use Rattle.flr_unmade.proofs.Steps.{each_spares}
use Rattle.flr_unmade.proofs.Targets.{Spares}

-- who isn't kept has no bytes
pub spared : (s : Servers) → ((o : ObjectId) → IsUnmade s.meta o → kept_on s.targets o ≡ None) → AreSpared s
spared s kept = record {
  kept = kept;
  bytes = λ o late. ap (λ (x : Option Object). (unwrap_or x (record { content = []; version = 0 })).content) (kept o late);
}

module _ (s : State) (c : ℕ) (h : Spared s) where
  -- no next number falls, so who wasn't made now wasn't before
  goes : (after : Servers) → Changes c s.shared.meta s.shared.locks after.meta after.locks → Spares s.shared.meta s.shared.targets after.targets → AreSpared after
  goes after changes spares = spared after (λ o late. (
      let grow = changes.nexts o.target in
      let before : IsUnmade s.shared.meta o = omega (arith, grow, late) in
      spares o before (h.kept o before)
      ))

  left_spares : (client : Client) (first : ℕ) (came : Outcome Running) (t : State) → Fine c hand_of (IsCallOf c) s.shared came → StepSpares s.shared came → LeavesState s c client first came t → Spared t
  left_spares client first (Going next after) t fine spares left = subst Spared (sym left) (goes after fine.0.changes spares)
  left_spares client first (Fixed next reply takes after) t fine spares left = subst Spared (sym left) (goes after fine.0.changes spares)
  left_spares client first (Ended after) t fine spares left = subst Spared (sym left) (goes after fine.changes spares)
  left_spares client first (Answered reply takes after) t fine spares left = subst Spared (sym left) (goes after fine.changes spares)
  left_spares client first (Blocked holder) t fine spares left = absurd left

pub step_spares : (s t : State) (c : ℕ) → Holds s → HasRoom s.shared → Spared s → StepIs s c t → Spared t
step_spares s t c h room empty step =
    let client : Client = step.client in
    let of = h.clients c client step.here in
    let le = h.script.form.few_mirrors in
    let few = h.script.form.few_clients in
    let good : IsCommand s.script.most s.script.targets (length s.script.clients) step.asked = is_command s.script c client.done step.asked h.script step.commanded in
    let call : Running = call_now c client.call step.asked in
    let is : IsCallOf c call = is_now c s.shared step.asked s.script.most s.script.targets (length s.script.clients) le few good client.call of.call in
    let has : Has c s.shared.meta s.shared.locks (hand_of call) = has_now c s.shared step.asked s.script.most s.script.targets (length s.script.clients) le few good client.call of.has in
    let fine = step_fine c s.shared step.asked s.script.most s.script.targets (length s.script.clients) le few good (is_client s c client h step.here) room.meta h.servers (place_in s) call has is in
    let spares = each_spares c s.shared call step.asked (place_in s) h.servers.sound.nexts is has in
    left_spares s c empty client (first_now client.call (place_in s) client.first) step.came t
    (subst (λ (o : Outcome Running). Fine c hand_of (IsCallOf c) s.shared o) step.made fine)
    (subst (λ (o : Outcome Running). StepSpares s.shared o) step.made spares) step.left
