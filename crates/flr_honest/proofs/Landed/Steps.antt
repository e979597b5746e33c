-- A step of any client changes the bytes of one object at most.
use Rattle.std.proofs.Common.{◌≡◌, ℕ, ◌<◌, false, List, [], ◌∷◌, length, inl, refl, sym, ap, subst}
use Rattle.std.specs.List.{AllByRecursion}
use Rattle.flr_base.specs.declared.reply.Reply.{Reply}
use Rattle.composite_layout.specs.Layouts.{Composite}
use Rattle.script_values.specs.declared.command.Command.{Command}
use Rattle.script_values.specs.declared.command.Command.TheVariants as command
use Rattle.meta_server.specs.Outcomes.{Gives, Refuses, Waits}
use Rattle.meta_server.specs.Outcomes as meta
use Rattle.mirror_admin.specs.OneStep.{one_step}
use Rattle.call_steps.specs.Servers.{AreThere, Servers}
use Rattle.call_steps.specs.Steps.{Outcome, Going, Fixed, Ended, Answered, Blocked}
use Rattle.client_read.specs.Reads.{read_step}
use Rattle.client_write.specs.Truncates.{truncate_step}
use Rattle.client_write.specs.Writes.{write_step}
use Rattle.mirror_verify.specs.Verifies.{verify_step}
use Rattle.resync_copy.specs.declared.phase.CopyAt.{CopyAt}
use Rattle.resync_copy.specs.Calls.{CopyView}
use Rattle.resync_copy.specs.Steps.{copy_step}
use Rattle.flr_steps.specs.declared.client.Client.{Client}
use Rattle.flr_steps.specs.declared.client.Running.{Running}
use Rattle.flr_steps.specs.declared.client.Running.TheVariants as running
use Rattle.flr_steps.specs.Clients.{call_now, first_now}
use Rattle.flr_steps.specs.Commands.{answered_by, at_once, step_of}
use Rattle.flr_steps.specs.States.{State, place_in}
use Rattle.flr_steps.specs.Steps.{LeavesState, StepIs}
use Rattle.flr_claims.specs.Causes.{is_rot}
use Rattle.flr_numbers.specs.Calls.{cut_hand, write_hand}
use Rattle.flr_numbers.specs.Copies.{copy_hand}
use Rattle.flr_numbers.specs.Hands.{AreMade, AreServers, Has}
use Rattle.flr_numbers.specs.Sentences.{Holds, IsCallOf, hand_of}
use Rattle.flr_numbers.proofs.CallFits.{are_there}
use Rattle.flr_numbers.proofs.Clients.{has_now, is_now}
use Rattle.flr_numbers.proofs.Commands.{is_command}
use Rattle.flr_bytes.specs.Laws.{StepsWrite}
use Rattle.flr_bytes.specs.Writing.{Writes}
use Rattle.flr_honest.proofs.Landed.Writing.{StepWrites, read_writes, truncate_writes, verify_writes, widened, write_writes}
use Rattle.flr_honest.proofs.Landed.CopyWriting.{copy_writes}

module _ (c : ℕ) (s : Servers) (h : AreServers s.meta s.targets) where
  -- ---- commands of one step

  answered_so : (o : meta.Outcome Reply) → StepWrites s running.Idle (answered_by s o)
  answered_so (Gives reply after) = inl (λ o. refl)
  answered_so (Refuses refusal) = inl (λ o. refl)
  answered_so (Waits holder) = tt

  once_so : (asked : Command) (place : ℕ) → is_rot asked ≡ false → StepWrites s running.Idle (at_once c asked place s)
  once_so (command.Lfs of) place sound = answered_so (one_step c of place s.meta)
  once_so (command.Evict other) place sound = inl (λ o. refl)
  once_so (command.Rot object offset byte) place sound = absurd (cc)
  once_so (command.Read name offset len) place sound = tt
  once_so (command.Write name offset bytes) place sound = tt
  once_so (command.Truncate name size) place sound = tt

  -- ---- each step

  first_made : (l : Composite) (ls : List Composite) → AllByRecursion (AreMade s.meta) (l ∷ ls) → AreThere s.targets l.components
  first_made l ls made = are_there s.meta s.targets l h made.0

  copy_so : (k : CopyView) (place : ℕ) → IsCallOf c (running.Copy k) → Has c s.meta s.locks (hand_of (running.Copy k)) → StepWrites s (running.Copy k) (copy_step k place s)
  copy_so k place is has =
      copy_writes s k k.at refl is.3
      (λ x next e. first_made x.side.layout [] (subst (λ (a : CopyAt). AllByRecursion (AreMade s.meta) (copy_hand a).copied) e has.made))
      (λ g bytes e. first_made g.copying.side.layout [] (subst (λ (a : CopyAt). AllByRecursion (AreMade s.meta) (copy_hand a).copied) e has.made))
      (subst (λ n. 0 < n) (sym h.as_many) h.sound.nexts.some)

  -- each call
  pub each_writes : (call : Running) (asked : Command) (place : ℕ) → is_rot asked ≡ false → IsCallOf c call → Has c s.meta s.locks (hand_of call) → StepWrites s call (step_of call c asked place s)
  each_writes running.Idle asked place sound is has = once_so asked place sound
  each_writes (running.Read call) asked place sound is has = widened running.Read s (running.Read call) (read_step call place s) (read_writes s call (running.Read call) call.at)
  each_writes (running.Write call) asked place sound is has =
      widened running.Write s (running.Write call) (write_step call place s)
      (write_writes s call is.1 call.at place refl is.2 (λ x next e. are_there s.meta s.targets x.opened.layout h (has.opened x.opened (ap (λ a. (write_hand a).opened) e))))
  each_writes (running.Truncate call) asked place sound is has =
      widened running.Truncate s (running.Truncate call) (truncate_step call place s)
      (truncate_writes s call call.at place refl is.1 (λ x next e. are_there s.meta s.targets x.opened.layout h (has.opened x.opened (ap (λ a. (cut_hand a).opened) e))))
  each_writes (running.Copy call) asked place sound is has = widened running.Copy s (running.Copy call) (copy_step call place s) (copy_so call place is has)
  each_writes (running.Verify call) asked place sound is has = widened running.Verify s (running.Verify call) (verify_step call place s) (verify_writes s call (running.Verify call) call.at)

-- ---- a step of the state

module _ (s t : State) (c : ℕ) (h : Holds s) (step : StepIs s c t) where
  abbrev pub its_call : Running
  its_call = call_now c step.client.call step.asked

  -- the call that the step is of knows what it has to know
  pub is_its_call : IsCallOf c its_call
  is_its_call =
      is_now c s.shared step.asked s.script.most s.script.targets (length s.script.clients) h.script.form.few_mirrors h.script.form.few_clients
      (is_command s.script c step.client.done step.asked h.script step.commanded) step.client.call (h.clients c step.client step.here).call

  -- and has what it has in hand
  pub has_its_hand : Has c s.shared.meta s.shared.locks (hand_of its_call)
  has_its_hand =
      has_now c s.shared step.asked s.script.most s.script.targets (length s.script.clients) h.script.form.few_mirrors h.script.form.few_clients
      (is_command s.script c step.client.done step.asked h.script step.commanded) step.client.call (h.clients c step.client step.here).has

left_writes : (s : State) (c : ℕ) (client : Client) (call : Running) (first : ℕ) (came : Outcome Running) (t : State) → StepWrites s.shared call came → LeavesState s c client first came t → Writes s.shared t.shared call
left_writes s c client call first (Going next after) t w left = subst (λ (x : State). Writes s.shared x.shared call) (sym left) w
left_writes s c client call first (Fixed next reply takes after) t w left = subst (λ (x : State). Writes s.shared x.shared call) (sym left) w
left_writes s c client call first (Ended after) t w left = subst (λ (x : State). Writes s.shared x.shared call) (sym left) w
left_writes s c client call first (Answered reply takes after) t w left = subst (λ (x : State). Writes s.shared x.shared call) (sym left) w
left_writes s c client call first (Blocked holder) t w left = absurd left

-- each step
pub steps_write : StepsWrite
steps_write s t old new c is e =
    let step = is.step in
    let h = is.before.holds in
    left_writes s c step.client (its_call s t c h step) (first_now step.client.call (place_in s) step.client.first) step.came t
    (subst (λ (o : Outcome Running). StepWrites s.shared (its_call s t c h step) o) step.made (each_writes c s.shared h.servers (its_call s t c h step) step.asked (place_in s) is.sound (is_its_call s t c h step) (has_its_hand s t c h step))) step.left
