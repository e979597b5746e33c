-- What each step leaves of objects that were never made.
use Rattle.std.proofs.Common.{◌≡◌, ℕ, Bool, true, false, cond, refl, sym, subst}
use Rattle.flr_base.specs.declared.reply.ObjectId.{ObjectId}
use Rattle.flr_base.specs.declared.reply.Reply.{Reply}
use Rattle.layout_state.specs.Making.{AreNext}
use Rattle.object_target.specs.Calls.{after_rot}
use Rattle.script_values.specs.declared.command.Command.{Command}
use Rattle.script_values.specs.declared.command.Command.TheVariants as command
use Rattle.meta_server.specs.Outcomes.{Gives, Refuses, Waits}
use Rattle.meta_server.specs.Outcomes as meta
use Rattle.mirror_admin.specs.OneStep.{one_step}
use Rattle.mirror_admin.specs.Rotting.{is_kept, rotted, with_rot}
use Rattle.call_steps.specs.Servers.{Servers, target_at}
use Rattle.client_read.specs.Reads.{read_step}
use Rattle.client_write.specs.Truncates.{truncate_step}
use Rattle.client_write.specs.Writes.{write_step}
use Rattle.mirror_verify.specs.Verifies.{verify_step}
use Rattle.resync_copy.specs.Steps.{copy_step}
use Rattle.flr_steps.specs.declared.client.Running.{Running}
use Rattle.flr_steps.specs.declared.client.Running.TheVariants as running
use Rattle.flr_steps.specs.Commands.{answered_by, at_once, step_of}
use Rattle.flr_numbers.specs.Calls.{hand_of_write}
use Rattle.flr_numbers.specs.Copies.{hand_of_copy}
use Rattle.flr_numbers.specs.Hands.{Has}
use Rattle.flr_numbers.specs.Sentences.{IsCallOf, hand_of}
use Rattle.flr_unmade.proofs.Calls.{StepSpares, read_spares, stays, truncate_spares, verify_spares, widened, write_spares}
use Rattle.flr_unmade.proofs.Copies.{copy_spares}
use Rattle.flr_unmade.proofs.Targets.{Spares, adds_none, rot_none}

module _ (c : ℕ) (s : Servers) where
  -- ---- commands of one step

  answered_spares : (o : meta.Outcome Reply) → StepSpares s (answered_by s o)
  answered_spares (Gives answer after) = stays s
  answered_spares (Refuses answer) = stays s
  answered_spares (Waits holder) = tt

  -- no object comes of a rot
  rot_spares : (object : ObjectId) (offset byte : ℕ) → Spares s.meta s.targets (rotted object offset byte s.targets)
  rot_spares object offset byte = by (is_kept object s.targets) refl
    where
      by : (b : Bool) → is_kept object s.targets ≡ b → Spares s.meta s.targets (cond b (with_rot object offset byte s.targets) s.targets)
      by true there =
          adds_none s.meta s.targets object.target (after_rot (target_at s.targets object.target) object.number offset byte)
          (λ n none. rot_none (target_at s.targets object.target) object.number offset byte n there none)
      by false absent = stays s

  once_spares : (asked : Command) (place : ℕ) → StepSpares s (at_once c asked place s)
  once_spares (command.Lfs of) place = answered_spares (one_step c of place s.meta)
  once_spares (command.Evict other) place = stays s
  once_spares (command.Rot object offset byte) place = rot_spares object offset byte
  once_spares (command.Read name offset len) place = tt
  once_spares (command.Write name offset bytes) place = tt
  once_spares (command.Truncate name size) place = tt

  -- ---- each step

  pub each_spares : (call : Running) (asked : Command) (place : ℕ) → AreNext s.meta.nexts → IsCallOf c call → Has c s.meta s.locks (hand_of call) → StepSpares s (step_of call c asked place s)
  each_spares running.Idle asked place next is has = once_spares asked place
  each_spares (running.Read call) asked place next is has = widened running.Read s (read_step call place s) (read_spares s call call.at)
  each_spares (running.Write call) asked place next is has =
      widened running.Write s (write_step call place s) (write_spares s call call.at place next (subst (λ n. Has n s.meta s.locks (hand_of_write call)) (sym is.0) has) is.1 is.2)
  each_spares (running.Truncate call) asked place next is has = widened running.Truncate s (truncate_step call place s) (truncate_spares s call call.at place)
  each_spares (running.Copy call) asked place next is has =
      widened running.Copy s (copy_step call place s) (copy_spares s call next call.at (subst (λ n. Has n s.meta s.locks (hand_of_copy call)) (sym is.0) has) is.3)
  each_spares (running.Verify call) asked place next is has = widened running.Verify s (verify_step call place s) (verify_spares s call call.at)
