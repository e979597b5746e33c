-- Each step of a client's call.
use Rattle.std.proofs.Common.{◌≡◌, ℕ, Bool, false, refl, subst}
use Rattle.flr_base.specs.declared.reply.Reply.{Reply}
use Rattle.lfs_words.specs.declared.command.LfsCommand.{LfsCommand}
use Rattle.lfs_words.specs.declared.command.LfsCommand.TheVariants as lfs
use Rattle.script_values.specs.declared.command.Command.{Command}
use Rattle.script_values.specs.declared.command.Command.TheVariants as command
use Rattle.client_read.specs.Reads.{read_step}
use Rattle.client_read.specs.Views.{ReadView}
use Rattle.client_write.specs.Calls.{TruncateView, WriteView}
use Rattle.client_write.specs.Truncates.{truncate_step}
use Rattle.client_write.specs.Writes.{write_step}
use Rattle.meta_server.specs.Outcomes.{Gives, Refuses, Waits}
use Rattle.meta_server.specs.Outcomes as meta
use Rattle.mirror_admin.specs.OneStep.{one_step}
use Rattle.mirror_verify.specs.Verifies.{verify_step}
use Rattle.mirror_verify.specs.Views.{VerifyView}
use Rattle.resync_copy.specs.Calls.{CopyView}
use Rattle.resync_copy.specs.Steps.{copy_step}
use Rattle.call_steps.specs.Servers.{Servers}
use Rattle.flr_steps.specs.declared.client.Running.{Running}
use Rattle.flr_steps.specs.declared.client.Running.TheVariants as running
use Rattle.flr_steps.specs.Commands.{answered_by, at_once, begun, step_of}
use Rattle.flr_past.specs.Laws.{AnswersAreFixedOnce}
use Rattle.flr_past.specs.Phases.{FixesOnce, cut_is_fixed, is_fixed, read_is_fixed, write_is_fixed}
use Rattle.flr_past.proofs.Outcomes.{widened}
use Rattle.flr_past.proofs.Calls.{cut_once, read_once, write_once}
use Rattle.flr_past.proofs.Copies.{copy_once, verify_once}

-- a command of one step ends with its answer
by_answer : (s : Servers) (o : meta.Outcome Reply) → FixesOnce false (answered_by s o)
by_answer s (Gives answer after) = tt
by_answer s (Refuses answer) = tt
by_answer s (Waits holder) = tt

once_by : (c : ℕ) (asked : Command) (place : ℕ) (s : Servers) → FixesOnce false (at_once c asked place s)
once_by c (command.Lfs of) place s = by_answer s (one_step c of place s.meta)
once_by c (command.Evict other) place s = tt
once_by c (command.Rot object offset byte) place s = tt
once_by c (command.Read name offset len) place s = tt
once_by c (command.Write name offset bytes) place s = tt
once_by c (command.Truncate name size) place s = tt

step_once : (c : ℕ) (call : Running) (asked : Command) (place : ℕ) (s : Servers) → FixesOnce (is_fixed call) (step_of call c asked place s)
step_once c running.Idle asked place s = once_by c asked place s
step_once c (running.Read r) asked place s = widened running.Read (λ (x : ReadView). read_is_fixed x.at) (λ x. refl) (λ x. refl) (read_is_fixed r.at) (read_step r place s) (read_once r s r.at)
step_once c (running.Write w) asked place s = widened running.Write (λ (x : WriteView). write_is_fixed x.at) (λ x. refl) (λ x. refl) (write_is_fixed w.at) (write_step w place s) (write_once w place s w.at)
step_once c (running.Truncate t) asked place s = widened running.Truncate (λ (x : TruncateView). cut_is_fixed x.at) (λ x. refl) (λ x. refl) (cut_is_fixed t.at) (truncate_step t place s) (cut_once t place s t.at)
step_once c (running.Copy k) asked place s = widened running.Copy (λ (x : CopyView). false) (λ x. refl) (λ x. refl) false (copy_step k place s) (copy_once k s k.at)
step_once c (running.Verify v) asked place s = widened running.Verify (λ (x : VerifyView). false) (λ x. refl) (λ x. refl) false (verify_step v place s) (verify_once v s v.at)

-- a command begins with its answer open
lfs_open : (c : ℕ) (of : LfsCommand) → is_fixed (begun c (command.Lfs of)) ≡ false
lfs_open c (lfs.Resync name only) = refl
lfs_open c (lfs.Extend name spec) = refl
lfs_open c (lfs.ExtendBy name victim) = refl
lfs_open c (lfs.Verify name) = refl
lfs_open c other = refl

begun_open : (c : ℕ) (asked : Command) → is_fixed (begun c asked) ≡ false
begun_open c (command.Read name offset len) = refl
begun_open c (command.Write name offset bytes) = refl
begun_open c (command.Truncate name size) = refl
begun_open c (command.Lfs of) = lfs_open c of
begun_open c (command.Evict other) = refl
begun_open c (command.Rot object offset byte) = refl

pub answers_are_fixed_once : AnswersAreFixedOnce
answers_are_fixed_once c running.Idle asked place s = subst (λ (b : Bool). FixesOnce b (step_of (begun c asked) c asked place s)) (begun_open c asked) (step_once c (begun c asked) asked place s)
answers_are_fixed_once c (running.Read r) asked place s = step_once c (running.Read r) asked place s
answers_are_fixed_once c (running.Write w) asked place s = step_once c (running.Write w) asked place s
answers_are_fixed_once c (running.Truncate t) asked place s = step_once c (running.Truncate t) asked place s
answers_are_fixed_once c (running.Copy k) asked place s = step_once c (running.Copy k) asked place s
answers_are_fixed_once c (running.Verify v) asked place s = step_once c (running.Verify v) asked place s
