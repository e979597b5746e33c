-- A step's call is the one that its command began: whose it is and what it was asked for stay.
use Rattle.std.proofs.Common.{◌≡◌, ℕ, List, sym, ap, ◌∙◌}
use Rattle.script_values.specs.declared.command.Command.{Command}
use Rattle.meta_server.specs.declared.answers.CopyWhat.{CopyWhat}
use Rattle.call_steps.specs.Runs.{CallStep}
use Rattle.client_read.specs.declared.phase.ReadAt.TheVariants as read
use Rattle.client_read.specs.Reads.{new_read, read_on}
use Rattle.client_read.specs.Views.{ReadView}
use Rattle.client_write.specs.declared.phase.CutAt.TheVariants as cut
use Rattle.client_write.specs.declared.phase.WriteAt.TheVariants as write
use Rattle.client_write.specs.Calls.{TruncateView, WriteView}
use Rattle.client_write.specs.Truncates.{new_truncate, truncate_on}
use Rattle.client_write.specs.Writes.{new_write, write_on}
use Rattle.mirror_verify.specs.declared.phase.VerifyAt.TheVariants as verify
use Rattle.mirror_verify.specs.Verifies.{new_verify, verify_on}
use Rattle.mirror_verify.specs.Views.{VerifyView}
use Rattle.resync_copy.specs.declared.phase.CopyAt.TheVariants as copy
use Rattle.resync_copy.specs.Calls.{CopyView}
use Rattle.resync_copy.specs.Copies.{new_copy}
use Rattle.flr_steps.specs.declared.client.Running.{Running}
use Rattle.flr_steps.specs.declared.client.Running.TheVariants as running
use Rattle.flr_steps.specs.Commands.{begun}
use Rattle.flr_steps.specs.States.{IsRun, State}
use Rattle.flr_asked.specs.CallRuns.{StandsIn, of_kind}
use Rattle.flr_asked.specs.Sentences.{at_start}
use Rattle.flr_honest.proofs.Stores.Begun.{now_of}
use Rattle.flr_honest.proofs.CallSteps.Standing.{call_same, old_ground}

-- ---- calls of one kind

same_read : (a b : ReadView) → running.Read a ≡ running.Read b → a ≡ b
same_read a b e = cc

same_write : (a b : WriteView) → running.Write a ≡ running.Write b → a ≡ b
same_write a b e = cc

same_truncate : (a b : TruncateView) → running.Truncate a ≡ running.Truncate b → a ≡ b
same_truncate a b e = cc

same_verify : (a b : VerifyView) → running.Verify a ≡ running.Verify b → a ≡ b
same_verify a b e = cc

same_copy : (a b : CopyView) → running.Copy a ≡ running.Copy b → a ≡ b
same_copy a b e = cc

module _ (s : State) (run : IsRun s) (c : ℕ) (asked : Command) where
  -- the call at its start is the one that the command began
  pub call_asked : (x : CallStep Running) → StandsIn s.script s.schedule c asked x → at_start x.call ≡ begun c asked
  call_asked x st =
      ap at_start (sym (call_same s.script s.schedule c asked x st))
      ∙ now_of c st.step.asked st.step.client.call ((old_ground s run c asked x st).asked c st.step.client st.step.asked st.step.here st.step.commanded)
      ∙ ap (λ (k : Command). begun c k) st.asked_is

  pub read_asked : (name : List ℕ) (offset len : ℕ) → begun c asked ≡ running.Read (new_read c name offset len) → (x : CallStep ReadView) → StandsIn s.script s.schedule c asked (of_kind running.Read x) → x.call ≡ read_on (new_read c name offset len) x.call.at
  read_asked name offset len is x st = ap (λ (r : ReadView). read_on r x.call.at) (same_read (read_on x.call read.Open) (new_read c name offset len) (call_asked (of_kind running.Read x) st ∙ is))

  pub write_asked : (name : List ℕ) (offset : ℕ) (bytes : List ℕ) → begun c asked ≡ running.Write (new_write c name offset bytes) → (x : CallStep WriteView) → StandsIn s.script s.schedule c asked (of_kind running.Write x) → x.call ≡ write_on (new_write c name offset bytes) x.call.at
  write_asked name offset bytes is x st = ap (λ (w : WriteView). write_on w x.call.at) (same_write (write_on x.call write.Open) (new_write c name offset bytes) (call_asked (of_kind running.Write x) st ∙ is))

  pub truncate_asked : (name : List ℕ) (size : ℕ) → begun c asked ≡ running.Truncate (new_truncate c name size) → (x : CallStep TruncateView) → StandsIn s.script s.schedule c asked (of_kind running.Truncate x) → x.call ≡ truncate_on (new_truncate c name size) x.call.at
  truncate_asked name size is x st = ap (λ (t : TruncateView). truncate_on t x.call.at) (same_truncate (truncate_on x.call cut.Open) (new_truncate c name size) (call_asked (of_kind running.Truncate x) st ∙ is))

  pub verify_asked : (name : List ℕ) → begun c asked ≡ running.Verify (new_verify c name) → (x : CallStep VerifyView) → StandsIn s.script s.schedule c asked (of_kind running.Verify x) → x.call ≡ verify_on (new_verify c name) x.call.at
  verify_asked name is x st = ap (λ (v : VerifyView). verify_on v x.call.at) (same_verify (verify_on x.call verify.Open) (new_verify c name) (call_asked (of_kind running.Verify x) st ∙ is))

  pub copy_asked : (name : List ℕ) (what : CopyWhat) → begun c asked ≡ running.Copy (new_copy c name what) → (x : CallStep CopyView) → StandsIn s.script s.schedule c asked (of_kind running.Copy x) → x.call ≡ record (new_copy c name what) { at = x.call.at }
  copy_asked name what is x st = ap (λ (k : CopyView). record k { at = x.call.at }) (same_copy (record x.call { at = copy.Begin }) (new_copy c name what) (call_asked (of_kind running.Copy x) st ∙ is))
