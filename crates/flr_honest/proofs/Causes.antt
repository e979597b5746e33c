-- Every run: its answers have their causes, and no others have.
use Rattle.std.proofs.Common.{◌≡◌, false, refl, sym, subst}
use Rattle.flr_base.specs.declared.reply.Entry.{Entry}
use Rattle.lfs_words.specs.declared.command.LfsCommand.{LfsCommand}
use Rattle.lfs_words.specs.declared.command.LfsCommand.TheVariants as lfs
use Rattle.script_values.specs.declared.command.Command.{Command}
use Rattle.script_values.specs.declared.command.Command.TheVariants as command
use Rattle.flr_steps.specs.States.{State}
use Rattle.flr_steps.specs.Traces.{Past}
use Rattle.flr_claims.specs.Calls.{Call}
use Rattle.flr_claims.specs.Causes.{IsCaused, IsOnlyAnswer, has_rot}
use Rattle.flr_claims.specs.Claims.{IsVerifiedBy}
use Rattle.flr_honest.specs.Causes.{CopiesNone, RunsAnswerAlone, RunsHaveCauses, RunsRefuseFirst, RunsTellWhatTheyRead, lfs_copies_none}
use Rattle.flr_honest.specs.Entries.{IsEntryOf, claimed}
use Rattle.flr_honest.specs.OneStep.Sentences.{HasOneStep}
use Rattle.flr_honest.specs.OnlyAnswers.Alone.{IsOfOneStep, IsReading, IsVerifying, IsWriting}
use Rattle.flr_honest.specs.ReadCauses.Causes.{IsRead}
use Rattle.flr_honest.specs.VerifyCauses.Sentences.{IsVerify}
use Rattle.flr_honest.specs.WriteCauses.Laws.{IsTruncate, IsWrite}
use Rattle.flr_honest.proofs.CallRuns.Entries.{each_call, each_sound_call}
use Rattle.flr_honest.proofs.CallRuns.RefusalsFirst.{refusals_come_first}
use Rattle.flr_honest.proofs.OneStep.Answering.{one_steps_have_causes}
use Rattle.flr_honest.proofs.OnlyAnswers.OneStep.{steps_are_alone}
use Rattle.flr_honest.proofs.OnlyAnswers.Reading.{reads_are_alone}
use Rattle.flr_honest.proofs.OnlyAnswers.Verifying.{verifies_are_alone}
use Rattle.flr_honest.proofs.OnlyAnswers.Writing.{writes_are_alone}
use Rattle.flr_honest.proofs.ReadCauses.Causes.{reads_have_causes}
use Rattle.flr_honest.proofs.VerifyCauses.Answers.{verifies_have_causes}
use Rattle.flr_honest.proofs.VerifyCauses.OtherCommands.{each_is_verified}
use Rattle.flr_honest.proofs.WriteCauses.CutCauses.{truncates_have_causes}
use Rattle.flr_honest.proofs.WriteCauses.WriteCauses.{writes_have_causes}

module _ (s : State) (e : Entry) (p : Past) (is : IsEntryOf s e p) (none : has_rot s.script ≡ false) where
  -- a command of one step
  by_step : (asked : Command) → is.asked ≡ asked → HasOneStep asked → IsCaused (claimed is) e.reply
  by_step asked same one = one_steps_have_causes s e p is none (subst HasOneStep (sym same) one)

  by_lfs : (of : LfsCommand) → is.asked ≡ command.Lfs of → lfs_copies_none of → IsCaused (claimed is) e.reply
  by_lfs (lfs.SetStripe name spec) same copies = by_step (command.Lfs (lfs.SetStripe name spec)) same (λ c. refl)
  by_lfs (lfs.GetStripe name) same copies = by_step (command.Lfs (lfs.GetStripe name)) same (λ c. refl)
  by_lfs (lfs.CompSet name id change) same copies = by_step (command.Lfs (lfs.CompSet name id change)) same (λ c. refl)
  by_lfs (lfs.Create name spec) same copies = by_step (command.Lfs (lfs.Create name spec)) same (λ c. refl)
  by_lfs (lfs.Split name mirror to) same copies = by_step (command.Lfs (lfs.Split name mirror to)) same (λ c. refl)
  by_lfs (lfs.Delete name mirror) same copies = by_step (command.Lfs (lfs.Delete name mirror)) same (λ c. refl)
  by_lfs (lfs.Verify name) same copies = verifies_have_causes s e p is none (subst IsVerify (sym same) tt)
  by_lfs (lfs.Resync name only) same copies = absurd copies
  by_lfs (lfs.Extend name spec) same copies = absurd copies
  by_lfs (lfs.ExtendBy name victim) same copies = absurd copies

  caused_by : (asked : Command) → is.asked ≡ asked → CopiesNone asked → IsCaused (claimed is) e.reply
  caused_by (command.Read name offset len) same copies = reads_have_causes s e p is none (subst IsRead (sym same) tt)
  caused_by (command.Write name offset bytes) same copies = writes_have_causes s e p is none (subst IsWrite (sym same) tt)
  caused_by (command.Truncate name size) same copies = truncates_have_causes s e p is none (subst IsTruncate (sym same) tt)
  caused_by (command.Lfs of) same copies = by_lfs of same copies
  caused_by (command.Evict client) same copies = by_step (command.Evict client) same (λ c. refl)
  caused_by (command.Rot object offset byte) same copies = by_step (command.Rot object offset byte) same (λ c. refl)

  caused : CopiesNone is.asked → IsCaused (claimed is) e.reply
  caused copies = caused_by is.asked refl copies

  -- and no other answer is
  alone_at_once : (asked : Command) → is.asked ≡ asked → IsOfOneStep asked → IsCaused (claimed is) e.reply → IsOnlyAnswer (claimed is) e.reply
  alone_at_once asked same one so = steps_are_alone s e p is (subst IsOfOneStep (sym same) one) so

  alone_by_lfs : (of : LfsCommand) → is.asked ≡ command.Lfs of → lfs_copies_none of → IsCaused (claimed is) e.reply → IsOnlyAnswer (claimed is) e.reply
  alone_by_lfs (lfs.SetStripe name spec) same copies so = alone_at_once (command.Lfs (lfs.SetStripe name spec)) same tt so
  alone_by_lfs (lfs.GetStripe name) same copies so = alone_at_once (command.Lfs (lfs.GetStripe name)) same tt so
  alone_by_lfs (lfs.CompSet name id change) same copies so = alone_at_once (command.Lfs (lfs.CompSet name id change)) same tt so
  alone_by_lfs (lfs.Create name spec) same copies so = alone_at_once (command.Lfs (lfs.Create name spec)) same tt so
  alone_by_lfs (lfs.Split name mirror to) same copies so = alone_at_once (command.Lfs (lfs.Split name mirror to)) same tt so
  alone_by_lfs (lfs.Delete name mirror) same copies so = alone_at_once (command.Lfs (lfs.Delete name mirror)) same tt so
  alone_by_lfs (lfs.Verify name) same copies so = verifies_are_alone s e p is none (subst IsVerifying (sym same) tt) so
  alone_by_lfs (lfs.Resync name only) same copies so = absurd copies
  alone_by_lfs (lfs.Extend name spec) same copies so = absurd copies
  alone_by_lfs (lfs.ExtendBy name victim) same copies so = absurd copies

  alone_by : (asked : Command) → is.asked ≡ asked → CopiesNone asked → IsCaused (claimed is) e.reply → IsOnlyAnswer (claimed is) e.reply
  alone_by (command.Read name offset len) same copies so = reads_are_alone s e p is (subst IsReading (sym same) tt) so
  alone_by (command.Write name offset bytes) same copies so = writes_are_alone s e p is (subst IsWriting (sym same) tt) so
  alone_by (command.Truncate name size) same copies so = writes_are_alone s e p is (subst IsWriting (sym same) tt) so
  alone_by (command.Lfs of) same copies so = alone_by_lfs of same copies so
  alone_by (command.Evict client) same copies so = alone_at_once (command.Evict client) same tt so
  alone_by (command.Rot object offset byte) same copies so = alone_at_once (command.Rot object offset byte) same tt so

  alone : CopiesNone is.asked → IsOnlyAnswer (claimed is) e.reply
  alone copies = alone_by is.asked refl copies (caused copies)

pub runs_have_causes : RunsHaveCauses
runs_have_causes s run none = each_sound_call (λ (k : Call) (e : Entry). CopiesNone k.asked → IsCaused k e.reply) (λ x e p is sound. caused x e p is sound) s run none

pub runs_answer_alone : RunsAnswerAlone
runs_answer_alone s run none = each_sound_call (λ (k : Call) (e : Entry). CopiesNone k.asked → IsOnlyAnswer k e.reply) (λ x e p is sound. alone x e p is sound) s run none

pub runs_refuse_first : RunsRefuseFirst
runs_refuse_first s run = refusals_come_first s run

pub runs_tell_what_they_read : RunsTellWhatTheyRead
runs_tell_what_they_read s run = each_call (λ (k : Call) (e : Entry). IsVerifiedBy k e.reply) each_is_verified s run
