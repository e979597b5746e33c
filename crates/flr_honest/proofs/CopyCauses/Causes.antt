-- Each answer to a resync, or to an extend by copy, has its cause, where what its copy copied and left is right.
use Rattle.std.proofs.Common.{◌≡◌, inl, inr, ◌⊎◌, refl, sym, subst}
use Rattle.flr_base.specs.declared.reply.Entry.{Entry}
use Rattle.lfs_words.specs.declared.command.LfsCommand.{LfsCommand}
use Rattle.lfs_words.specs.declared.command.LfsCommand.TheVariants as lfs
use Rattle.script_values.specs.declared.command.Command.{Command}
use Rattle.script_values.specs.declared.command.Command.TheVariants as command
use Rattle.meta_server.specs.declared.answers.CopyWhat.TheVariants.{Resync, Extend}
use Rattle.resync_copy.specs.Copies.{new_copy}
use Rattle.resync_copy.specs.Steps.{copy_step}
use Rattle.flr_steps.specs.declared.client.Running.TheVariants as running
use Rattle.flr_steps.specs.States.{State}
use Rattle.flr_steps.specs.Traces.{Past}
use Rattle.flr_asked.specs.CallRuns.{IsCallTo}
use Rattle.flr_claims.specs.Causes.{IsCaused}
use Rattle.flr_honest.specs.Entries.{HaveCauses, claimed}
use Rattle.flr_honest.specs.CopyCauses.Sentences.{BrokenAreRight, ClearedAreCopiedWhole, IsCopyOf, LeftsAreRight, WholeAreCleared}
use Rattle.flr_honest.specs.CallSteps.TypedCalls.{IsTypedCallTo}
use Rattle.flr_honest.proofs.CallSteps.EachKind.{extend_call, resync_call}
use Rattle.flr_honest.proofs.CopyCauses.Copied.{end_caused}
use Rattle.flr_honest.proofs.CopyCauses.Ended.{IsAtEnd, at_end}

-- the command copies one file
abbrev pub lfs_copies : LfsCommand → Type 0
lfs_copies (lfs.Resync name only) = Unit {0}
lfs_copies (lfs.Extend name spec) = Unit {0}
lfs_copies other = ⊥

abbrev pub CopiesOneFile : Command → Type 0
CopiesOneFile (command.Lfs of) = lfs_copies of
CopiesOneFile other = ⊥

module _ (lefts : LeftsAreRight) (broken : BrokenAreRight) (whole : ClearedAreCopiedWhole) (only : WholeAreCleared) where
  copy_caused : (s : State) (e : Entry) (p : Past) (c : IsCopyOf s e p) → IsCaused (claimed c.is) e.reply
  copy_caused s e p c = by (at_end c)
    where
      by : IsCaused (claimed c.is) e.reply ⊎ IsAtEnd c → IsCaused (claimed c.is) e.reply
      by (inl once) = once
      by (inr end) = end_caused lefts broken whole only s e p c end

  -- each answer to such a command has its cause
  pub copies_caused : HaveCauses CopiesOneFile
  copies_caused s e p is still of = by is.asked refl of
    where
      by : (asked : Command) → is.asked ≡ asked → CopiesOneFile asked → IsCaused (claimed is) e.reply
      by (command.Lfs (lfs.Resync name only_these)) same copies =
          copy_caused s e p (record { is = is; still = still; name = name; what = Resync only_these; none = tt; asks = same; call = subst (λ (a : Command). IsTypedCallTo running.Copy copy_step (new_copy e.client name (Resync only_these)) s.script s.schedule a e p) (sym same) (resync_call s.script s.schedule e p name only_these (subst (λ (a : Command). IsCallTo s.script s.schedule a e p) same is.call)) })
      by (command.Lfs (lfs.Extend name spec)) same copies =
          copy_caused s e p (record { is = is; still = still; name = name; what = Extend spec; none = tt; asks = same; call = subst (λ (a : Command). IsTypedCallTo running.Copy copy_step (new_copy e.client name (Extend spec)) s.script s.schedule a e p) (sym same) (extend_call s.script s.schedule e p name spec (subst (λ (a : Command). IsCallTo s.script s.schedule a e p) same is.call)) })
      by (command.Lfs (lfs.SetStripe name spec)) same copies = absurd copies
      by (command.Lfs (lfs.GetStripe name)) same copies = absurd copies
      by (command.Lfs (lfs.CompSet name id change)) same copies = absurd copies
      by (command.Lfs (lfs.Create name spec)) same copies = absurd copies
      by (command.Lfs (lfs.ExtendBy name victim)) same copies = absurd copies
      by (command.Lfs (lfs.Split name mirror to)) same copies = absurd copies
      by (command.Lfs (lfs.Delete name mirror)) same copies = absurd copies
      by (command.Lfs (lfs.Verify name)) same copies = absurd copies
      by (command.Read name offset len) same copies = absurd copies
      by (command.Write name offset bytes) same copies = absurd copies
      by (command.Truncate name size) same copies = absurd copies
      by (command.Evict other) same copies = absurd copies
      by (command.Rot object offset byte) same copies = absurd copies
