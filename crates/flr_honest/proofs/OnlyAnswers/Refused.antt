-- A call that is refused has no other answer.
use Rattle.std.proofs.Common.{◌≡◌, ◌⊎◌, ◌<◌, ℕ, List, inl, inr, arith}
use Rattle.flr_base.specs.declared.reply.FailedCall.{FailedCall}
use Rattle.flr_base.specs.declared.reply.Left.{Left}
use Rattle.flr_base.specs.declared.reply.Reply.{Reply}
use Rattle.flr_base.specs.declared.reply.Reply.TheVariants as reply
use Rattle.lfs_words.specs.declared.command.LfsCommand.{LfsCommand}
use Rattle.lfs_words.specs.declared.command.LfsCommand.TheVariants as lfs
use Rattle.lfs_words.specs.declared.command.SplitTo.{SplitTo}
use Rattle.lfs_words.specs.declared.command.SplitTo.TheVariants as split
use Rattle.script_values.specs.declared.command.Command.{Command}
use Rattle.script_values.specs.declared.command.Command.TheVariants as command
use Rattle.flr_claims.specs.Calls.{Call}
use Rattle.flr_claims.specs.Causes as causes
use Rattle.flr_claims.specs.Causes.{Answers, IsGranted, IsRefused}
use Rattle.flr_claims.specs.Merging.{HasFenceFailed, HasNoSource}
use Rattle.flr_claims.specs.Replies.{RefusalsAreAlone}

module _ (k : Call) where
  -- nothing refuses the call, and it is answered at once, or it is answered later than it opened its file
  abbrev IsFree : Type 0
  IsFree = IsGranted k ⊎ (k.did.opened < k.at)

  free_made : (answer : Reply) → causes.MakesFile k answer → IsFree
  free_made reply.Created h = inl h
  free_made other h = absurd h

  free_told : (answer : Reply) → causes.TellsLayout k answer → IsFree
  free_told (reply.Layout text) h = inl h.0
  free_told other h = absurd h

  free_set : (answer : Reply) → causes.SetsFlags k answer → IsFree
  free_set reply.Set h = inl h
  free_set other h = absurd h

  free_split : (to : List ℕ) (answer : Reply) → causes.SplitsOff k to answer → IsFree
  free_split to (reply.Split name) h = inl h.0
  free_split to other h = absurd h

  free_removed : (mirror : ℕ) (answer : Reply) → causes.RemovesMirror k mirror answer → IsFree
  free_removed mirror (reply.Removed id) h = inl h.0
  free_removed mirror other h = absurd h

  free_evicted : (client : ℕ) (answer : Reply) → causes.EvictsClient k client answer → IsFree
  free_evicted client (reply.EvictedClient other) h = inl h.0
  free_evicted client other h = absurd h

  free_read : (offset len : ℕ) (answer : Reply) → causes.ReadsBytes k offset len answer → IsFree
  free_read offset len (reply.Bytes bytes) h = inr h.held.later
  free_read offset len (reply.Fault byte calls) h = inr h.1.held.later
  free_read offset len other h = absurd h

  free_written : (answer : Reply) → causes.WritesBytes k answer → IsFree
  free_written reply.Written h = inr h.1.sending.opened.later
  free_written (reply.WriteFault call) h = inr h.1.sending.opened.later
  free_written (reply.Evicted place) h = inr h.1.sending.opened.later
  free_written other h = absurd h

  free_truncated : (answer : Reply) → causes.TruncatesFile k answer → IsFree
  free_truncated reply.Truncated h = inr h.1.sending.opened.later
  free_truncated (reply.WriteFault call) h = inr h.1.sending.opened.later
  free_truncated (reply.Evicted place) h = inr h.1.sending.opened.later
  free_truncated other h = absurd h

  free_copied : (cleared : List ℕ) (left : List Left) → causes.IsCopyOfOne k cleared left → IsFree
  free_copied cleared left (causes.OfNothing granted selected none no_left) = inl granted
  free_copied cleared left (causes.OfSome f ids later some right) = inr right.begun.opened.later

  free_copy : (answer : Reply) → causes.CopiesFile k answer → IsFree
  free_copy (reply.Copied cleared left) h = free_copied cleared left h
  free_copy (reply.Broken place) h = inr h.2.later
  free_copy other h = absurd h

  free_fault : (call : FailedCall) → HasFenceFailed k call ⊎ HasNoSource k call → IsFree
  free_fault call (inl h) = inr h.leased.begun.later
  free_fault call (inr h) = inr h.sizes.leased.begun.later

  free_merge : (answer : Reply) → causes.TakesFileIn k answer → IsFree
  free_merge (reply.Merged ids) h = inr h.1.2.sizes.leased.begun.later
  free_merge (reply.Broken place) h = inr h.3.later
  free_merge (reply.DifferAt offset ours theirs) h = inr h.1.sizes.leased.begun.later
  free_merge (reply.Sizes ours theirs) h = inr h.1.sizes.leased.begun.later
  free_merge (reply.CopyFault call) h = free_fault call h.1
  free_merge other h = absurd h

  free_compared : (answer : Reply) → causes.ComparesMirrors k answer → IsFree
  free_compared (reply.Same count) h = inr h.1.1.verified.opened.later
  free_compared (reply.Differ entries) h = inr h.2.1.verified.opened.later
  free_compared (reply.VerifyFault call) h = inr h.1.verified.opened.later
  free_compared other h = absurd h

  free_rotted : (answer : Reply) → causes.LetsRot k answer → IsFree
  free_rotted reply.Rotted h = inl h
  free_rotted other h = absurd h

  free_split_to : (name : List ℕ) (mirror : ℕ) (to : SplitTo) (answer : Reply) → causes.SplitsTo k name mirror to answer → IsFree
  free_split_to name mirror split.Default answer h = free_split _ answer h
  free_split_to name mirror (split.Named new) answer h = free_split new answer h
  free_split_to name mirror split.Destroy answer h = free_removed mirror answer h

  free_lfs : (of : LfsCommand) (answer : Reply) → causes.LfsAnswers k of answer → IsFree
  free_lfs (lfs.SetStripe name spec) answer h = free_made answer h
  free_lfs (lfs.GetStripe name) answer h = free_told answer h
  free_lfs (lfs.CompSet name id change) answer h = free_set answer h
  free_lfs (lfs.Create name spec) answer h = free_made answer h
  free_lfs (lfs.Extend name spec) answer h = free_copy answer h
  free_lfs (lfs.ExtendBy name victim) answer h = free_merge answer h
  free_lfs (lfs.Split name mirror to) answer h = free_split_to name mirror to answer h
  free_lfs (lfs.Delete name mirror) answer h = free_removed mirror answer h
  free_lfs (lfs.Resync name only) answer h = free_copy answer h
  free_lfs (lfs.Verify name) answer h = free_compared answer h

  free : (asked : Command) (answer : Reply) → Answers k asked answer → IsFree
  free (command.Read name offset len) answer h = free_read offset len answer h
  free (command.Write name offset bytes) answer h = free_written answer h
  free (command.Truncate name size) answer h = free_truncated answer h
  free (command.Lfs of) answer h = free_lfs of answer h
  free (command.Evict client) answer h = free_evicted client answer h
  free (command.Rot object offset byte) answer h = free_rotted answer h

  none_free : (answer : Reply) → IsRefused k answer → IsFree → ⊥
  none_free answer h (inl granted) = let same = h.1 in let none = granted.1 in absurd (cc)
  none_free answer h (inr later) = omega (arith, h.0, later)

  same_refusal : (answer other : Reply) → IsRefused k answer → IsRefused k other → other ≡ answer
  same_refusal answer other h o = let one = h.1 in let two = o.1 in cc

pub refusals_are_alone : RefusalsAreAlone
refusals_are_alone k answer h other (inl o) = same_refusal k answer other h o
refusals_are_alone k answer h other (inr o) = absurd (none_free k answer h (free k k.asked other o))
