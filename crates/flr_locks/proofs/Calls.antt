-- What the step of a client grants.
use Rattle.std.proofs.Common.{◌≡◌, ℕ, false, List, [], refl, sym, subst}
use Rattle.extent_lock.specs.declared.lock.Lock.{Lock}
use Rattle.extent_lock.specs.Extents.{locks_of}
use Rattle.lfs_words.specs.declared.command.LfsCommand.{LfsCommand}
use Rattle.lfs_words.specs.declared.command.LfsCommand.TheVariants as lfs
use Rattle.script_values.specs.declared.command.Command.{Command}
use Rattle.script_values.specs.declared.command.Command.TheVariants as command
use Rattle.flr_base.specs.declared.reply.Reply.{Reply}
use Rattle.meta_server.specs.Outcomes.{Gives, Refuses, Waits}
use Rattle.meta_server.specs.Outcomes as meta
use Rattle.mirror_admin.specs.OneStep.{one_step}
use Rattle.call_steps.specs.Servers.{Servers}
use Rattle.call_steps.specs.Steps.{Outcome, Going, Fixed, Ended, Answered, Blocked, widen}
use Rattle.client_read.specs.Reads.{read_step}
use Rattle.client_write.specs.Truncates.{truncate_step}
use Rattle.client_write.specs.Writes.{write_step}
use Rattle.mirror_verify.specs.Verifies.{verify_step}
use Rattle.mirror_verify.specs.Views.{VerifyView}
use Rattle.resync_copy.specs.declared.merge_phase.MergeStage.{MergeStage}
use Rattle.resync_copy.specs.declared.merge_phase.MergeStage.TheVariants as merge
use Rattle.resync_copy.specs.declared.phase.CopyAt.{CopyAt}
use Rattle.resync_copy.specs.declared.phase.CopyAt.TheVariants as copy
use Rattle.resync_copy.specs.declared.phase.CopyStage.{CopyStage}
use Rattle.resync_copy.specs.declared.phase.CopyStage.TheVariants as stage
use Rattle.mirror_verify.specs.declared.phase.VerifyAt.{VerifyAt}
use Rattle.mirror_verify.specs.declared.phase.VerifyAt.TheVariants as verify
use Rattle.resync_copy.specs.Calls.{CopyView}
use Rattle.resync_copy.specs.Steps.{copy_step}
use Rattle.flr_steps.specs.declared.client.Running.{Running}
use Rattle.flr_steps.specs.declared.client.Running.TheVariants as running
use Rattle.flr_steps.specs.Clients.{call_now}
use Rattle.flr_steps.specs.Commands.{answered_by, at_once, begun, begun_lfs, step_of}
use Rattle.flr_numbers.specs.Calls.{verify_hand}
use Rattle.flr_numbers.specs.Copies.{copy_hand, merge_hand, stage_hand}
use Rattle.flr_numbers.specs.Hands.{Fine, Good}
use Rattle.flr_numbers.specs.Sentences.{IsCallOf, hand_of}
use Rattle.flr_locks.specs.Phases.{AreCutLocks, AreLocksOf, AreReadLocks, AreWriteLocks}
use Rattle.flr_locks.proofs.Granting.{Granted, Grants, free_none, widened}
use Rattle.flr_locks.proofs.ReadLocks.{read_grants}
use Rattle.flr_locks.proofs.CutLocks.{truncate_grants}
use Rattle.flr_locks.proofs.WriteLocks.{write_grants}

-- ---- a call that begins

begun_lfs_locks : (c : ℕ) (of : LfsCommand) (own : List Lock) → own ≡ [] → AreLocksOf (begun_lfs c of) own
begun_lfs_locks c (lfs.Resync name only) own none = none
begun_lfs_locks c (lfs.Extend name spec) own none = none
begun_lfs_locks c (lfs.ExtendBy name victim) own none = none
begun_lfs_locks c (lfs.Verify name) own none = none
begun_lfs_locks c (lfs.SetStripe name spec) own none = none
begun_lfs_locks c (lfs.GetStripe name) own none = none
begun_lfs_locks c (lfs.CompSet name id change) own none = none
begun_lfs_locks c (lfs.Create name spec) own none = none
begun_lfs_locks c (lfs.Split name mirror to) own none = none
begun_lfs_locks c (lfs.Delete name mirror) own none = none

begun_locks : (c : ℕ) (asked : Command) (own : List Lock) → own ≡ [] → AreLocksOf (begun c asked) own
begun_locks c (command.Read name offset len) own none = none
begun_locks c (command.Write name offset bytes) own none = none
begun_locks c (command.Truncate name size) own none = none
begun_locks c (command.Lfs of) own none = begun_lfs_locks c of own none
begun_locks c (command.Evict other) own none = none
begun_locks c (command.Rot object offset byte) own none = none

-- the locks are those of the call that the client's step is of
pub locks_now : (c : ℕ) (asked : Command) (call : Running) (own : List Lock) → AreLocksOf call own → AreLocksOf (call_now c call asked) own
locks_now c asked running.Idle own h = begun_locks c asked own h
locks_now c asked (running.Read call) own h = h
locks_now c asked (running.Write call) own h = h
locks_now c asked (running.Truncate call) own h = h
locks_now c asked (running.Copy call) own h = h
locks_now c asked (running.Verify call) own h = h

-- ---- its step

-- a call that has no locks in hand is left with none
module _ (c : ℕ) (s : Servers) where
  none_left : (call : Running) (after : Servers) → (hand_of call).locks ≡ false → ((own : List Lock) → own ≡ [] → AreLocksOf call own) → Good c s (hand_of call) after → Granted c s.locks call after.locks
  none_left call after never lists good = let none : locks_of c after.locks ≡ [] = good.has.locks never in record { own = lists (locks_of c after.locks) none; free = free_none c s.locks after.locks none }

  verify_never : (a : VerifyAt) → (verify_hand a).locks ≡ false
  verify_never verify.Open = refl
  verify_never (verify.Take x next) = refl
  verify_never (verify.Close x fault) = refl

  stage_never : (a : CopyStage) → (stage_hand a).locks ≡ false
  stage_never (stage.Fence x next) = refl
  stage_never (stage.Reset x next) = refl
  stage_never (stage.Settle x) = refl
  stage_never (stage.Take h) = refl
  stage_never (stage.Put h bytes) = refl
  stage_never (stage.Done key cleared left) = refl

  merge_never : (a : MergeStage) → (merge_hand a).locks ≡ false
  merge_never (merge.Fence x next) = refl
  merge_never (merge.Settle x) = refl
  merge_never (merge.TakeOurs p) = refl
  merge_never (merge.TakeTheirs p ours) = refl
  merge_never (merge.Done ours theirs refusal) = refl

  copy_never : (a : CopyAt) → (copy_hand a).locks ≡ false
  copy_never copy.Begin = refl
  copy_never (copy.Copy next) = stage_never next
  copy_never (copy.Merge next) = merge_never next

  verify_grants : (o : Outcome VerifyView) → Fine c hand_of (IsCallOf c) s (widen running.Verify o) → Grants (λ (x : Running). x) c s.locks (widen running.Verify o)
  verify_grants (Going next after) fine = none_left (running.Verify next) after (verify_never next.at) (λ own none. none) fine.0
  verify_grants (Fixed next reply takes after) fine = none_left (running.Verify next) after (verify_never next.at) (λ own none. none) fine.0
  verify_grants (Ended after) fine = tt
  verify_grants (Answered reply takes after) fine = tt
  verify_grants (Blocked holder) fine = tt

  copy_grants : (o : Outcome CopyView) → Fine c hand_of (IsCallOf c) s (widen running.Copy o) → Grants (λ (x : Running). x) c s.locks (widen running.Copy o)
  copy_grants (Going next after) fine = none_left (running.Copy next) after (copy_never next.at) (λ own none. none) fine.0
  copy_grants (Fixed next reply takes after) fine = none_left (running.Copy next) after (copy_never next.at) (λ own none. none) fine.0
  copy_grants (Ended after) fine = tt
  copy_grants (Answered reply takes after) fine = tt
  copy_grants (Blocked holder) fine = tt

  answered_grants : (o : meta.Outcome Reply) → Grants (λ (x : Running). x) c s.locks (answered_by s o)
  answered_grants (Gives answer after) = tt
  answered_grants (Refuses answer) = tt
  answered_grants (Waits holder) = tt

  once_grants : (asked : Command) (place : ℕ) → Grants (λ (x : Running). x) c s.locks (at_once c asked place s)
  once_grants (command.Lfs of) place = answered_grants (one_step c of place s.meta)
  once_grants (command.Evict other) place = tt
  once_grants (command.Rot object offset byte) place = tt
  once_grants (command.Read name offset len) place = tt
  once_grants (command.Write name offset bytes) place = tt
  once_grants (command.Truncate name size) place = tt

  -- each step
  pub step_grants : (call : Running) (asked : Command) (place : ℕ) → IsCallOf c call → AreLocksOf call (locks_of c s.locks) → Fine c hand_of (IsCallOf c) s (step_of call c asked place s) → Grants (λ (x : Running). x) c s.locks (step_of call c asked place s)
  step_grants running.Idle asked place is h fine = once_grants asked place
  step_grants (running.Read call) asked place is h fine =
      widened running.Read c s.locks (read_step call place s)
      (subst (λ n. Grants running.Read n s.locks (read_step call place s)) is (read_grants call s call.at (subst (λ n. AreReadLocks call call.at (locks_of n s.locks)) (sym is) h)))
  step_grants (running.Write call) asked place is h fine =
      widened running.Write c s.locks (write_step call place s)
      (subst (λ n. Grants running.Write n s.locks (write_step call place s)) is.0 (write_grants call s call.at place is.2 (subst (λ n. AreWriteLocks call call.at (locks_of n s.locks)) (sym is.0) h)))
  step_grants (running.Truncate call) asked place is h fine =
      widened running.Truncate c s.locks (truncate_step call place s)
      (subst (λ n. Grants running.Truncate n s.locks (truncate_step call place s)) is.0 (truncate_grants call s call.at place (subst (λ n. AreCutLocks call call.at (locks_of n s.locks)) (sym is.0) h)))
  step_grants (running.Copy call) asked place is h fine = copy_grants (copy_step call place s) fine
  step_grants (running.Verify call) asked place is h fine = verify_grants (verify_step call place s) fine
