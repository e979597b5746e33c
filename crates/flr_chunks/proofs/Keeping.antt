-- What each step keeps of the calls of all clients.
use Rattle.std.proofs.Common.{ℕ, ◌-◌, set, sym, subst}
use Rattle.std.specs.List.{AllByRecursion}
use Rattle.flr_base.specs.declared.reply.Reply.{Reply}
use Rattle.lfs_words.specs.declared.command.LfsCommand.{LfsCommand}
use Rattle.lfs_words.specs.declared.command.LfsCommand.TheVariants as lfs
use Rattle.script_values.specs.declared.command.Command.{Command}
use Rattle.script_values.specs.declared.command.Command.TheVariants as command
use Rattle.meta_server.specs.Outcomes.{Gives, Refuses, Waits}
use Rattle.meta_server.specs.Outcomes as meta
use Rattle.meta_server.specs.Sound.{IsSound}
use Rattle.mirror_admin.specs.OneStep.{one_step}
use Rattle.call_steps.specs.Servers.{Servers}
use Rattle.call_steps.specs.Steps.{Outcome, Going, Fixed, Ended, Answered, Blocked}
use Rattle.client_read.specs.Reads.{read_step}
use Rattle.client_write.specs.Truncates.{truncate_step}
use Rattle.client_write.specs.Writes.{write_step}
use Rattle.mirror_verify.specs.Verifies.{verify_step}
use Rattle.resync_copy.specs.declared.phase.CopyAt.{CopyAt}
use Rattle.resync_copy.specs.declared.phase.CopyAt.TheVariants as at
use Rattle.resync_copy.specs.Calls.{CopyView}
use Rattle.resync_copy.specs.Steps.{copy_at, copy_step}
use Rattle.flr_steps.specs.declared.client.Client.{Client}
use Rattle.flr_steps.specs.declared.client.Running.{Running}
use Rattle.flr_steps.specs.declared.client.Running.TheVariants as running
use Rattle.flr_steps.specs.Clients.{call_now, first_now, going, over}
use Rattle.flr_steps.specs.Commands.{answered_by, at_once, begun, begun_lfs, step_of}
use Rattle.flr_steps.specs.States.{State, place_in}
use Rattle.flr_steps.specs.Steps.{LeavesState, StepIs}
use Rattle.flr_sizes.proofs.Steps.{got_at, put}
use Rattle.flr_chunks.specs.Sentences.{AreFewMirrors}
use Rattle.flr_chunks.proofs.Begins.{begin_knows}
use Rattle.flr_chunks.proofs.Leading.{Leads, free, widened}
use Rattle.flr_chunks.proofs.Stages.{CopyWillKnow, KnowsAt, merge_knows, stage_knows}

-- what a call knows of its chunks, where files have at most so many mirrors
abbrev pub Knows : ℕ → Running → Type 0
Knows most running.Idle = Unit {0}
Knows most (running.Read call) = Unit {0}
Knows most (running.Write call) = Unit {0}
Knows most (running.Truncate call) = Unit {0}
Knows most (running.Copy call) = KnowsAt most call.at
Knows most (running.Verify call) = Unit {0}

-- the calls of all clients know it
abbrev pub AllKnow : State → Type 0
AllKnow s = AllByRecursion (λ (client : Client). Knows s.script.most client.call) s.clients

-- a call that goes on knows it where the metadata server is sound and files have few mirrors
abbrev WillKnow : ℕ → Running → Servers → Type 0
WillKnow most next after = IsSound after.meta → AreFewMirrors most after.meta → Knows most next

-- ---- a call that begins

lfs_knows : (most c : ℕ) (of : LfsCommand) → Knows most (begun_lfs c of)
lfs_knows most c (lfs.Resync name only) = tt
lfs_knows most c (lfs.Extend name spec) = tt
lfs_knows most c (lfs.ExtendBy name victim) = tt
lfs_knows most c (lfs.Verify name) = tt
lfs_knows most c (lfs.SetStripe name spec) = tt
lfs_knows most c (lfs.GetStripe name) = tt
lfs_knows most c (lfs.CompSet name id change) = tt
lfs_knows most c (lfs.Create name spec) = tt
lfs_knows most c (lfs.Split name mirror to) = tt
lfs_knows most c (lfs.Delete name mirror) = tt

begun_knows : (most c : ℕ) (asked : Command) → Knows most (begun c asked)
begun_knows most c (command.Read name offset len) = tt
begun_knows most c (command.Write name offset bytes) = tt
begun_knows most c (command.Truncate name size) = tt
begun_knows most c (command.Lfs of) = lfs_knows most c of
begun_knows most c (command.Evict other) = tt
begun_knows most c (command.Rot object offset byte) = tt

now_knows : (most c : ℕ) (asked : Command) (call : Running) → Knows most call → Knows most (call_now c call asked)
now_knows most c asked running.Idle h = begun_knows most c asked
now_knows most c asked (running.Read call) h = h
now_knows most c asked (running.Write call) h = h
now_knows most c asked (running.Truncate call) h = h
now_knows most c asked (running.Copy call) h = h
now_knows most c asked (running.Verify call) h = h

-- ---- its step

module _ (most c place : ℕ) (s : Servers) where
  answered_knows : (o : meta.Outcome Reply) → Leads (WillKnow most) (answered_by s o)
  answered_knows (Gives answer after) = tt
  answered_knows (Refuses answer) = tt
  answered_knows (Waits holder) = tt

  once_knows : (asked : Command) → Leads (WillKnow most) (at_once c asked place s)
  once_knows (command.Lfs of) = answered_knows (one_step c of place s.meta)
  once_knows (command.Evict other) = tt
  once_knows (command.Rot object offset byte) = tt
  once_knows (command.Read name offset len) = tt
  once_knows (command.Write name offset bytes) = tt
  once_knows (command.Truncate name size) = tt

  copy_knows : (call : CopyView) (a : CopyAt) → IsSound s.meta → KnowsAt most a → Leads (CopyWillKnow most) (copy_at a call s)
  copy_knows call at.Begin sound h = begin_knows most call s sound
  copy_knows call (at.Copy next) sound h = stage_knows most call s next h
  copy_knows call (at.Merge next) sound h = merge_knows most call s h next

  step_knows : (call : Running) (asked : Command) → IsSound s.meta → Knows most call → Leads (WillKnow most) (step_of call c asked place s)
  step_knows running.Idle asked sound h = once_knows asked
  step_knows (running.Read call) asked sound h = free (WillKnow most) running.Read (λ x after sound few. tt) (read_step call place s)
  step_knows (running.Write call) asked sound h = free (WillKnow most) running.Write (λ x after sound few. tt) (write_step call place s)
  step_knows (running.Truncate call) asked sound h = free (WillKnow most) running.Truncate (λ x after sound few. tt) (truncate_step call place s)
  step_knows (running.Copy call) asked sound h = widened (CopyWillKnow most) (WillKnow most) running.Copy (λ x after k. k) (copy_step call place s) (copy_knows call call.at sound h)
  step_knows (running.Verify call) asked sound h = free (WillKnow most) running.Verify (λ x after sound few. tt) (verify_step call place s)

-- ---- the state

module _ (s : State) (c : ℕ) (client : Client) (first : ℕ) (h : AllKnow s) where
  new_knows : (new : Client) → Knows s.script.most new.call → AllByRecursion (λ (x : Client). Knows s.script.most x.call) (set s.clients (c - 1) new)
  new_knows new k = put (λ (x : Client). Knows s.script.most x.call) s.clients (c - 1) new h k

  left_know : (came : Outcome Running) (t : State) → Leads (WillKnow s.script.most) came → LeavesState s c client first came t → IsSound t.shared.meta → AreFewMirrors t.script.most t.shared.meta → AllKnow t
  left_know (Going next after) t k left sound few =
      subst AllKnow (sym left) (new_knows (going client first next) (k (subst (λ (u : State). IsSound u.shared.meta) left sound) (subst (λ (u : State). AreFewMirrors u.script.most u.shared.meta) left few)))
  left_know (Fixed next reply takes after) t k left sound few =
      subst AllKnow (sym left) (new_knows (going client first next) (k (subst (λ (u : State). IsSound u.shared.meta) left sound) (subst (λ (u : State). AreFewMirrors u.script.most u.shared.meta) left few)))
  left_know (Ended after) t k left sound few = subst AllKnow (sym left) (new_knows (over client first) tt)
  left_know (Answered reply takes after) t k left sound few = subst AllKnow (sym left) (new_knows (over client first) tt)
  left_know (Blocked holder) t k left sound few = absurd left

-- each step, where it leaves the metadata server sound and files with few mirrors
pub all_know : (s t : State) (c : ℕ) → IsSound s.shared.meta → AllKnow s → StepIs s c t → IsSound t.shared.meta → AreFewMirrors t.script.most t.shared.meta → AllKnow t
all_know s t c sound all step sound_after few =
    let client : Client = step.client in
    let most : ℕ = s.script.most in
    let k : Knows most (call_now c client.call step.asked) = now_knows most c step.asked client.call (got_at (λ (x : Client). Knows most x.call) s.clients c client all step.here) in
    left_know s c client (first_now client.call (place_in s) client.first) all step.came t
    (subst (Leads (WillKnow most)) step.made (step_knows most c (place_in s) s.shared (call_now c client.call step.asked) step.asked sound k)) step.left sound_after few
