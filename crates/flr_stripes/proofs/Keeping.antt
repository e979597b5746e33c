-- What each step keeps of the calls of all clients.
use Rattle.std.proofs.Common.{ℕ, ◌-◌, length, set, sym, subst}
use Rattle.std.specs.List.{AllByRecursion}
use Rattle.flr_base.specs.declared.reply.Reply.{Reply}
use Rattle.layout_lease.specs.Clients.{IsClient}
use Rattle.lfs_words.specs.declared.command.LfsCommand.{LfsCommand}
use Rattle.lfs_words.specs.declared.command.LfsCommand.TheVariants as lfs
use Rattle.script_values.specs.declared.command.Command.{Command}
use Rattle.script_values.specs.declared.command.Command.TheVariants as command
use Rattle.script_values.specs.Commands.{IsCommand}
use Rattle.meta_server.specs.Outcomes.{Gives, Refuses, Waits}
use Rattle.meta_server.specs.Outcomes as meta
use Rattle.mirror_admin.specs.OneStep.{one_step}
use Rattle.call_steps.specs.Servers.{Servers}
use Rattle.call_steps.specs.Steps.{Outcome, Going, Fixed, Ended, Answered, Blocked}
use Rattle.client_read.specs.Reads.{read_step}
use Rattle.client_write.specs.Calls.{TruncateView}
use Rattle.client_write.specs.Truncates.{truncate_step}
use Rattle.client_write.specs.Writes.{write_step}
use Rattle.mirror_verify.specs.Verifies.{verify_step}
use Rattle.resync_copy.specs.Calls.{CopyView}
use Rattle.resync_copy.specs.Steps.{copy_step}
use Rattle.flr_steps.specs.declared.client.Client.{Client}
use Rattle.flr_steps.specs.declared.client.Running.{Running}
use Rattle.flr_steps.specs.declared.client.Running.TheVariants as running
use Rattle.flr_steps.specs.Clients.{call_now, first_now, going, over}
use Rattle.flr_steps.specs.Commands.{answered_by, at_once, begun, begun_lfs, step_of}
use Rattle.flr_steps.specs.States.{State, place_in}
use Rattle.flr_steps.specs.Steps.{LeavesState, StepIs}
use Rattle.flr_numbers.specs.Hands.{AreServers, Has, HasRoom}
use Rattle.flr_numbers.specs.Copies.{hand_of_copy}
use Rattle.flr_numbers.specs.Sentences as numbers
use Rattle.flr_numbers.specs.Sentences.{Holds, IsCallOf, hand_of}
use Rattle.flr_numbers.proofs.Clients.{has_now, is_now}
use Rattle.flr_numbers.proofs.Commands.{is_command}
use Rattle.flr_numbers.proofs.Keeping.{is_client}
use Rattle.flr_bound.proofs.Outcomes.{OnLeft, OnNext, next_widened}
use Rattle.flr_bound.proofs.Runs.{all_got, all_put, at_place}
use Rattle.flr_work.specs.Known.{stripes_of_script}
use Rattle.flr_stripes.specs.Sentences.{CopiesFewAt, HoldsFew, IsShort, IsShortCut}
use Rattle.flr_stripes.proofs.Copying.{copy_few}
use Rattle.flr_stripes.proofs.Cutting.{truncate_short}
use Rattle.flr_stripes.proofs.Files.{HasAtMost}
use Rattle.flr_stripes.proofs.Leading.{left_narrowed, next_of}

-- a call has few tails and few objects in hand
abbrev pub Knows : ℕ → Running → Type 0
Knows n call = IsShort n call × HoldsFew n call

-- so have the calls of all clients
abbrev pub AllKnow : State → Type 0
AllKnow s = AllByRecursion (λ (client : Client). Knows (stripes_of_script s.script) client.call) s.clients

-- ---- a call that begins

lfs_knows : (n c : ℕ) (of : LfsCommand) → Knows n (begun_lfs c of)
lfs_knows n c (lfs.Resync name only) = (tt, tt)
lfs_knows n c (lfs.Extend name spec) = (tt, tt)
lfs_knows n c (lfs.ExtendBy name victim) = (tt, tt)
lfs_knows n c (lfs.Verify name) = (tt, tt)
lfs_knows n c (lfs.SetStripe name spec) = (tt, tt)
lfs_knows n c (lfs.GetStripe name) = (tt, tt)
lfs_knows n c (lfs.CompSet name id change) = (tt, tt)
lfs_knows n c (lfs.Create name spec) = (tt, tt)
lfs_knows n c (lfs.Split name mirror to) = (tt, tt)
lfs_knows n c (lfs.Delete name mirror) = (tt, tt)

begun_knows : (n c : ℕ) (asked : Command) → Knows n (begun c asked)
begun_knows n c (command.Read name offset len) = (tt, tt)
begun_knows n c (command.Write name offset bytes) = (tt, tt)
begun_knows n c (command.Truncate name size) = (tt, tt)
begun_knows n c (command.Lfs of) = lfs_knows n c of
begun_knows n c (command.Evict other) = (tt, tt)
begun_knows n c (command.Rot object offset byte) = (tt, tt)

now_knows : (n c : ℕ) (asked : Command) (call : Running) → Knows n call → Knows n (call_now c call asked)
now_knows n c asked running.Idle k = begun_knows n c asked
now_knows n c asked (running.Read call) k = k
now_knows n c asked (running.Write call) k = k
now_knows n c asked (running.Truncate call) k = k
now_knows n c asked (running.Copy call) k = k
now_knows n c asked (running.Verify call) k = k

-- ---- its step

module _ (n c place : ℕ) (s : Servers) where
  answered_knows : (o : meta.Outcome Reply) → OnNext (Knows n) (answered_by s o)
  answered_knows (Gives answer after) = tt
  answered_knows (Refuses answer) = tt
  answered_knows (Waits holder) = tt

  once_knows : (asked : Command) → OnNext (Knows n) (at_once c asked place s)
  once_knows (command.Lfs of) = answered_knows (one_step c of place s.meta)
  once_knows (command.Evict other) = tt
  once_knows (command.Rot object offset byte) = tt
  once_knows (command.Read name offset len) = tt
  once_knows (command.Write name offset bytes) = tt
  once_knows (command.Truncate name size) = tt

  step_knows : (call : Running) (asked : Command) → IsClient c → HasRoom s.meta → AreServers s.meta s.targets → Has c s.meta s.locks (hand_of call) → IsCallOf c call → Knows n call → OnLeft (HasAtMost n) (step_of call c asked place s) → OnNext (Knows n) (step_of call c asked place s)
  step_knows running.Idle asked is room h has of k most = once_knows asked
  step_knows (running.Read call) asked is room h has of k most = next_of (Knows n) running.Read (λ x. (tt, tt)) (read_step call place s)
  step_knows (running.Write call) asked is room h has of k most = next_of (Knows n) running.Write (λ x. (tt, tt)) (write_step call place s)
  step_knows (running.Truncate call) asked is room h has of k most =
      next_widened (λ (x : TruncateView). IsShortCut n x.at) (Knows n) running.Truncate (truncate_step call place s) (λ x few. (few, tt))
      (truncate_short n call s call.at place h.sound k.0 (left_narrowed (HasAtMost n) running.Truncate (truncate_step call place s) most))
  step_knows (running.Copy call) asked is room h has of k most =
      next_widened (λ (x : CopyView). CopiesFewAt n x.at) (Knows n) running.Copy (copy_step call place s) (λ x few. (tt, few))
      (copy_few n call s (subst IsClient (sym of.0) is) room h of.1 of.2 call.at (subst (λ m. Has m s.meta s.locks (hand_of_copy call)) (sym of.0) has) k.1 (left_narrowed (HasAtMost n) running.Copy (copy_step call place s) most))
  step_knows (running.Verify call) asked is room h has of k most = next_of (Knows n) running.Verify (λ x. (tt, tt)) (verify_step call place s)

-- ---- the state

module _ (s : State) (c : ℕ) (client : Client) (first : ℕ) where
  abbrev stripes : ℕ
  stripes = stripes_of_script s.script

  -- what holds of the state after a step holds of what the step left
  left_most : (came : Outcome Running) (t : State) → HasAtMost (stripes_of_script t.script) t.shared → LeavesState s c client first came t → OnLeft (HasAtMost stripes) came
  left_most (Going next after) t most left = subst (λ (x : State). HasAtMost (stripes_of_script x.script) x.shared) left most
  left_most (Fixed next reply takes after) t most left = subst (λ (x : State). HasAtMost (stripes_of_script x.script) x.shared) left most
  left_most (Ended after) t most left = subst (λ (x : State). HasAtMost (stripes_of_script x.script) x.shared) left most
  left_most (Answered reply takes after) t most left = subst (λ (x : State). HasAtMost (stripes_of_script x.script) x.shared) left most
  left_most (Blocked holder) t most left = tt

  new_knows : AllKnow s → (new : Client) → Knows stripes new.call → AllByRecursion (λ (x : Client). Knows stripes x.call) (set s.clients (c - 1) new)
  new_knows h new k = all_put (λ (x : Client). Knows stripes x.call) s.clients (c - 1) new h k

  left_know : AllKnow s → (came : Outcome Running) (t : State) → OnNext (Knows stripes) came → LeavesState s c client first came t → AllKnow t
  left_know h (Going next after) t k left = subst AllKnow (sym left) (new_knows h (going client first next) k)
  left_know h (Fixed next reply takes after) t k left = subst AllKnow (sym left) (new_knows h (going client first next) k)
  left_know h (Ended after) t k left = subst AllKnow (sym left) (new_knows h (over client first) (tt, tt))
  left_know h (Answered reply takes after) t k left = subst AllKnow (sym left) (new_knows h (over client first) (tt, tt))
  left_know h (Blocked holder) t k left = absurd left

-- each step
pub all_know : (s t : State) (c : ℕ) → Holds s → numbers.HasRoom s.shared → HasAtMost (stripes_of_script t.script) t.shared → AllKnow s → StepIs s c t → AllKnow t
all_know s t c h room most all step =
    let client : Client = step.client in
    let n : ℕ = stripes_of_script s.script in
    let of = h.clients c client step.here in
    let le = h.script.form.few_mirrors in
    let few = h.script.form.few_clients in
    let good : IsCommand s.script.most s.script.targets (length s.script.clients) step.asked = is_command s.script c client.done step.asked h.script step.commanded in
    let first : ℕ = first_now client.call (place_in s) client.first in
    left_know s c client first all step.came t
    (subst (OnNext (Knows n)) step.made
    (step_knows n c (place_in s) s.shared (call_now c client.call step.asked) step.asked (is_client s c client h step.here) room.meta h.servers
    (has_now c s.shared step.asked s.script.most s.script.targets (length s.script.clients) le few good client.call of.has)
    (is_now c s.shared step.asked s.script.most s.script.targets (length s.script.clients) le few good client.call of.call)
    (now_knows n c step.asked client.call (all_got (λ (x : Client). Knows n x.call) s.clients (c - 1) client all (at_place s.clients c client step.here)))
    (subst (OnLeft (HasAtMost n)) (sym step.made) (left_most s c client first step.came t most step.left))))
    step.left
