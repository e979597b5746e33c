-- What each step keeps of the files and of the calls of all clients.
use Rattle.std.proofs.Common.{ℕ, ◌-◌, ◌*◌, length, sym, subst}
use Rattle.std.specs.List.{AllByRecursion}
use Rattle.flr_base.specs.declared.reply.Reply.{Reply}
use Rattle.lfs_words.specs.declared.command.LfsCommand.{LfsCommand}
use Rattle.lfs_words.specs.declared.command.LfsCommand.TheVariants as lfs
use Rattle.script_values.specs.declared.command.Command.{Command}
use Rattle.script_values.specs.declared.command.Command.TheVariants as command
use Rattle.script_values.specs.Commands.{IsCommand}
use Rattle.script_values.specs.Work.{blocks_of}
use Rattle.meta_server.specs.Outcomes.{Gives, Refuses, Waits}
use Rattle.meta_server.specs.Outcomes as meta
use Rattle.meta_server.specs.Sound.{IsSound}
use Rattle.mirror_admin.specs.OneStep.{one_step}
use Rattle.call_steps.specs.Servers.{Servers}
use Rattle.call_steps.specs.Steps.{Outcome, Going, Fixed, Ended, Answered, Blocked}
use Rattle.client_read.specs.Reads.{read_step}
use Rattle.client_read.specs.Views.{ReadView}
use Rattle.client_write.specs.Calls.{TruncateView, WriteView}
use Rattle.client_write.specs.Truncates.{truncate_step}
use Rattle.client_write.specs.Writes.{write_step}
use Rattle.mirror_verify.specs.Verifies.{verify_step}
use Rattle.resync_copy.specs.Calls.{CopyView}
use Rattle.resync_copy.specs.Steps.{copy_step}
use Rattle.flr_steps.specs.declared.client.Client.{Client}
use Rattle.flr_steps.specs.declared.client.Running.{Running}
use Rattle.flr_steps.specs.declared.client.Running.TheVariants as running
use Rattle.flr_steps.specs.Clients.{call_now, first_now, going, over}
use Rattle.flr_steps.specs.Commands.{answered_by, at_once, begun, begun_lfs, step_of}
use Rattle.flr_steps.specs.States.{State, place_in}
use Rattle.flr_steps.specs.Steps.{LeavesState, StepIs}
use Rattle.flr_numbers.specs.Hands.{Has}
use Rattle.flr_numbers.specs.Sentences.{Holds, IsCallOf, hand_of}
use Rattle.flr_numbers.proofs.Clients.{has_now, is_now}
use Rattle.flr_numbers.proofs.Commands.{is_command}
use Rattle.flr_pieces.proofs.Leading.{Leads, free, widened}
use Rattle.flr_sizes.specs.Laws.{AreShort, end_of_script}
use Rattle.flr_sizes.proofs.Steps.{IsShort, got_at, put}
use Rattle.flr_work.specs.Known.{take_room}
use Rattle.flr_mirrors.proofs.Commands.{step_leaves}
use Rattle.flr_mirrors.proofs.Files.{HasFew}
use Rattle.flr_mirrors.proofs.Steps.{LeavesFew}
use Rattle.flr_mirrors.proofs.Verifying.{TakesFew, verify_few}

-- a call that is a verify takes no more copies than that
abbrev pub Knows : ℕ → Running → Type 0
Knows room running.Idle = Unit {0}
Knows room (running.Read call) = Unit {0}
Knows room (running.Write call) = Unit {0}
Knows room (running.Truncate call) = Unit {0}
Knows room (running.Copy call) = Unit {0}
Knows room (running.Verify call) = TakesFew room call

-- ---- a call that begins

lfs_knows : (room c : ℕ) (of : LfsCommand) → Knows room (begun_lfs c of)
lfs_knows room c (lfs.Resync name only) = tt
lfs_knows room c (lfs.Extend name spec) = tt
lfs_knows room c (lfs.ExtendBy name victim) = tt
lfs_knows room c (lfs.Verify name) = tt
lfs_knows room c (lfs.SetStripe name spec) = tt
lfs_knows room c (lfs.GetStripe name) = tt
lfs_knows room c (lfs.CompSet name id change) = tt
lfs_knows room c (lfs.Create name spec) = tt
lfs_knows room c (lfs.Split name mirror to) = tt
lfs_knows room c (lfs.Delete name mirror) = tt

begun_knows : (room c : ℕ) (asked : Command) → Knows room (begun c asked)
begun_knows room c (command.Read name offset len) = tt
begun_knows room c (command.Write name offset bytes) = tt
begun_knows room c (command.Truncate name size) = tt
begun_knows room c (command.Lfs of) = lfs_knows room c of
begun_knows room c (command.Evict other) = tt
begun_knows room c (command.Rot object offset byte) = tt

now_knows : (room c : ℕ) (asked : Command) (call : Running) → Knows room call → Knows room (call_now c call asked)
now_knows room c asked running.Idle k = begun_knows room c asked
now_knows room c asked (running.Read call) k = k
now_knows room c asked (running.Write call) k = k
now_knows room c asked (running.Truncate call) k = k
now_knows room c asked (running.Copy call) k = k
now_knows room c asked (running.Verify call) k = k

-- ---- its step

module _ (most end c place : ℕ) (s : Servers) where
  abbrev room : ℕ
  room = most * blocks_of 0 end

  answered_knows : (o : meta.Outcome Reply) → Leads (Knows room) (answered_by s o)
  answered_knows (Gives answer after) = tt
  answered_knows (Refuses answer) = tt
  answered_knows (Waits holder) = tt

  once_knows : (asked : Command) → Leads (Knows room) (at_once c asked place s)
  once_knows (command.Read name offset len) = tt
  once_knows (command.Write name offset bytes) = tt
  once_knows (command.Truncate name size) = tt
  once_knows (command.Lfs of) = answered_knows (one_step c of place s.meta)
  once_knows (command.Evict other) = tt
  once_knows (command.Rot object offset byte) = tt

  step_knows : (call : Running) (asked : Command) → IsSound s.meta → HasFew most s.meta → AreShort end s.meta.files → Knows room call → Leads (Knows room) (step_of call c asked place s)
  step_knows running.Idle asked sound few short k = once_knows asked
  step_knows (running.Read call) asked sound few short k = widened (λ (x : ReadView). Unit {0}) (Knows room) running.Read (λ x k. tt) (read_step call place s) (free (read_step call place s))
  step_knows (running.Write call) asked sound few short k = widened (λ (x : WriteView). Unit {0}) (Knows room) running.Write (λ x k. tt) (write_step call place s) (free (write_step call place s))
  step_knows (running.Truncate call) asked sound few short k = widened (λ (x : TruncateView). Unit {0}) (Knows room) running.Truncate (λ x k. tt) (truncate_step call place s) (free (truncate_step call place s))
  step_knows (running.Copy call) asked sound few short k = widened (λ (x : CopyView). Unit {0}) (Knows room) running.Copy (λ x k. tt) (copy_step call place s) (free (copy_step call place s))
  step_knows (running.Verify call) asked sound few short k = widened (TakesFew room) (Knows room) running.Verify (λ x k. k) (verify_step call place s) (verify_few most end call s sound few short call.at k)

-- ---- the state

-- files have few mirrors, and verifies take few copies
pub record Mirrored (s : State) : Type 0 where
  pub meta : HasFew s.script.most s.shared.meta
  pub calls : AllByRecursion (λ (client : Client). Knows (take_room s.script) client.call) s.clients

module _ (s : State) (c : ℕ) (client : Client) (first : ℕ) (h : Mirrored s) where
  abbrev Known : Client → Type 0
  Known x = Knows (take_room s.script) x.call

  left_mirrored : (came : Outcome Running) (t : State) → LeavesFew s.script.most came → Leads (Knows (take_room s.script)) came → LeavesState s c client first came t → Mirrored t
  left_mirrored (Going next after) t few k left = subst Mirrored (sym left) (record { meta = few; calls = put Known s.clients (c - 1) (going client first next) h.calls k })
  left_mirrored (Fixed next reply takes after) t few k left = subst Mirrored (sym left) (record { meta = few; calls = put Known s.clients (c - 1) (going client first next) h.calls k })
  left_mirrored (Ended after) t few k left = subst Mirrored (sym left) (record { meta = few; calls = put Known s.clients (c - 1) (over client first) h.calls tt })
  left_mirrored (Answered reply takes after) t few k left = subst Mirrored (sym left) (record { meta = few; calls = put Known s.clients (c - 1) (over client first) h.calls tt })
  left_mirrored (Blocked holder) t few k left = absurd left

-- each step
pub step_mirrored : (s t : State) (c : ℕ) → Holds s → IsShort s → Mirrored s → StepIs s c t → Mirrored t
step_mirrored s t c h short mirrored step =
    let client : Client = step.client in
    let of = h.clients c client step.here in
    let low = h.script.form.few_mirrors in
    let few = h.script.form.few_clients in
    let good : IsCommand s.script.most s.script.targets (length s.script.clients) step.asked = is_command s.script c client.done step.asked h.script step.commanded in
    let call : Running = call_now c client.call step.asked in
    let is : IsCallOf c call = is_now c s.shared step.asked s.script.most s.script.targets (length s.script.clients) low few good client.call of.call in
    let has : Has c s.shared.meta s.shared.locks (hand_of call) = has_now c s.shared step.asked s.script.most s.script.targets (length s.script.clients) low few good client.call of.has in
    let known : Knows (take_room s.script) call = now_knows (take_room s.script) c step.asked client.call (got_at (λ (x : Client). Knows (take_room s.script) x.call) s.clients c client mirrored.calls step.here) in
    left_mirrored s c client (first_now client.call (place_in s) client.first) mirrored step.came t
    (subst (λ (o : Outcome Running). LeavesFew s.script.most o) step.made
    (step_leaves s.script.most s.script.targets (length s.script.clients) h.script.form.some_mirrors low c (place_in s) s.shared mirrored.meta call step.asked good is has))
    (subst (Leads (Knows (take_room s.script))) step.made
    (step_knows s.script.most (end_of_script s.script) c (place_in s) s.shared call step.asked h.servers.sound mirrored.meta short.files known)) step.left
