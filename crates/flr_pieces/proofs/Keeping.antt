-- What each step keeps of the calls of all clients.
use Rattle.std.proofs.Common.{◌≡◌, ℕ, zero, suc, ◌-◌, Some, List, [], ◌∷◌, length, set, sym, subst, arith}
use Rattle.std.specs.Prelude.{slice_get}
use Rattle.std.specs.List.{AllByRecursion}
use Rattle.flr_base.specs.declared.reply.Reply.{Reply}
use Rattle.lfs_words.specs.declared.command.LfsCommand.{LfsCommand}
use Rattle.lfs_words.specs.declared.command.LfsCommand.TheVariants as lfs
use Rattle.script_values.specs.Commands.{IsCommand}
use Rattle.script_values.specs.declared.command.Command.{Command}
use Rattle.script_values.specs.declared.command.Command.TheVariants as command
use Rattle.meta_server.specs.Outcomes.{Gives, Refuses, Waits}
use Rattle.meta_server.specs.Outcomes as meta
use Rattle.meta_server.specs.Sound.{IsSound}
use Rattle.mirror_admin.specs.OneStep.{one_step}
use Rattle.call_steps.specs.Servers.{Servers}
use Rattle.call_steps.specs.Steps.{Outcome, Going, Fixed, Ended, Answered, Blocked}
use Rattle.client_read.specs.Reads.{read_step}
use Rattle.client_write.specs.Truncates.{truncate_step}
use Rattle.client_write.specs.Writes.{write_step}
use Rattle.mirror_verify.specs.Verifies.{verify_step}
use Rattle.mirror_verify.specs.Views.{VerifyView}
use Rattle.resync_copy.specs.Calls.{CopyView}
use Rattle.resync_copy.specs.Steps.{copy_step}
use Rattle.flr_steps.specs.declared.client.Client.{Client}
use Rattle.flr_steps.specs.declared.client.Running.{Running}
use Rattle.flr_steps.specs.declared.client.Running.TheVariants as running
use Rattle.flr_steps.specs.Clients.{call_now, first_now, going, over}
use Rattle.flr_steps.specs.Commands.{answered_by, at_once, begun, begun_lfs, step_of}
use Rattle.flr_steps.specs.States.{State, client_at, place_in}
use Rattle.flr_steps.specs.Steps.{LeavesState, StepIs}
use Rattle.flr_numbers.specs.Sentences.{Holds}
use Rattle.flr_numbers.proofs.Commands.{is_command}
use Rattle.flr_pieces.proofs.Leading.{Leads, free, widened}
use Rattle.flr_pieces.proofs.Reading.{Reads, read_knows}
use Rattle.flr_pieces.proofs.Writing.{Cuts, Writes, truncate_owns, write_owns}

-- what a call knows of itself
abbrev pub Knows : Running → Type 0
Knows running.Idle = Unit {0}
Knows (running.Read call) = Reads call
Knows (running.Write call) = Writes call
Knows (running.Truncate call) = Cuts call
Knows (running.Copy call) = Unit {0}
Knows (running.Verify call) = Unit {0}

-- the calls of all clients know it
abbrev pub AllKnow : State → Type 0
AllKnow s = AllByRecursion (λ (client : Client). Knows client.call) s.clients

-- ---- lists of clients

module _ (P : Client → Type 0) where
  got : (xs : List Client) (i : ℕ) (x : Client) → AllByRecursion P xs → slice_get xs i ≡ Some x → P x
  got [] i x h e = absurd (cc)
  got (y ∷ ys) zero x h e = let same : y ≡ x = cc in subst P same h.0
  got (y ∷ ys) (suc i) x h e = got ys i x h.1 e

  pub got_at : (xs : List Client) (c : ℕ) (x : Client) → AllByRecursion P xs → client_at xs c ≡ Some x → P x
  got_at xs zero x h e = absurd (cc)
  got_at xs (suc c) x h e = got xs c x h e

  put : (xs : List Client) (i : ℕ) (x : Client) → AllByRecursion P xs → P x → AllByRecursion P (set xs i x)
  put [] i x h k = tt
  put (y ∷ ys) zero x h k = (k, h.1)
  put (y ∷ ys) (suc i) x h k = (h.0, put ys i x h.1 k)

-- ---- a call that begins

lfs_knows : (c : ℕ) (of : LfsCommand) → Knows (begun_lfs c of)
lfs_knows c (lfs.Resync name only) = tt
lfs_knows c (lfs.Extend name spec) = tt
lfs_knows c (lfs.ExtendBy name victim) = tt
lfs_knows c (lfs.Verify name) = tt
lfs_knows c (lfs.SetStripe name spec) = tt
lfs_knows c (lfs.GetStripe name) = tt
lfs_knows c (lfs.CompSet name id change) = tt
lfs_knows c (lfs.Create name spec) = tt
lfs_knows c (lfs.Split name mirror to) = tt
lfs_knows c (lfs.Delete name mirror) = tt

begun_knows : (c most targets clients : ℕ) (asked : Command) → IsCommand most targets clients asked → Knows (begun c asked)
begun_knows c most targets clients (command.Read name offset len) h = (record { low = omega arith; high = omega (arith, h.1, h.2.1) }, tt)
begun_knows c most targets clients (command.Write name offset bytes) h = tt
begun_knows c most targets clients (command.Truncate name size) h = tt
begun_knows c most targets clients (command.Lfs of) h = lfs_knows c of
begun_knows c most targets clients (command.Evict other) h = tt
begun_knows c most targets clients (command.Rot object offset byte) h = tt

now_knows : (c most targets clients : ℕ) (asked : Command) (call : Running) → IsCommand most targets clients asked → Knows call → Knows (call_now c call asked)
now_knows c most targets clients asked running.Idle h k = begun_knows c most targets clients asked h
now_knows c most targets clients asked (running.Read call) h k = k
now_knows c most targets clients asked (running.Write call) h k = k
now_knows c most targets clients asked (running.Truncate call) h k = k
now_knows c most targets clients asked (running.Copy call) h k = k
now_knows c most targets clients asked (running.Verify call) h k = k

-- ---- its step

module _ (c place : ℕ) (s : Servers) where
  answered_knows : (o : meta.Outcome Reply) → Leads Knows (answered_by s o)
  answered_knows (Gives answer after) = tt
  answered_knows (Refuses answer) = tt
  answered_knows (Waits holder) = tt

  once_knows : (asked : Command) → Leads Knows (at_once c asked place s)
  once_knows (command.Lfs of) = answered_knows (one_step c of place s.meta)
  once_knows (command.Evict other) = tt
  once_knows (command.Rot object offset byte) = tt
  once_knows (command.Read name offset len) = tt
  once_knows (command.Write name offset bytes) = tt
  once_knows (command.Truncate name size) = tt

  step_knows : (call : Running) (asked : Command) → IsSound s.meta → Knows call → Leads Knows (step_of call c asked place s)
  step_knows running.Idle asked sound h = once_knows asked
  step_knows (running.Read call) asked sound h = widened Reads Knows running.Read (λ x k. k) (read_step call place s) (read_knows call s sound h.0 call.at h.1)
  step_knows (running.Write call) asked sound h = widened Writes Knows running.Write (λ x k. k) (write_step call place s) (write_owns call s call.at place h)
  step_knows (running.Truncate call) asked sound h = widened Cuts Knows running.Truncate (λ x k. k) (truncate_step call place s) (truncate_owns call s call.at place h)
  step_knows (running.Copy call) asked sound h = widened (λ (x : CopyView). Unit {0}) Knows running.Copy (λ x k. tt) (copy_step call place s) (free (copy_step call place s))
  step_knows (running.Verify call) asked sound h = widened (λ (x : VerifyView). Unit {0}) Knows running.Verify (λ x k. tt) (verify_step call place s) (free (verify_step call place s))

-- ---- the state

module _ (s : State) (c : ℕ) (client : Client) (first : ℕ) (h : AllKnow s) where
  new_knows : (new : Client) → Knows new.call → AllByRecursion (λ (x : Client). Knows x.call) (set s.clients (c - 1) new)
  new_knows new k = put (λ (x : Client). Knows x.call) s.clients (c - 1) new h k

  left_know : (came : Outcome Running) (t : State) → Leads Knows came → LeavesState s c client first came t → AllKnow t
  left_know (Going next after) t k left = subst AllKnow (sym left) (new_knows (going client first next) k)
  left_know (Fixed next reply takes after) t k left = subst AllKnow (sym left) (new_knows (going client first next) k)
  left_know (Ended after) t k left = subst AllKnow (sym left) (new_knows (over client first) tt)
  left_know (Answered reply takes after) t k left = subst AllKnow (sym left) (new_knows (over client first) tt)
  left_know (Blocked holder) t k left = absurd left

-- each step
pub all_know : (s t : State) (c : ℕ) → Holds s → AllKnow s → StepIs s c t → AllKnow t
all_know s t c h all step =
    let client : Client = step.client in
    let good : IsCommand s.script.most s.script.targets (length s.script.clients) step.asked = is_command s.script c client.done step.asked h.script step.commanded in
    let k : Knows (call_now c client.call step.asked) = now_knows c s.script.most s.script.targets (length s.script.clients) step.asked client.call good (got_at (λ (x : Client). Knows x.call) s.clients c client all step.here) in
    left_know s c client (first_now client.call (place_in s) client.first) all step.came t
    (subst (Leads Knows) step.made (step_knows c (place_in s) s.shared (call_now c client.call step.asked) step.asked h.servers.sound k)) step.left
