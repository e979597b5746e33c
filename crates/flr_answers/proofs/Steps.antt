-- The answers of each step of a client.
use Rattle.std.proofs.Common.{ℕ, ◌-◌, ◌≤◌, ◌==◌, ◌&&◌, Bool, true, false, if◌then◌else◌, Option, Some, None, List, [], ◌∷◌, map, sym, subst, arith}
use Rattle.std.specs.List.{AllByRecursion}
use Rattle.flr_base.specs.declared.reply.Entry.{Entry}
use Rattle.flr_base.specs.declared.reply.Reply.{Reply}
use Rattle.flr_base.specs.declared.reply.Reply.TheVariants as reply
use Rattle.flr_base.proofs.Lists.{all_append}
use Rattle.lfs_words.specs.declared.command.LfsCommand.{LfsCommand}
use Rattle.lfs_words.specs.declared.command.LfsCommand.TheVariants as lfs
use Rattle.lfs_words.specs.declared.command.SplitTo.{SplitTo}
use Rattle.lfs_words.specs.declared.command.SplitTo.TheVariants as split
use Rattle.script_values.specs.declared.command.Command.{Command}
use Rattle.script_values.specs.declared.command.Command.TheVariants as command
use Rattle.meta_server.specs.Files.{File, file_named}
use Rattle.meta_server.specs.Naming.{creates, removes, sets}
use Rattle.meta_server.specs.Outcomes.{Gives, Refuses, Waits}
use Rattle.meta_server.specs.Outcomes as meta
use Rattle.lfs_words.specs.Naming.{default_name}
use Rattle.mirror_admin.specs.OneStep.{answered, one_step, shows}
use Rattle.mirror_admin.specs.Rotting.{is_kept, rot_reply}
use Rattle.call_steps.specs.Servers.{Servers}
use Rattle.call_steps.specs.Steps.{Outcome, Going, Fixed, Ended, Answered, Blocked}
use Rattle.client_read.specs.Reads.{read_step}
use Rattle.client_read.specs.Views.{ReadView}
use Rattle.client_write.specs.Calls.{TruncateView, WriteView}
use Rattle.client_write.specs.Truncates.{truncate_step}
use Rattle.client_write.specs.Writes.{write_step}
use Rattle.mirror_verify.specs.Verifies.{verify_step}
use Rattle.mirror_verify.specs.Views.{VerifyView}
use Rattle.resync_copy.specs.Steps.{copy_step}
use Rattle.report_text.specs.Answers.{IsPrintable}
use Rattle.flr_steps.specs.declared.client.Client.{Client}
use Rattle.flr_steps.specs.declared.client.Running.{Running}
use Rattle.flr_steps.specs.declared.client.Running.TheVariants as running
use Rattle.flr_steps.specs.Clients.{call_now, first_now, going, over}
use Rattle.flr_steps.specs.Commands.{answered_by, at_once, begun, begun_lfs, step_of}
use Rattle.flr_steps.specs.States.{State, closed, place_in}
use Rattle.flr_steps.specs.Steps.{LeavesState, StepIs}
use Rattle.flr_sizes.specs.Laws.{AreShort, end_of_script}
use Rattle.flr_sizes.proofs.Calls.{Any}
use Rattle.flr_sizes.proofs.Steps.{IsShort, got_at, put}
use Rattle.flr_answers.specs.Laws.{ArePrintable}
use Rattle.flr_answers.proofs.Calls.{cut_prints, read_prints, verify_prints, write_prints}
use Rattle.flr_answers.proofs.Copies as copies
use Rattle.flr_answers.proofs.Copies.{copy_prints}
use Rattle.flr_answers.proofs.Leading.{Prints, widened}
use Rattle.flr_answers.proofs.Metas.{Refusable, go_refusable, make_refusable, set_refusable}

-- a call keeps no refusal that has no text
abbrev pub Keeps : Running → Type 0
Keeps running.Idle = Unit {0}
Keeps (running.Read call) = Unit {0}
Keeps (running.Write call) = Unit {0}
Keeps (running.Truncate call) = Unit {0}
Keeps (running.Copy call) = copies.Keeps call
Keeps (running.Verify call) = Unit {0}

-- ---- a call that begins

lfs_keeps : (c : ℕ) (of : LfsCommand) → Keeps (begun_lfs c of)
lfs_keeps c (lfs.Resync name only) = tt
lfs_keeps c (lfs.Extend name spec) = tt
lfs_keeps c (lfs.ExtendBy name victim) = tt
lfs_keeps c (lfs.Verify name) = tt
lfs_keeps c (lfs.SetStripe name spec) = tt
lfs_keeps c (lfs.GetStripe name) = tt
lfs_keeps c (lfs.CompSet name id change) = tt
lfs_keeps c (lfs.Create name spec) = tt
lfs_keeps c (lfs.Split name mirror to) = tt
lfs_keeps c (lfs.Delete name mirror) = tt

begun_keeps : (c : ℕ) (asked : Command) → Keeps (begun c asked)
begun_keeps c (command.Read name offset len) = tt
begun_keeps c (command.Write name offset bytes) = tt
begun_keeps c (command.Truncate name size) = tt
begun_keeps c (command.Lfs of) = lfs_keeps c of
begun_keeps c (command.Evict other) = tt
begun_keeps c (command.Rot object offset byte) = tt

now_keeps : (c : ℕ) (asked : Command) (call : Running) → Keeps call → Keeps (call_now c call asked)
now_keeps c asked running.Idle h = begun_keeps c asked
now_keeps c asked (running.Read call) h = h
now_keeps c asked (running.Write call) h = h
now_keeps c asked (running.Truncate call) h = h
now_keeps c asked (running.Copy call) h = h
now_keeps c asked (running.Verify call) h = h

-- ---- commands of one step

module _ (c place : ℕ) (s : Servers) where
  by_answer : (success : Reply) → IsPrintable success → (o : meta.Outcome (Unit {0})) → Refusable o → Prints Keeps (answered_by s (answered success o))
  by_answer success h (Gives given after) k = h
  by_answer success h (Refuses refusal) k = k
  by_answer success h (Waits holder) k = tt

  by_shown : (name : List ℕ) (o : Option File) → Prints Keeps (answered_by s (shows name s.meta o))
  by_shown name None = tt
  by_shown name (Some f) = tt

  by_split : (name : List ℕ) (mirror : ℕ) (to : SplitTo) → Prints Keeps (answered_by s (one_step c (lfs.Split name mirror to) place s.meta))
  by_split name mirror split.Default =
      let new = default_name name mirror in by_answer (reply.Split new) tt (removes c name mirror (Some new) place s.meta) (go_refusable c mirror place s.meta name (Some new))
  by_split name mirror (split.Named new) = by_answer (reply.Split new) tt (removes c name mirror (Some new) place s.meta) (go_refusable c mirror place s.meta name (Some new))
  by_split name mirror split.Destroy = by_answer (reply.Removed mirror) tt (removes c name mirror None place s.meta) (go_refusable c mirror place s.meta name None)

  lfs_prints : (of : LfsCommand) → Prints Keeps (answered_by s (one_step c of place s.meta))
  lfs_prints (lfs.SetStripe name spec) = by_answer reply.Created tt (creates name spec s.meta) (make_refusable name spec s.meta)
  lfs_prints (lfs.Create name spec) = by_answer reply.Created tt (creates name spec s.meta) (make_refusable name spec s.meta)
  lfs_prints (lfs.GetStripe name) = by_shown name (file_named name s.meta.files)
  lfs_prints (lfs.CompSet name id change) = by_answer reply.Set tt (sets c name id change place s.meta) (set_refusable c id change place s.meta name)
  lfs_prints (lfs.Split name mirror to) = by_split name mirror to
  lfs_prints (lfs.Delete name mirror) = by_answer (reply.Removed mirror) tt (removes c name mirror None place s.meta) (go_refusable c mirror place s.meta name None)
  lfs_prints (lfs.Extend name spec) = tt
  lfs_prints (lfs.ExtendBy name victim) = tt
  lfs_prints (lfs.Resync name only) = tt
  lfs_prints (lfs.Verify name) = tt

  rot_prints : (b : Bool) → IsPrintable (rot_reply b)
  rot_prints true = tt
  rot_prints false = tt

  once_prints : (asked : Command) → Prints Keeps (at_once c asked place s)
  once_prints (command.Read name offset len) = tt
  once_prints (command.Write name offset bytes) = tt
  once_prints (command.Truncate name size) = tt
  once_prints (command.Lfs of) = lfs_prints of
  once_prints (command.Evict other) = tt
  once_prints (command.Rot object offset byte) = rot_prints (is_kept object s.targets)

-- ---- each step

step_prints : (most : ℕ) → most ≤ 268435456 → (c place : ℕ) (s : Servers) (call : Running) (asked : Command) → AreShort most s.meta.files → Keeps call → Prints Keeps (step_of call c asked place s)
step_prints most small c place s running.Idle asked short h = once_prints c place s asked
step_prints most small c place s (running.Read call) asked short h = widened (Any {C = ReadView}) Keeps running.Read (λ x k. tt) (read_step call place s) (read_prints most call s small short call.at)
step_prints most small c place s (running.Write call) asked short h = widened (Any {C = WriteView}) Keeps running.Write (λ x k. tt) (write_step call place s) (write_prints call place s call.at)
step_prints most small c place s (running.Truncate call) asked short h = widened (Any {C = TruncateView}) Keeps running.Truncate (λ x k. tt) (truncate_step call place s) (cut_prints call place s call.at)
step_prints most small c place s (running.Copy call) asked short h = widened copies.Keeps Keeps running.Copy (λ x k. k) (copy_step call place s) (copy_prints call s call.at h)
step_prints most small c place s (running.Verify call) asked short h = widened (Any {C = VerifyView}) Keeps running.Verify (λ x k. tt) (verify_step call place s) (verify_prints call s call.at)

-- ---- the state

-- each answer has a text, and so has each refusal that a call keeps
pub record Printable (s : State) : Type 0 where
  pub answers : ArePrintable s.entries
  pub calls : AllByRecursion (λ (client : Client). Keeps client.call) s.clients

closed_print : (c place : ℕ) (entries : List Entry) → ArePrintable entries → ArePrintable (map (closed c place) entries)
closed_print c place [] h = tt
closed_print c place (e ∷ es) h = (by ((e.client == c) && (e.last == 0)), closed_print c place es h.1)
  where
    by : (b : Bool) → IsPrintable (if b then record e { last = place } else e).reply
    by true = h.0
    by false = h.0

module _ (s : State) (c : ℕ) (client : Client) (first : ℕ) (h : Printable s) where
  abbrev Kept : Client → Type 0
  Kept x = Keeps x.call

  abbrev HasText : Entry → Type 0
  HasText e = IsPrintable e.reply

  left_printable : (came : Outcome Running) (t : State) → Prints Keeps came → LeavesState s c client first came t → Printable t
  left_printable (Going next after) t k left = subst Printable (sym left) (record { answers = h.answers; calls = put Kept s.clients (c - 1) (going client first next) h.calls k })
  left_printable (Fixed next reply takes after) t k left =
      subst Printable (sym left) (record { answers = all_append HasText s.entries _ h.answers (k.1, tt); calls = put Kept s.clients (c - 1) (going client first next) h.calls k.0 })
  left_printable (Ended after) t k left =
      subst Printable (sym left) (record { answers = closed_print c (place_in s) s.entries h.answers; calls = put Kept s.clients (c - 1) (over client first) h.calls tt })
  left_printable (Answered reply takes after) t k left =
      subst Printable (sym left) (record { answers = all_append HasText s.entries _ h.answers (k, tt); calls = put Kept s.clients (c - 1) (over client first) h.calls tt })
  left_printable (Blocked holder) t k left = absurd left

-- each step leaves answers that have a text
pub step_printable : (s t : State) (c : ℕ) → IsShort s → Printable s → StepIs s c t → Printable t
step_printable s t c short h step =
    let client : Client = step.client in
    let call : Running = call_now c client.call step.asked in
    let kept : Keeps call = now_keeps c step.asked client.call (got_at (λ (x : Client). Keeps x.call) s.clients c client h.calls step.here) in
    left_printable s c client (first_now client.call (place_in s) client.first) h step.came t
    (subst (Prints Keeps) step.made (step_prints (end_of_script s.script) (omega arith) c (place_in s) s.shared call step.asked short.files kept)) step.left
