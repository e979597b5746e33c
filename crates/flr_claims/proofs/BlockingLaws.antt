-- The next step of a client is blocked exactly where somebody is in the way of what it needs.
use Rattle.std.proofs.Common.{◌≡◌, ℕ, List, [], refl, sym, ap, ◌∙◌}
use Rattle.std.specs.Prelude.{Option, Some, None}
use Rattle.flr_base.specs.declared.reply.Reply.{Reply}
use Rattle.flr_base.specs.declared.reply.Reply.TheVariants as reply
use Rattle.lfs_words.specs.declared.command.LfsCommand.{LfsCommand}
use Rattle.lfs_words.specs.declared.command.LfsCommand.TheVariants as lfs
use Rattle.lfs_words.specs.declared.command.SplitTo.{SplitTo}
use Rattle.lfs_words.specs.declared.command.SplitTo.TheVariants as split
use Rattle.script_values.specs.declared.command.Command.{Command}
use Rattle.script_values.specs.declared.command.Command.TheVariants as command
use Rattle.script_values.specs.Scripts.{command_after}
use Rattle.meta_server.specs.Files.{File, file_named}
use Rattle.meta_server.specs.Naming.{creates, removes, sets}
use Rattle.meta_server.specs.Outcomes.{Gives, Refuses, Waits}
use Rattle.meta_server.specs.Outcomes as meta
use Rattle.call_steps.specs.Servers.{Servers}
use Rattle.call_steps.specs.Steps.{Outcome, Going, Fixed, Ended, Answered, Blocked}
use Rattle.client_read.specs.Reads.{new_read, read_step}
use Rattle.client_write.specs.Truncates.{new_truncate, truncate_step}
use Rattle.client_write.specs.Writes.{new_write, write_step}
use Rattle.lfs_words.specs.Naming.{default_name}
use Rattle.mirror_admin.specs.OneStep.{answered, shows, splits}
use Rattle.mirror_verify.specs.Verifies.{new_verify, verify_step}
use Rattle.resync_copy.specs.Copies.{new_copy}
use Rattle.resync_copy.specs.Steps.{copy_step}
use Rattle.meta_server.specs.declared.answers.CopyWhat.TheVariants as what
use Rattle.client_read.specs.Views.{ReadView}
use Rattle.client_write.specs.Calls.{TruncateView, WriteView}
use Rattle.mirror_verify.specs.Views.{VerifyView}
use Rattle.resync_copy.specs.Calls.{CopyView}
use Rattle.flr_steps.specs.declared.client.Client.{Client}
use Rattle.flr_steps.specs.declared.client.Running.{Running}
use Rattle.flr_steps.specs.declared.client.Running.TheVariants as running
use Rattle.flr_steps.specs.Clients.{call_now, client_by, client_next, first_now}
use Rattle.flr_steps.specs.Commands.{answered_by, step_of}
use Rattle.flr_steps.specs.States.{State, Next, client_at, next, next_by, next_from, place_in}
use Rattle.flr_steps.specs.States as states
use Rattle.flr_steps.specs.Owners.{IsOwn}
use Rattle.flr_steps.proofs.OwnCalls.{calls_are_own}
use Rattle.flr_claims.specs.Blocking.{BlockedWhereWaiting, IsWaiting, changed_by, in_way_of, needs_of, unless}
use Rattle.flr_claims.specs.Refusals.{lfs_refusal}
use Rattle.flr_claims.proofs.CallWaits.{copy_waits, cut_waits, held_up, held_widen, read_waits, verify_waits, write_waits}
use Rattle.flr_claims.proofs.MetaWaits.{create_waits, delete_waits, set_waits, split_waits, waits, waits_for_nobody}

-- ---- commands of one step

at_once_waits : (s : Servers) (o : meta.Outcome Reply) → held_up (answered_by s o) ≡ waits o
at_once_waits s (Gives given after) = refl
at_once_waits s (Refuses answer) = refl
at_once_waits s (Waits holder) = refl

answered_waits : (answer : Reply) (o : meta.Outcome (Unit {0})) → waits (answered answer o) ≡ waits o
answered_waits answer (Gives given after) = refl
answered_waits answer (Refuses refusal) = refl
answered_waits answer (Waits holder) = refl

module _ (c place : ℕ) (s : Servers) where
  by_meta : (answer : Reply) (o : meta.Outcome (Unit {0})) → held_up (answered_by s (answered answer o)) ≡ waits o
  by_meta answer o = at_once_waits s (answered answer o) ∙ answered_waits answer o

  show_waits : (name : List ℕ) (o : Option File) → held_up (answered_by s (shows name s.meta o)) ≡ None
  show_waits name None = refl
  show_waits name (Some f) = refl

  abbrev lfs_needs : LfsCommand → Option ℕ
  lfs_needs of = in_way_of s c (unless (lfs_refusal of s.meta) (changed_by of s.meta.files))

  split_to_waits : (name : List ℕ) (mirror : ℕ) (to : SplitTo) → held_up (answered_by s (splits c place s.meta name mirror to)) ≡ lfs_needs (lfs.Split name mirror to)
  split_to_waits name mirror split.Default =
      let new = default_name name mirror in
      by_meta (reply.Split new) (removes c name mirror (Some new) place s.meta) ∙ split_waits s c mirror place s.meta name new (file_named name s.meta.files)
  split_to_waits name mirror (split.Named new) =
      by_meta (reply.Split new) (removes c name mirror (Some new) place s.meta) ∙ split_waits s c mirror place s.meta name new (file_named name s.meta.files)
  split_to_waits name mirror split.Destroy =
      by_meta (reply.Removed mirror) (removes c name mirror None place s.meta) ∙ delete_waits s c mirror place s.meta name (file_named name s.meta.files)

  -- a command that changes no layout in place
  waits_no_more : (of : LfsCommand) (o : meta.Outcome Reply) → changed_by of s.meta.files ≡ [] → held_up (answered_by s o) ≡ None → held_up (answered_by s o) ≡ lfs_needs of
  waits_no_more of o none is = is ∙ sym (ap (λ (fs : List File). in_way_of s c (unless (lfs_refusal of s.meta) fs)) none ∙ waits_for_nobody s c (lfs_refusal of s.meta))

  -- the call that a command begins, or the command of one step
  abbrev WaitsNow : Running → Command → Type 0
  WaitsNow call asked = held_up (step_of call c asked place s) ≡ in_way_of s c (needs_of call asked s)

  read_now : (r : ReadView) (asked : Command) → r.client ≡ c → WaitsNow (running.Read r) asked
  read_now r asked own = held_widen running.Read (read_step r place s) ∙ read_waits r s c r.at

  write_now : (w : WriteView) (asked : Command) → w.client ≡ c → WaitsNow (running.Write w) asked
  write_now w asked own = held_widen running.Write (write_step w place s) ∙ write_waits w place s w.at ∙ ap (λ (n : ℕ). in_way_of s n (needs_of (running.Write w) asked s)) own

  cut_now : (t : TruncateView) (asked : Command) → t.client ≡ c → WaitsNow (running.Truncate t) asked
  cut_now t asked own = held_widen running.Truncate (truncate_step t place s) ∙ cut_waits t place s t.at ∙ ap (λ (n : ℕ). in_way_of s n (needs_of (running.Truncate t) asked s)) own

  verify_now : (v : VerifyView) (asked : Command) → WaitsNow (running.Verify v) asked
  verify_now v asked = held_widen running.Verify (verify_step v place s) ∙ verify_waits v s v.at

  copy_now : (k : CopyView) (asked : Command) → IsOwn c (running.Copy k) → WaitsNow (running.Copy k) asked
  copy_now k asked own = held_widen running.Copy (copy_step k place s) ∙ copy_waits k s c k.at own.0 own.1

  lfs_now : (of : LfsCommand) → WaitsNow (call_now c running.Idle (command.Lfs of)) (command.Lfs of)
  lfs_now (lfs.SetStripe name spec) =
      waits_no_more (lfs.SetStripe name spec) (answered reply.Created (creates name spec s.meta)) refl (by_meta reply.Created (creates name spec s.meta) ∙ create_waits name spec s.meta (file_named name s.meta.files))
  lfs_now (lfs.Create name spec) =
      waits_no_more (lfs.Create name spec) (answered reply.Created (creates name spec s.meta)) refl (by_meta reply.Created (creates name spec s.meta) ∙ create_waits name spec s.meta (file_named name s.meta.files))
  lfs_now (lfs.GetStripe name) = waits_no_more (lfs.GetStripe name) (shows name s.meta (file_named name s.meta.files)) refl (show_waits name (file_named name s.meta.files))
  lfs_now (lfs.CompSet name id change) = by_meta reply.Set (sets c name id change place s.meta) ∙ set_waits s c id change place s.meta name (file_named name s.meta.files)
  lfs_now (lfs.Split name mirror to) = split_to_waits name mirror to
  lfs_now (lfs.Delete name mirror) = by_meta (reply.Removed mirror) (removes c name mirror None place s.meta) ∙ delete_waits s c mirror place s.meta name (file_named name s.meta.files)
  lfs_now (lfs.Resync name only) = copy_now (new_copy c name (what.Resync only)) (command.Lfs (lfs.Resync name only)) (refl, tt)
  lfs_now (lfs.Extend name spec) = copy_now (new_copy c name (what.Extend spec)) (command.Lfs (lfs.Extend name spec)) (refl, tt)
  lfs_now (lfs.ExtendBy name victim) = copy_now (new_copy c name (what.Victim victim)) (command.Lfs (lfs.ExtendBy name victim)) (refl, tt)
  lfs_now (lfs.Verify name) = verify_now (new_verify c name) (command.Lfs (lfs.Verify name))

  idle_now : (asked : Command) → WaitsNow (call_now c running.Idle asked) asked
  idle_now (command.Read name offset len) = read_now (new_read c name offset len) (command.Read name offset len) refl
  idle_now (command.Write name offset bytes) = write_now (new_write c name offset bytes) (command.Write name offset bytes) refl
  idle_now (command.Truncate name size) = cut_now (new_truncate c name size) (command.Truncate name size) refl
  idle_now (command.Lfs of) = lfs_now of
  idle_now (command.Evict other) = refl
  idle_now (command.Rot object offset byte) = refl

  waits_now : (held : Running) (asked : Command) → IsOwn c held → WaitsNow (call_now c held asked) asked
  waits_now running.Idle asked own = idle_now asked
  waits_now (running.Read r) asked own = read_now r asked own
  waits_now (running.Write w) asked own = write_now w asked own
  waits_now (running.Truncate t) asked own = cut_now t asked own
  waits_now (running.Verify v) asked own = verify_now v asked
  waits_now (running.Copy k) asked own = copy_now k asked own

-- ---- the next step

module _ (s : State) (c holder : ℕ) where
  blocked_by : (client : Client) (first : ℕ) (o : Outcome Running) → next_by s c (client_by c (place_in s) client first o) ≡ states.Blocked holder → held_up o ≡ Some holder
  blocked_by client first (Going next after) e = absurd cc
  blocked_by client first (Fixed next reply takes after) e = absurd cc
  blocked_by client first (Ended after) e = absurd cc
  blocked_by client first (Answered reply takes after) e = absurd cc
  blocked_by client first (Blocked other) e = let same : other ≡ holder = cc in ap (λ (n : ℕ). Some n) same

  by_held : (client : Client) (first : ℕ) (o : Outcome Running) → held_up o ≡ Some holder → next_by s c (client_by c (place_in s) client first o) ≡ states.Blocked holder
  by_held client first (Going next after) e = absurd cc
  by_held client first (Fixed next reply takes after) e = absurd cc
  by_held client first (Ended after) e = absurd cc
  by_held client first (Answered reply takes after) e = absurd cc
  by_held client first (Blocked other) e = let same : other ≡ holder = cc in ap states.Blocked same

  waiting_by : (client : Client) → client_at s.clients c ≡ Some client → IsOwn c client.call → (asked : Option Command) → command_after s.script c client.done ≡ asked
      → next_by s c (client_next c (place_in s) client s.shared asked) ≡ states.Blocked holder → IsWaiting s c holder
  waiting_by client here own None commanded e = absurd cc
  waiting_by client here own (Some asked) commanded e = record {
    client = client;
    here = here;
    asked = asked;
    commanded = commanded;
    in_way = sym (waits_now c (place_in s) s.shared client.call asked own) ∙ blocked_by client (first_now client.call (place_in s) client.first) (step_of (call_now c client.call asked) c asked (place_in s) s.shared) e;
  }

  waiting_from : (found : Option Client) → client_at s.clients c ≡ found → ((client : Client) → client_at s.clients c ≡ Some client → IsOwn c client.call) → next_from s c found ≡ states.Blocked holder → IsWaiting s c holder
  waiting_from None here own e = absurd cc
  waiting_from (Some client) here own e = waiting_by client here (own client here) (command_after s.script c client.done) refl e

  blocked_if : IsWaiting s c holder → ((client : Client) → client_at s.clients c ≡ Some client → IsOwn c client.call) → next s c ≡ states.Blocked holder
  blocked_if w own =
      ap (λ (found : Option Client). next_from s c found) w.here
      ∙ ap (λ (asked : Option Command). next_by s c (client_next c (place_in s) w.client s.shared asked)) w.commanded
      ∙ by_held w.client (first_now w.client.call (place_in s) w.client.first) (step_of (call_now c w.client.call w.asked) c w.asked (place_in s) s.shared)
      (waits_now c (place_in s) s.shared w.client.call w.asked (own w.client w.here) ∙ w.in_way)

pub blocked_where_waiting : BlockedWhereWaiting
blocked_where_waiting s c holder run = let own = calls_are_own s run c in (λ e. waiting_from s c holder (client_at s.clients c) refl own e, λ w. blocked_if s c holder w own)
