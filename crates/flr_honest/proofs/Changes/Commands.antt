-- What each step of a client's call leaves of the metadata server: what was there, what one call left that its command makes, or two keys given back.
use Rattle.std.proofs.Common.{◌≡◌, ℕ, Option, Some, None, IfSome, List, inl, inr, refl}
use Rattle.flr_base.specs.declared.reply.Reply.{Reply}
use Rattle.flr_base.specs.declared.reply.Reply.TheVariants as reply
use Rattle.layout_lease.specs.Leases.{KeyView}
use Rattle.lfs_words.specs.declared.command.LfsCommand.{LfsCommand}
use Rattle.lfs_words.specs.declared.command.LfsCommand.TheVariants as lfs
use Rattle.lfs_words.specs.declared.command.SplitTo.{SplitTo}
use Rattle.lfs_words.specs.declared.command.SplitTo.TheVariants as split
use Rattle.script_values.specs.declared.command.Command.{Command}
use Rattle.script_values.specs.declared.command.Command.TheVariants as command
use Rattle.client_read.specs.Reads.{read_step}
use Rattle.client_write.specs.Truncates.{truncate_step}
use Rattle.client_write.specs.Writes.{write_step}
use Rattle.meta_server.specs.Ending.{both_given}
use Rattle.meta_server.specs.Files.{File, MetaView, file_named}
use Rattle.meta_server.specs.Naming.{creates, removes, sets}
use Rattle.meta_server.specs.Outcomes.{Gives, Refuses, Waits}
use Rattle.meta_server.specs.Outcomes as meta
use Rattle.meta_laws.specs.Calls.{Call, Create, Evict, Remove, Set, after_call, left_by}
use Rattle.lfs_words.specs.Naming.{default_name}
use Rattle.mirror_admin.specs.OneStep.{answered, one_step, shows}
use Rattle.mirror_verify.specs.Verifies.{verify_step}
use Rattle.resync_copy.specs.Steps.{copy_step}
use Rattle.call_steps.specs.Servers.{Servers}
use Rattle.call_steps.specs.Steps.{Outcome, Going, Fixed, Ended, Answered, Blocked, widen}
use Rattle.flr_numbers.specs.Sentences.{IsCallOf, hand_of}
use Rattle.flr_steps.specs.declared.client.Running.{Running}
use Rattle.flr_steps.specs.declared.client.Running.TheVariants as running
use Rattle.flr_steps.specs.Commands.{answered_by, at_once, step_of}
use Rattle.flr_steps.specs.Owners.{AreOwn}
use Rattle.flr_places.specs.Sentences.{IsCookieOf}
use Rattle.flr_places.proofs.Steps.{OnMeta}
use Rattle.flr_asked.specs.Sentences.{IsOf}
use Rattle.flr_honest.proofs.Legal.Asked.{copy_command}
use Rattle.flr_honest.proofs.Changes.AskedWrites.{cut_command, write_command}
use Rattle.flr_honest.proofs.Changes.Asking.{AfterCalls, IsAskedFor, IsRemove, by_call, read_leaves, truncate_leaves, verify_leaves, write_leaves}
use Rattle.flr_honest.proofs.Changes.CopyAsking.{copy_leaves}

widened : {C D : Type 0} (P : MetaView → Type 0) (f : C → D) (o : Outcome C) → OnMeta P o → OnMeta P (widen f o)
widened P f (Going next after) h = h
widened P f (Fixed next reply takes after) h = h
widened P f (Ended after) h = h
widened P f (Answered reply takes after) h = h
widened P f (Blocked holder) h = tt

module _ (P : MetaView → Type 0) (asked : Command) (client place : ℕ) (s : Servers) where
  -- ---- commands of one step

  module _ (h : AfterCalls P asked client place running.Idle s.meta) where
    -- an answer of the metadata server to this call
    answer_by : (of : Call) (o : meta.Outcome Reply) → IsAskedFor asked client place running.Idle of → after_call of s.meta ≡ left_by o s.meta → OnMeta P (answered_by s o)
    answer_by of (Gives answer after) well e = by_call P asked client place running.Idle s.meta after h of well e
    answer_by of (Refuses answer) well e = h.same
    answer_by of (Waits holder) well e = tt

    same_left : (answer : Reply) (o : meta.Outcome (Unit {0})) → left_by o s.meta ≡ left_by (answered answer o) s.meta
    same_left answer (Gives given after) = refl
    same_left answer (Refuses refusal) = refl
    same_left answer (Waits holder) = refl

    shown : (name : List ℕ) (o : Option File) → OnMeta P (answered_by s (shows name s.meta o))
    shown name None = h.same
    shown name (Some f) = h.same

    removed : (name : List ℕ) (mirror : ℕ) (to : Option (List ℕ)) (answer : Reply) → IsRemove asked name mirror to → OnMeta P (answered_by s (answered answer (removes client name mirror to place s.meta)))
    removed name mirror to answer may = answer_by (Remove client name mirror to place) (answered answer (removes client name mirror to place s.meta)) may (same_left answer (removes client name mirror to place s.meta))

    splits : (name : List ℕ) (mirror : ℕ) (to : SplitTo) → asked ≡ command.Lfs (lfs.Split name mirror to) → OnMeta P (answered_by s (one_step client (lfs.Split name mirror to) place s.meta))
    splits name mirror split.Default is = removed name mirror (Some (default_name name mirror)) (reply.Split (default_name name mirror)) (inl (is, refl))
    splits name mirror (split.Named new) is = removed name mirror (Some new) (reply.Split new) (inr is)
    splits name mirror split.Destroy is = removed name mirror None (reply.Removed mirror) (inr is)

    lfs_leaves : (of : LfsCommand) → asked ≡ command.Lfs of → OnMeta P (answered_by s (one_step client of place s.meta))
    lfs_leaves (lfs.SetStripe name spec) is = answer_by (Create name spec) (answered reply.Created (creates name spec s.meta)) (inl is) (same_left reply.Created (creates name spec s.meta))
    lfs_leaves (lfs.GetStripe name) is = shown name (file_named name s.meta.files)
    lfs_leaves (lfs.CompSet name id change) is = answer_by (Set client name id change place) (answered reply.Set (sets client name id change place s.meta)) is (same_left reply.Set (sets client name id change place s.meta))
    lfs_leaves (lfs.Create name spec) is = answer_by (Create name spec) (answered reply.Created (creates name spec s.meta)) (inr is) (same_left reply.Created (creates name spec s.meta))
    lfs_leaves (lfs.Extend name spec) is = h.same
    lfs_leaves (lfs.ExtendBy name victim) is = h.same
    lfs_leaves (lfs.Split name mirror to) is = splits name mirror to is
    lfs_leaves (lfs.Delete name mirror) is = removed name mirror None (reply.Removed mirror) (inl is)
    lfs_leaves (lfs.Resync name only) is = h.same
    lfs_leaves (lfs.Verify name) is = h.same

    once_leaves : (of : Command) → asked ≡ of → OnMeta P (at_once client of place s)
    once_leaves (command.Read name offset len) is = tt
    once_leaves (command.Write name offset bytes) is = tt
    once_leaves (command.Truncate name size) is = tt
    once_leaves (command.Lfs of) is = lfs_leaves of is
    once_leaves (command.Evict other) is = h.calls (Evict other place) (refl, is)
    once_leaves (command.Rot object offset byte) is = h.same

  -- ---- each step

  pub step_leaves : (call : Running) → AfterCalls P asked client place call s.meta → ((ours theirs : KeyView) → ours.client ≡ client → theirs.client ≡ client → P (both_given ours theirs s.meta))
      → IsOf client asked call → IsCallOf client call → IfSome (hand_of call).opened (IsCookieOf client) → AreOwn client (hand_of call).keys → OnMeta P (step_of call client asked place s)
  step_leaves running.Idle h gives asks is cookie keys = once_leaves h asked refl
  step_leaves (running.Read call) h gives asks is cookie keys = widened P running.Read (read_step call place s) (read_leaves P asked client place (running.Read call) s h call call.at cookie)
  step_leaves (running.Write call) h gives asks is cookie keys = widened P running.Write (write_step call place s) (write_leaves P asked client place (running.Write call) s h call (write_command client call asked asks) call.at cookie)
  step_leaves (running.Truncate call) h gives asks is cookie keys = widened P running.Truncate (truncate_step call place s) (truncate_leaves P asked client place (running.Truncate call) s h call (cut_command client call asked asks) call.at cookie)
  step_leaves (running.Copy call) h gives asks is cookie keys = widened P running.Copy (copy_step call place s) (copy_leaves P asked client place s call (copy_command client call asked asks) h gives (is.0, is.1) call.at refl keys)
  step_leaves (running.Verify call) h gives asks is cookie keys = widened P running.Verify (verify_step call place s) (verify_leaves P asked client place (running.Verify call) s h call call.at cookie)
