-- What each command of one step leaves of the metadata server.
use Rattle.std.proofs.Common.{◌≡◌, ℕ, Option, Some, None, List, refl}
use Rattle.flr_base.specs.declared.reply.Reply.{Reply}
use Rattle.flr_base.specs.declared.reply.Reply.TheVariants as reply
use Rattle.lfs_words.specs.declared.command.LfsCommand.{LfsCommand}
use Rattle.lfs_words.specs.declared.command.LfsCommand.TheVariants as lfs
use Rattle.lfs_words.specs.declared.command.SplitTo.{SplitTo}
use Rattle.lfs_words.specs.declared.command.SplitTo.TheVariants as split
use Rattle.script_values.specs.declared.command.Command.{Command}
use Rattle.script_values.specs.declared.command.Command.TheVariants as command
use Rattle.meta_server.specs.Files.{File, MetaView, file_named}
use Rattle.meta_server.specs.Naming.{creates, removes, sets}
use Rattle.meta_server.specs.Outcomes.{Gives, Refuses, Waits}
use Rattle.meta_server.specs.Outcomes as meta
use Rattle.meta_laws.specs.Calls.{Call, Create, Evict, Remove, Set, after_call, left_by}
use Rattle.lfs_words.specs.Naming.{default_name}
use Rattle.mirror_admin.specs.OneStep.{answered, one_step, shows}
use Rattle.call_steps.specs.Servers.{Servers}
use Rattle.call_steps.specs.Steps.{Outcome, Going, Fixed, Ended, Answered, Blocked, widen}
use Rattle.flr_steps.specs.Commands.{answered_by, at_once}
use Rattle.flr_sole.proofs.Metas.{IsPlain}
use Rattle.flr_shut.proofs.Steps.{AfterCalls, OnMeta, by_call}

pub widened : {C D : Type 0} (P : MetaView → Type 0) (f : C → D) (o : Outcome C) → OnMeta P o → OnMeta P (widen f o)
widened P f (Going next after) h = h
widened P f (Fixed next reply takes after) h = h
widened P f (Ended after) h = h
widened P f (Answered reply takes after) h = h
widened P f (Blocked holder) h = tt

module _ (P : MetaView → Type 0) (client place : ℕ) (s : Servers) (h : AfterCalls P s.meta) where
  -- ---- commands of one step

  -- an answer of the metadata server to this call
  answer_by : (call : Call) (o : meta.Outcome Reply) → IsPlain call → after_call call s.meta ≡ left_by o s.meta → OnMeta P (answered_by s o)
  answer_by call (Gives answer after) well e = by_call P s.meta after h call well e
  answer_by call (Refuses answer) well e = h.same
  answer_by call (Waits holder) well e = tt

  same_left : (answer : Reply) (o : meta.Outcome (Unit {0})) → left_by o s.meta ≡ left_by (answered answer o) s.meta
  same_left answer (Gives given after) = refl
  same_left answer (Refuses refusal) = refl
  same_left answer (Waits holder) = refl

  shown : (name : List ℕ) (o : Option File) → OnMeta P (answered_by s (shows name s.meta o))
  shown name None = h.same
  shown name (Some f) = h.same

  removed : (name : List ℕ) (mirror : ℕ) (to : Option (List ℕ)) (answer : Reply) → OnMeta P (answered_by s (answered answer (removes client name mirror to place s.meta)))
  removed name mirror to answer = answer_by (Remove client name mirror to place) (answered answer (removes client name mirror to place s.meta)) tt (same_left answer (removes client name mirror to place s.meta))

  splits : (name : List ℕ) (mirror : ℕ) (to : SplitTo) → OnMeta P (answered_by s (one_step client (lfs.Split name mirror to) place s.meta))
  splits name mirror split.Default = removed name mirror (Some (default_name name mirror)) (reply.Split (default_name name mirror))
  splits name mirror (split.Named new) = removed name mirror (Some new) (reply.Split new)
  splits name mirror split.Destroy = removed name mirror None (reply.Removed mirror)

  lfs_leaves : (of : LfsCommand) → OnMeta P (answered_by s (one_step client of place s.meta))
  lfs_leaves (lfs.SetStripe name spec) = answer_by (Create name spec) (answered reply.Created (creates name spec s.meta)) tt (same_left reply.Created (creates name spec s.meta))
  lfs_leaves (lfs.GetStripe name) = shown name (file_named name s.meta.files)
  lfs_leaves (lfs.CompSet name id change) = answer_by (Set client name id change place) (answered reply.Set (sets client name id change place s.meta)) tt (same_left reply.Set (sets client name id change place s.meta))
  lfs_leaves (lfs.Create name spec) = answer_by (Create name spec) (answered reply.Created (creates name spec s.meta)) tt (same_left reply.Created (creates name spec s.meta))
  lfs_leaves (lfs.Extend name spec) = h.same
  lfs_leaves (lfs.ExtendBy name victim) = h.same
  lfs_leaves (lfs.Split name mirror to) = splits name mirror to
  lfs_leaves (lfs.Delete name mirror) = removed name mirror None (reply.Removed mirror)
  lfs_leaves (lfs.Resync name only) = h.same
  lfs_leaves (lfs.Verify name) = h.same

  pub once_leaves : (asked : Command) → OnMeta P (at_once client asked place s)
  once_leaves (command.Read name offset len) = tt
  once_leaves (command.Write name offset bytes) = tt
  once_leaves (command.Truncate name size) = tt
  once_leaves (command.Lfs of) = lfs_leaves of
  once_leaves (command.Evict other) = h.calls (Evict other place) tt
  once_leaves (command.Rot object offset byte) = h.same
