-- The commands of one step: what each answers, and what it leaves of the metadata server.
use Rattle.std.specs.Prelude.{◌≡◌, ℕ, Bool, true, false, List, [], Option, Some, None}
use Rattle.flr_base.specs.declared.reply.Reply.{Reply}
use Rattle.flr_base.specs.declared.reply.Reply.TheVariants as reply
use Rattle.layout_text.specs.Texts.{text_of_layout}
use Rattle.lfs_words.specs.Naming.{default_name}
use Rattle.lfs_words.specs.declared.command.LfsCommand.{LfsCommand}
use Rattle.lfs_words.specs.declared.command.LfsCommand.TheVariants as lfs
use Rattle.lfs_words.specs.declared.command.SplitTo.{SplitTo}
use Rattle.lfs_words.specs.declared.command.SplitTo.TheVariants as split
use Rattle.meta_server.specs.declared.answers.MetaStop.{MetaStop}
use Rattle.meta_server.specs.declared.answers.MetaStop.TheVariants as stops
use Rattle.meta_server.specs.Files.{File, MetaView, file_named}
use Rattle.meta_server.specs.Naming.{creates, removes, sets}
use Rattle.meta_server.specs.Outcomes.{Outcome, Gives, Refuses, Waits, MayLackMemory}
use Rattle.mirror_admin.specs.declared.answer.Admin.{Admin}
use Rattle.mirror_admin.specs.declared.answer.Admin.TheVariants.{Answered, Blocked, NoMemory}

-- whether the command has one step
abbrev pub is_one_step : LfsCommand → Bool
is_one_step (lfs.Extend name spec) = false
is_one_step (lfs.ExtendBy name victim) = false
is_one_step (lfs.Resync name only) = false
is_one_step (lfs.Verify name) = false
is_one_step other = true

-- where the call goes through the command is answered so, else as the call was refused or has to wait
abbrev pub answered : Reply → Outcome (Unit {0}) → Outcome Reply
answered answer (Gives given after) = Gives answer after
answered answer (Refuses refusal) = Refuses refusal
answered answer (Waits holder) = Waits holder

-- the text of a file's layout; nothing changes
abbrev pub shows : List ℕ → MetaView → Option File → Outcome Reply
shows name m None = Refuses (reply.NoFile name)
shows name m (Some f) = Gives (reply.Layout (text_of_layout f.layout)) m

module _ (client : ℕ) (step : ℕ) (m : MetaView) where
  -- a mirror goes to a file of this name
  abbrev pub splits_to : List ℕ → ℕ → List ℕ → Outcome Reply
  splits_to name mirror new = answered (reply.Split new) (removes client name mirror (Some new) step m)

  -- a mirror goes for good
  abbrev pub deletes : List ℕ → ℕ → Outcome Reply
  deletes name mirror = answered (reply.Removed mirror) (removes client name mirror None step m)

  abbrev pub splits : List ℕ → ℕ → SplitTo → Outcome Reply
  splits name mirror split.Default = splits_to name mirror (default_name name mirror)
  splits name mirror (split.Named new) = splits_to name mirror new
  splits name mirror split.Destroy = deletes name mirror

-- a client's command of one step, at this place; the other commands aren't among them
abbrev pub one_step : ℕ → LfsCommand → ℕ → MetaView → Outcome Reply
one_step client (lfs.SetStripe name spec) step m = answered reply.Created (creates name spec m)
one_step client (lfs.Create name spec) step m = answered reply.Created (creates name spec m)
one_step client (lfs.GetStripe name) step m = shows name m (file_named name m.files)
one_step client (lfs.CompSet name id change) step m = answered reply.Set (sets client name id change step m)
one_step client (lfs.Split name mirror to) step m = splits client step m name mirror to
one_step client (lfs.Delete name mirror) step m = deletes client step m name mirror
one_step client other step m = Refuses (reply.NoFile [])

-- the command is answered so, and the server left so; a refusal leaves it as it was
abbrev pub IsAnswered : Outcome Reply → MetaView → Reply → MetaView → Type 0
IsAnswered (Gives given after) old answer new = (answer ≡ given) × (new ≡ after)
IsAnswered (Refuses refusal) old answer new = (answer ≡ refusal) × (new ≡ old)
IsAnswered (Waits holder) old answer new = ⊥

-- the command came to that. One that is blocked, or for which memory ran out, leaves the server as it was; and want of memory takes the place of no refusal that needs none
abbrev pub Comes : Outcome Reply → MetaView → Admin → MetaView → Type 0
Comes wanted old (Answered answer) new = IsAnswered wanted old answer new
Comes wanted old (Blocked holder) new = (wanted ≡ Waits holder) × (new ≡ old)
Comes wanted old NoMemory new = MayLackMemory wanted × (new ≡ old)

-- how a command stops whose call of the server stops so
abbrev pub admin_of : MetaStop → Admin
admin_of (stops.Refused refusal) = Answered refusal
admin_of (stops.Blocked holder) = Blocked holder
admin_of stops.NoMemory = NoMemory
