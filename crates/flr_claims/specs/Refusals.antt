-- Refusals: with what a command is refused when it opens its file, begins, or is made in one step; of several the first.
use Rattle.std.specs.Prelude.{◌≡◌, ℕ, ◌+◌, Bool, true, false, not, ◌&&◌, nat_lt, is_none, is_some, Option, None, Some, option_map, List, [], length}
use Rattle.std.specs.Option.{option_or}
use Rattle.flr_base.specs.declared.reply.Range.{Range}
use Rattle.flr_base.specs.declared.reply.Reply.{Reply}
use Rattle.flr_base.specs.declared.reply.Reply.TheVariants as reply
use Rattle.composite_layout.specs.Choices.{is_ready}
use Rattle.composite_layout.specs.declared.spec.MirrorSpec.{MirrorSpec}
use Rattle.composite_layout.specs.FlagChanges.{FlagSets}
use Rattle.composite_layout.specs.Layouts.{eof}
use Rattle.composite_layout.specs.LookUps.{mirror_ids, wholly_fresh}
use Rattle.composite_layout.specs.Making.{part_count}
use Rattle.layout_lease.specs.Leases.{holder_of}
use Rattle.layout_state.specs.Choosing.{primary_of}
use Rattle.layout_state.specs.Marking.{flags_refusal}
use Rattle.layout_state.specs.Mirroring.{excess, keeping}
use Rattle.layout_state.specs.Selecting.{absent_of}
use Rattle.mirror_select.specs.Pieces.{first_without}
use Rattle.lfs_words.specs.declared.command.LfsCommand.{LfsCommand}
use Rattle.lfs_words.specs.declared.command.LfsCommand.TheVariants as lfs
use Rattle.lfs_words.specs.declared.command.SplitTo.{SplitTo}
use Rattle.lfs_words.specs.declared.command.SplitTo.TheVariants as split
use Rattle.script_values.specs.declared.command.Command.{Command}
use Rattle.script_values.specs.declared.command.Command.TheVariants as command
use Rattle.meta_server.specs.Files.{File, MetaView, file_named, is_full}
use Rattle.meta_server.specs.Layouts.{offline_byte}
use Rattle.meta_server.specs.Outcomes.{refusal_of}
use Rattle.mirror_admin.specs.Rotting.{is_kept}
use Rattle.call_steps.specs.Servers.{Servers}
use Rattle.call_steps.specs.Steps.{Outcome, Going, Fixed, Ended, Answered, Blocked}
use Rattle.flr_steps.specs.declared.client.Running.TheVariants as running
use Rattle.flr_steps.specs.Clients.{call_now}
use Rattle.flr_steps.specs.Commands.{step_of}
use Rattle.flr_base.specs.Limits.{most_bytes}
use Rattle.lfs_words.specs.Naming.{default_name}

-- the answer, where that is so
abbrev pub refused_if : Bool → Reply → Option Reply
refused_if true answer = Some answer
refused_if false answer = None

-- another client has the file's lease
abbrev pub busy : MetaView → File → Option Reply
busy m f = option_map reply.Busy (holder_of m.leases f.number)

-- ---- each command, whose file is there or isn't

-- a read: nobody may answer some byte
abbrev pub read_refusal : List ℕ → Range → Option File → Option Reply
read_refusal name range None = Some (reply.NoFile name)
read_refusal name range (Some f) = option_map reply.AllOffline (first_without f.layout.components range.start range.end [])

-- a write or a truncate: the file would be too big, or no mirror may be made ready for the range
abbrev pub change_refusal : List ℕ → Range → Bool → Option File → Option Reply
change_refusal name range too_big None = Some (reply.NoFile name)
change_refusal name range too_big (Some f) =
    option_or (refused_if too_big reply.TooBig) (refused_if (not (is_ready f.layout range) && is_none (primary_of range f.layout.components)) (reply.NoPrimary range))

-- a new file: its name is there already, or there are too many files
abbrev pub make_refusal : List ℕ → List File → Option File → Option Reply
make_refusal name files (Some f) = Some (reply.Exists name)
make_refusal name files None = refused_if (is_full files) reply.TooManyFiles

-- what only needs its file
abbrev pub plain_refusal : List ℕ → Option File → Option Reply
plain_refusal name None = Some (reply.NoFile name)
plain_refusal name (Some f) = None

-- a change of flags: there is no such component, or no mirror would be left wholly fresh
abbrev pub flags_refused : List ℕ → ℕ → FlagSets → Option File → Option Reply
flags_refused name id change None = Some (reply.NoFile name)
flags_refused name id change (Some f) = option_map refusal_of (flags_refusal id change f.layout.components)

-- a mirror that goes: it isn't there, or no other would be left wholly fresh
abbrev pub delete_refusal : List ℕ → ℕ → Option File → Option Reply
delete_refusal name mirror None = Some (reply.NoFile name)
delete_refusal name mirror (Some f) = option_map refusal_of (keeping mirror f.layout.components)

-- one that goes to a file of its own: besides, it isn't wholly fresh, the new name is there already, or there are too many files
abbrev pub split_refusal : List ℕ → ℕ → List ℕ → List File → Option File → Option Reply
split_refusal name mirror to files None = Some (reply.NoFile name)
split_refusal name mirror to files (Some f) =
    option_or (option_map refusal_of (keeping mirror f.layout.components))
    (option_or (refused_if (not (wholly_fresh mirror f.layout.components)) (reply.StaleMirror mirror))
    (option_or (refused_if (is_some (file_named to files)) (reply.Exists to)) (refused_if (is_full files) reply.TooManyFiles)))

-- a resync: a named mirror isn't there, or the file is busy
abbrev pub resync_refusal : List ℕ → Option (List ℕ) → MetaView → Option File → Option Reply
resync_refusal name only m None = Some (reply.NoFile name)
resync_refusal name only m (Some f) = option_or (option_map reply.NoMirrorId (absent_of only f.layout.components)) (busy m f)

-- an extend by copy: there would be too many mirrors or components, or the file is busy
abbrev pub extend_refusal : List ℕ → List MirrorSpec → MetaView → Option File → Option Reply
extend_refusal name mirrors m None = Some (reply.NoFile name)
extend_refusal name mirrors m (Some f) = option_or (option_map refusal_of (excess f.layout (length mirrors) (part_count mirrors) m.most)) (busy m f)

-- an extend by a victim: the same of both files, or nobody may answer some byte of one of them
abbrev pub victim_refusal : List ℕ → MetaView → File → Option File → Option Reply
victim_refusal victim m f None = Some (reply.NoFile victim)
victim_refusal victim m f (Some v) =
    option_or (option_map refusal_of (excess f.layout (length (mirror_ids v.layout.components)) (length v.layout.components) m.most))
    (option_or (busy m f) (option_or (busy m v) (option_or (option_map reply.AllOffline (offline_byte f.layout)) (option_map reply.AllOffline (offline_byte v.layout)))))

abbrev pub merge_refusal : List ℕ → List ℕ → MetaView → Option File → Option Reply
merge_refusal name victim m None = Some (reply.NoFile name)
merge_refusal name victim m (Some f) = victim_refusal victim m f (file_named victim m.files)

-- ---- all commands

abbrev pub split_to_refusal : List ℕ → ℕ → SplitTo → List File → Option Reply
split_to_refusal name mirror split.Default files = split_refusal name mirror (default_name name mirror) files (file_named name files)
split_to_refusal name mirror (split.Named new) files = split_refusal name mirror new files (file_named name files)
split_to_refusal name mirror split.Destroy files = delete_refusal name mirror (file_named name files)

abbrev pub lfs_refusal : LfsCommand → MetaView → Option Reply
lfs_refusal (lfs.SetStripe name spec) m = make_refusal name m.files (file_named name m.files)
lfs_refusal (lfs.GetStripe name) m = plain_refusal name (file_named name m.files)
lfs_refusal (lfs.CompSet name id change) m = flags_refused name id change (file_named name m.files)
lfs_refusal (lfs.Create name spec) m = make_refusal name m.files (file_named name m.files)
lfs_refusal (lfs.Extend name spec) m = extend_refusal name spec m (file_named name m.files)
lfs_refusal (lfs.ExtendBy name victim) m = merge_refusal name victim m (file_named name m.files)
lfs_refusal (lfs.Split name mirror to) m = split_to_refusal name mirror to m.files
lfs_refusal (lfs.Delete name mirror) m = delete_refusal name mirror (file_named name m.files)
lfs_refusal (lfs.Resync name only) m = resync_refusal name only m (file_named name m.files)
lfs_refusal (lfs.Verify name) m = plain_refusal name (file_named name m.files)

-- with what a command is refused that opens its file, begins, or is made in one step, if it is
abbrev pub refusal_for : Command → Servers → Option Reply
refusal_for (command.Read name offset len) s = read_refusal name (record { start = offset; end = offset + len }) (file_named name s.meta.files)
refusal_for (command.Write name offset bytes) s =
    let end : ℕ = offset + length bytes in change_refusal name (record { start = offset; end = end }) (nat_lt most_bytes end) (file_named name s.meta.files)
refusal_for (command.Truncate name size) s = change_refusal name (record { start = size; end = eof }) (nat_lt most_bytes size) (file_named name s.meta.files)
refusal_for (command.Lfs of) s = lfs_refusal of s.meta
refusal_for (command.Evict client) s = None
refusal_for (command.Rot object offset byte) s = refused_if (not (is_kept object s.targets)) reply.NoObject

-- ---- what such a step comes to

-- an answer that refuses nothing
abbrev pub IsSuccess : Reply → Type 0
IsSuccess reply.Created = Unit {0}
IsSuccess (reply.Layout text) = Unit {0}
IsSuccess reply.Set = Unit {0}
IsSuccess (reply.Split name) = Unit {0}
IsSuccess (reply.Removed mirror) = Unit {0}
IsSuccess (reply.EvictedClient client) = Unit {0}
IsSuccess (reply.Copied cleared left) = Unit {0}
IsSuccess reply.Rotted = Unit {0}
IsSuccess other = ⊥

-- the step refuses nothing: it isn't an answer, or one of those
abbrev pub RefusesNone : {C : Type 0} → Outcome C → Type 0
RefusesNone (Going next after) = Unit {0}
RefusesNone (Fixed next answer takes after) = Unit {0}
RefusesNone (Ended after) = Unit {0}
RefusesNone (Answered answer takes after) = IsSuccess answer
RefusesNone (Blocked holder) = Unit {0}

-- the step is an answer with that refusal, without takes, which leaves the servers as they were; where there is none, it refuses nothing
abbrev pub RefusesBy : {C : Type 0} → Servers → Option Reply → Outcome C → Type 0
RefusesBy s (Some answer) o = o ≡ Answered answer [] s
RefusesBy s None o = RefusesNone o

-- a command that begins is refused exactly so, whoever is in the way
abbrev pub RefusedExactly : Type 0
RefusedExactly = (c place : ℕ) (s : Servers) (asked : Command) → RefusesBy s (refusal_for asked s) (step_of (call_now c running.Idle asked) c asked place s)
