-- Blocked: whom a client waits for.
use Rattle.std.specs.Prelude.{◌≡◌, ◌↔◌, ℕ, ◌==◌, Bool, true, false, nat_lt, Option, None, Some, option_map, List, [], ◌∷◌, ◌++◌, length, map}
use Rattle.std.specs.Option.{option_or}
use Rattle.flr_base.specs.declared.reply.ObjectId.{ObjectId}
use Rattle.flr_base.specs.declared.reply.Range.{Range}
use Rattle.flr_base.specs.declared.reply.Reply.{Reply}
use Rattle.composite_layout.specs.Choices.{is_ready}
use Rattle.composite_layout.specs.Layouts.{eof}
use Rattle.extent_lock.specs.declared.lock.Lock.{Lock}
use Rattle.extent_lock.specs.Extents.{blocker, writer_but}
use Rattle.layout_lease.specs.declared.lease.KeyState.{KeyState}
use Rattle.layout_lease.specs.declared.lease.KeyState.TheVariants.{Broken, Held}
use Rattle.layout_lease.specs.Leases.{state_of}
use Rattle.layout_lease.specs.Shares.{lowest_but}
use Rattle.layout_state.specs.Selecting.{selected_of}
use Rattle.lfs_words.specs.declared.command.LfsCommand.{LfsCommand}
use Rattle.lfs_words.specs.declared.command.LfsCommand.TheVariants as lfs
use Rattle.script_values.specs.declared.command.Command.{Command}
use Rattle.script_values.specs.declared.command.Command.TheVariants as command
use Rattle.script_values.specs.Scripts.{command_after}
use Rattle.meta_server.specs.declared.answers.CopyWhat.{CopyWhat}
use Rattle.meta_server.specs.declared.answers.CopyWhat.TheVariants as what
use Rattle.meta_server.specs.Files.{File, MetaView, file_named, file_of}
use Rattle.call_steps.specs.Pieces.{piece_at}
use Rattle.call_steps.specs.Servers.{Servers}
use Rattle.client_read.specs.declared.phase.ReadAt.{ReadAt}
use Rattle.client_read.specs.declared.phase.ReadAt.TheVariants as read_at
use Rattle.client_read.specs.Reads as read
use Rattle.client_read.specs.Views.{ReadView}
use Rattle.client_write.specs.Calls.{TruncateView, WriteView}
use Rattle.client_write.specs.declared.phase.CutAt.{CutAt}
use Rattle.client_write.specs.declared.phase.CutAt.TheVariants as cut_at
use Rattle.client_write.specs.declared.phase.WriteAt.{WriteAt}
use Rattle.client_write.specs.declared.phase.WriteAt.TheVariants as write_at
use Rattle.client_write.specs.Truncates as cut
use Rattle.client_write.specs.Writes as write
use Rattle.resync_copy.specs.Calls.{CopyView}
use Rattle.resync_copy.specs.Comparing.{merge_fences}
use Rattle.resync_copy.specs.Copies.{settled_objects}
use Rattle.resync_copy.specs.declared.merge_phase.MergeStage.{MergeStage}
use Rattle.resync_copy.specs.declared.merge_phase.MergeStage.TheVariants as merge
use Rattle.resync_copy.specs.declared.parts.CopyObject.{CopyObject}
use Rattle.resync_copy.specs.declared.phase.CopyAt.{CopyAt}
use Rattle.resync_copy.specs.declared.phase.CopyAt.TheVariants as copy_at
use Rattle.resync_copy.specs.declared.phase.CopyStage.{CopyStage}
use Rattle.resync_copy.specs.declared.phase.CopyStage.TheVariants as stage
use Rattle.flr_steps.specs.declared.client.Client.{Client}
use Rattle.flr_steps.specs.declared.client.Running.{Running}
use Rattle.flr_steps.specs.declared.client.Running.TheVariants as running
use Rattle.flr_steps.specs.Clients.{call_now}
use Rattle.flr_steps.specs.States.{Blocked, IsRun, State, client_at, next}
use Rattle.flr_base.specs.Limits.{most_bytes}
use Rattle.flr_claims.specs.Refusals.{change_refusal, extend_refusal, lfs_refusal, merge_refusal, resync_refusal}

-- what a step needs of all other clients: that none shares the layout locks of these files; that no extent lock is in the way of these; that none writes to these objects; or nothing
pub data Need : Type 0 where
  Alone : (files : List File) → Need
  Extents : (locks : List Lock) → Need
  Quiet : (objects : List ObjectId) → Need
  Nothing : Need

-- ---- who is in the way

-- the lowest other client that shares the layout lock of the first of these files that somebody else shares
abbrev pub sharer : ℕ → List File → Option ℕ
sharer client [] = None
sharer client (f ∷ fs) = option_or (lowest_but client f.lock) (sharer client fs)

-- who has the lock that is in the way of the first of these that isn't free: of several the one with the lowest start, then the lowest client
abbrev pub first_in_way : List Lock → List Lock → Option (ℕ × Range)
first_in_way held [] = None
first_in_way held (lock ∷ locks) = option_or (blocker held lock) (first_in_way held locks)

-- who else has a PW lock on the first of these objects on which somebody else has one, by the same order
abbrev pub first_writer : List Lock → ℕ → List ObjectId → Option (ℕ × Range)
first_writer held client [] = None
first_writer held client (o ∷ os) = option_or (writer_but held client o) (first_writer held client os)

abbrev pub holder_told : Option (ℕ × Range) → Option ℕ
holder_told told = option_map (λ (t : ℕ × Range). t.0) told

-- who is in the way of what a client needs
abbrev pub in_way_of : Servers → ℕ → Need → Option ℕ
in_way_of s client (Alone files) = sharer client files
in_way_of s client (Extents locks) = holder_told (first_in_way s.locks locks)
in_way_of s client (Quiet objects) = holder_told (first_writer s.locks client objects)
in_way_of s client Nothing = None

-- ---- a step that changes layouts needs them alone, where nothing refuses it

-- these files alone, unless the step is refused
abbrev pub unless : Option Reply → List File → Need
unless None files = Alone files
unless (Some refusal) files = Nothing

-- the file, if it is there
abbrev pub there : Option File → List File
there None = []
there (Some f) = f ∷ []

-- the file, unless its layout stays as it is
abbrev pub changed_unless : Bool → File → List File
changed_unless true f = []
changed_unless false f = f ∷ []

-- the open of a write or a truncate makes an intent in a file whose range isn't ready
abbrev pub unready : Range → Option File → List File
unready range None = []
unready range (Some f) = changed_unless (is_ready f.layout range) f

-- the begin of a resync marks a file in which there is something to copy
abbrev pub selecting : Option (List ℕ) → Option File → List File
selecting only None = []
selecting only (Some f) = changed_unless (length (selected_of only f.layout.components) == 0) f

abbrev pub opening_needs : List ℕ → Range → Bool → Option File → Need
opening_needs name range too_big file = unless (change_refusal name range too_big file) (unready range file)

-- the files that a command of one step changes in place
abbrev pub changed_by : LfsCommand → List File → List File
changed_by (lfs.CompSet name id change) files = there (file_named name files)
changed_by (lfs.Split name mirror to) files = there (file_named name files)
changed_by (lfs.Delete name mirror) files = there (file_named name files)
changed_by other files = []

-- the begin of a copy
abbrev pub begin_needs : List ℕ → MetaView → CopyWhat → Option File → Need
begin_needs name m (what.Resync only) file = unless (resync_refusal name only m file) (selecting only file)
begin_needs name m (what.Extend mirrors) file = unless (extend_refusal name mirrors m file) (there file)
begin_needs name m (what.Victim victim) file = unless (merge_refusal name victim m file) (there file ++ there (file_named victim m.files))

-- the end of a copy whose lease stands
abbrev pub done_needs : KeyState → Option File → Need
done_needs Held (Some f) = Alone (f ∷ [])
done_needs Held None = Nothing
done_needs (Broken place) file = Nothing

-- the end of an extend by a victim that isn't refused and whose leases stand
abbrev pub merge_done_needs : Option Reply → KeyState → KeyState → Option File → Option File → Need
merge_done_needs (Some kept) ours theirs file victim = Nothing
merge_done_needs None (Broken place) theirs file victim = Nothing
merge_done_needs None Held (Broken place) file victim = Nothing
merge_done_needs None Held Held None victim = Nothing
merge_done_needs None Held Held (Some f) None = Nothing
merge_done_needs None Held Held (Some f) (Some v) = Alone (f ∷ v ∷ [])

-- ---- what each step needs

abbrev pub read_needs : ReadView → ReadAt → Need
read_needs r (read_at.Lock x next) = Extents (read.lock_for r (piece_at x.pieces next) ∷ [])
read_needs r other = Nothing

abbrev pub write_needs : WriteView → WriteAt → Servers → Need
write_needs w write_at.Open s = opening_needs w.name (write.range_of w) (nat_lt most_bytes (write.range_of w).end) (file_named w.name s.meta.files)
write_needs w (write_at.Lock x next) s = Extents (write.lock_for w (piece_at x.pieces next) ∷ [])
write_needs w other s = Nothing

abbrev pub cut_needs : TruncateView → CutAt → Servers → Need
cut_needs t cut_at.Open s = opening_needs t.name (record { start = t.size; end = eof }) (nat_lt most_bytes t.size) (file_named t.name s.meta.files)
cut_needs t (cut_at.Lock x) s = Extents (cut.locks_for t x)
cut_needs t other s = Nothing

abbrev pub object_ids : List CopyObject → List ObjectId
object_ids objects = map (λ (o : CopyObject). o.object) objects

abbrev pub stage_needs : CopyStage → Servers → Need
stage_needs (stage.Settle x) s = Quiet (object_ids (settled_objects x))
stage_needs (stage.Done key cleared left) s = done_needs (state_of s.meta.leases key) (file_of key.file s.meta.files)
stage_needs other s = Nothing

abbrev pub merge_needs : MergeStage → Servers → Need
merge_needs (merge.Settle x) s = Quiet (object_ids (merge_fences x))
merge_needs (merge.Done ours theirs refusal) s = merge_done_needs refusal (state_of s.meta.leases ours) (state_of s.meta.leases theirs) (file_of ours.file s.meta.files) (file_of theirs.file s.meta.files)
merge_needs other s = Nothing

abbrev pub copy_needs : CopyView → CopyAt → Servers → Need
copy_needs c copy_at.Begin s = begin_needs c.name s.meta c.what (file_named c.name s.meta.files)
copy_needs c (copy_at.Copy next) s = stage_needs next s
copy_needs c (copy_at.Merge next) s = merge_needs next s

-- a command of one step
abbrev pub command_needs : Command → Servers → Need
command_needs (command.Lfs of) s = unless (lfs_refusal of s.meta) (changed_by of s.meta.files)
command_needs other s = Nothing

-- the next step of this call, or of a command of one step
abbrev pub needs_of : Running → Command → Servers → Need
needs_of running.Idle asked s = command_needs asked s
needs_of (running.Read call) asked s = read_needs call call.at
needs_of (running.Write call) asked s = write_needs call call.at s
needs_of (running.Truncate call) asked s = cut_needs call call.at s
needs_of (running.Copy call) asked s = copy_needs call call.at s
needs_of (running.Verify call) asked s = Nothing

-- ---- waiting

-- a client waits for a holder: who is in the way of what its next step needs
pub record IsWaiting (s : State) (c holder : ℕ) : Type 0 where
  pub client : Client
  pub here : client_at s.clients c ≡ Some client
  pub asked : Command
  pub commanded : command_after s.script c client.done ≡ Some asked
  pub in_way : in_way_of s.shared c (needs_of (call_now c client.call asked) asked s.shared) ≡ Some holder

-- in every run the next step of a client is blocked by a holder exactly where the client waits for it
abbrev pub BlockedWhereWaiting : Type 0
BlockedWhereWaiting = (s : State) (c holder : ℕ) → IsRun s → (next s c ≡ Blocked holder) ↔ IsWaiting s c holder
