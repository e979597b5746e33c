-- Copied whole: what a copy did for a destination before it cleared it; and why it left another.
use Rattle.std.specs.Prelude.{◌≡◌, ◌↔◌, ℕ, ◌+◌, ◌-◌, ◌*◌, ◌<◌, ◌≤◌, min, Bool, true, false, ◌&&◌, List, [], ◌∷◌, ◌++◌, length, map, filter, Contains, None, Some, slice_get}
use Rattle.std.specs.List.{AllByRecursion, list_any}
use Rattle.std.specs.List.Sorted.{IsStrictlyIncreasing}
use Rattle.flr_base.specs.Bytes.{piece}
use Rattle.flr_base.specs.declared.reply.FailedCall.{FailedCall}
use Rattle.flr_base.specs.declared.reply.Left.{Left}
use Rattle.flr_base.specs.declared.reply.ObjectId.{ObjectId}
use Rattle.composite_layout.specs.Choices.{overlaps}
use Rattle.composite_layout.specs.declared.component.Component.{Component}
use Rattle.composite_layout.specs.Layouts.{Composite}
use Rattle.stripe_map.specs.Places.{place_of}
use Rattle.extent_lock.specs.Extents.{writer_but}
use Rattle.layout_state.specs.Marking.{IsDone}
use Rattle.layout_state.specs.Selecting.{selected_of}
use Rattle.lfs_words.specs.declared.command.LfsCommand.{LfsCommand}
use Rattle.lfs_words.specs.declared.command.LfsCommand.TheVariants as lfs
use Rattle.script_values.specs.declared.command.Command.{Command}
use Rattle.script_values.specs.declared.command.Command.TheVariants as command
use Rattle.mirror_select.specs.Candidates.{chosen, has_byte}
use Rattle.object_target.specs.declared.call.CallAnswer.TheVariants as answer
use Rattle.object_target.specs.declared.call.CallKind.{CallKind}
use Rattle.object_target.specs.declared.call.CallKind.TheVariants as kind
use Rattle.meta_server.specs.Closing.{size_of}
use Rattle.meta_server.specs.Files.{File, file_of}
use Rattle.meta_server.specs.Layouts.{extended, new_ids}
use Rattle.call_steps.specs.Servers.{Servers}
use Rattle.flr_steps.specs.Destinations.{made_for}
use Rattle.flr_steps.specs.States.{State, Stepped, next, state_at}
use Rattle.flr_steps.specs.Traces.{Made}
use Rattle.flr_claims.specs.Asked.{IsFile}
use Rattle.flr_claims.specs.Calls.{Call, HasOpened, IsLeased, IsSettledAt}
use Rattle.flr_claims.specs.Failures.{IsCountedFailure, IsFirstOf, IsLastOf, failed_of, is_of, is_on, is_unanswered, is_failed_take}
use Rattle.flr_claims.specs.Honesty.{content}

-- ---- calls that went through

-- the call is of this kind, of this object, with this generation, and went through
pub record WentThrough (m : Made) (of : CallKind) (o : ObjectId) (generation : ℕ) : Type 0 where
  pub kind_is : m.entry.kind ≡ of
  pub object : is_of o m ≡ true
  pub version : m.entry.version ≡ generation
  pub ok : m.entry.answer ≡ answer.Ok

-- some call among these did
pub record HasCall (made : List Made) (of : CallKind) (o : ObjectId) (generation : ℕ) : Type 0 where
  pub by : Made
  pub listed : Contains made by
  pub went : WentThrough by of o generation

-- a component that holds the file's bytes: it is fresh and has its objects
pub record HoldsBytes (cs : List Component) (c : Component) : Type 0 where
  pub listed : Contains cs c
  pub fresh : c.flags.stale ≡ false
  pub made : c.flags.init ≡ true

-- one whose bytes a copy to this destination can be from, since it overlaps it
abbrev pub IsSource : List Component → Component → Component → Type 0
IsSource cs d c = HoldsBytes cs c × (overlaps d.extent c ≡ true)

-- each object of each source was fenced
abbrev pub AreFenced : Composite → Component → List Made → Type 0
AreFenced l d made = (c : Component) (o : ObjectId) → IsSource l.components d c → Contains c.objects o → HasCall made kind.Fence o l.generation

-- each object of the destination was reset
abbrev pub AreReset : Composite → Component → List Made → Type 0
AreReset l d made = (o : ObjectId) → Contains d.objects o → HasCall made kind.Reset o l.generation

-- nobody else had a PW lock on an object of a source
abbrev pub AreQuiet : Composite → Component → ℕ → Servers → Type 0
AreQuiet l d client s = (c : Component) (o : ObjectId) → IsSource l.components d c → Contains c.objects o → writer_but s.locks client o ≡ None

-- ---- chunks

-- the first byte of a chunk, and where its bytes end that are copied to this destination of a file of this size
abbrev pub chunk_start : ℕ → ℕ
chunk_start number = 65536 * number

abbrev pub chunk_end : Component → ℕ → ℕ → ℕ
chunk_end d size number = min (chunk_start (number + 1)) (min d.extent.end size)

-- the destination has this chunk, of a file of this size
abbrev pub IsChunkOf : Component → ℕ → ℕ → Type 0
IsChunkOf d size number = (d.extent.start ≤ chunk_start number) × (chunk_start number < min d.extent.end size)

-- the call read these bytes of the file, from this one on, from a fresh component of the layout that has them, where striping places them; the object held them
pub record IsTaken (cs : List Component) (start : ℕ) (bytes : List ℕ) (m : Made) : Type 0 where
  pub source : Component
  pub listed : Contains cs source
  pub fresh : source.flags.stale ≡ false
  pub over : has_byte start source ≡ true
  pub object : ObjectId
  pub there : slice_get source.objects (place_of start source.stripe).index ≡ Some object
  pub read : m.entry.kind ≡ kind.Read
  pub of : is_of object m ≡ true
  pub ok : m.entry.answer ≡ answer.Ok
  pub offset : m.entry.offset ≡ (place_of start source.stripe).offset
  pub length : m.entry.length ≡ length bytes
  pub bytes_are : bytes ≡ piece m.bytes m.entry.offset m.entry.length

-- the call wrote so many bytes of the file to the destination, from this one on, where striping places them, with the generation; with it the object held these bytes
pub record IsPut (last : State) (d : Component) (generation start : ℕ) (bytes : List ℕ) (m : Made) : Type 0 where
  pub object : ObjectId
  pub there : slice_get d.objects (place_of start d.stripe).index ≡ Some object
  pub went : WentThrough m kind.Write object generation
  pub offset : m.entry.offset ≡ (place_of start d.stripe).offset
  pub length : m.entry.length ≡ length bytes
  pub written : State
  pub written_is : state_at last.script last.schedule m.place ≡ Some written
  pub holds : piece (content written.shared object) m.entry.offset m.entry.length ≡ bytes

-- these are ids of components of which a read failed
abbrev pub HaveFailed : List Component → List Made → List ℕ → Type 0
HaveFailed cs made ids = AllByRecursion (λ (id : ℕ). (c : Component) × Contains cs c × (c.id ≡ id) × (list_any (is_failed_take c) made ≡ true)) ids

-- who is to answer the byte, without components of which a read failed, has no objects, so that the byte is zero
pub record IsHole (cs : List Component) (made : List Made) (byte : ℕ) : Type 0 where
  pub failed : List ℕ
  pub have : HaveFailed cs made failed
  pub source : Component
  pub chosen_is : chosen cs failed byte ≡ Some source
  pub none : source.flags.init ≡ false

-- a chunk was copied by these calls: its bytes were taken, and then put; or it is a hole
pub data IsCopied (last : State) (l : Composite) (d : Component) (size number : ℕ) (made : List Made) : Type 0 where
  ByCalls : (bytes : List ℕ) (before between after : List Made) (taken put : Made) → made ≡ before ++ taken ∷ between ++ put ∷ after
      → length bytes ≡ chunk_end d size number - chunk_start number → IsTaken l.components (chunk_start number) bytes taken → IsPut last d l.generation (chunk_start number) bytes put
      → IsCopied last l d size number made
  ByHole : IsHole l.components made (chunk_start number) → IsCopied last l d size number made

-- ---- copied whole

-- the copy settled: this is the state before that step, and the size that the file had there
pub record HasSettled (k : Call) (f : File) (place : ℕ) (settled : State) (size : ℕ) : Type 0 where
  pub at : IsSettledAt k place settled
  pub size_is : size_of f.number settled.shared.meta ≡ Some size

-- the calls that the copy made for the chunks of a destination
abbrev pub chunk_calls : Call → Component → List Made
chunk_calls k d = made_for k.before k.client d.id k.did.made

-- the chunk was copied, of a file of this size
abbrev pub IsChunkCopied : Call → File → Component → ℕ → ℕ → Type 0
IsChunkCopied k f d size number = IsCopied k.before f.layout d size number (chunk_calls k d)

-- a copy that began on the file as it is here copied a destination whole: each object of each source was fenced, then each of its own objects was reset, then nobody else wrote to a source, which is when the size was read, and then each of its chunks below that size was copied. The lease stood in the state before the last step
pub record IsCopiedWhole (k : Call) (f : File) (d : Component) : Type 0 where
  pub unbroken : IsLeased k f.number
  pub fences : List Made
  pub resets : List Made
  pub rest : List Made
  pub in_order : k.did.made ≡ fences ++ resets ++ rest
  pub fenced : AreFenced f.layout d fences
  pub emptied : AreReset f.layout d resets
  pub place : ℕ
  pub settled : State
  pub size : ℕ
  pub settles : HasSettled k f place settled size
  pub before : AllByRecursion (λ (m : Made). m.place < place) (fences ++ resets)
  pub behind : AllByRecursion (λ (m : Made). place < m.place) rest
  pub alone : AreQuiet f.layout d k.client settled.shared
  pub copied : (number : ℕ) → IsChunkOf d size number → IsChunkCopied k f d size number

-- ---- left

abbrev pub is_fence : CallKind → Bool
is_fence kind.Fence = true
is_fence other = false

-- whether the call is a fence of a component that overlaps the destination
abbrev pub is_fence_over : List Component → Component → Made → Bool
is_fence_over cs d m = is_fence m.entry.kind && list_any (λ (c : Component). overlaps d.extent c && is_on c m) cs

abbrev pub is_change : CallKind → Bool
is_change kind.Reset = true
is_change kind.Write = true
is_change other = false

-- whether the call is a reset of the destination, or a write to it
abbrev pub is_change_of : Component → Made → Bool
is_change_of d m = is_change m.entry.kind && is_on d m

-- the copy came to this chunk of the destination: each chunk before it was copied, and it wasn't
pub record IsReached (k : Call) (f : File) (d : Component) (number : ℕ) : Type 0 where
  pub place : ℕ
  pub settled : State
  pub size : ℕ
  pub settles : HasSettled k f place settled size
  pub chunk : IsChunkOf d size number
  pub earlier : (other : ℕ) → IsChunkOf d size other → other < number → IsChunkCopied k f d size other
  pub not_copied : IsChunkCopied k f d size number → ⊥

-- a destination is left for this call: it is the first fence that failed, of those of components that overlap it; or a reset of it, or a write to it, that failed; or nobody was left to answer a chunk to which the copy came, and it is the last read for it that failed
pub data IsLeftFor (k : Call) (f : File) (d : Component) (call : FailedCall) : Type 0 where
  ByFence : IsFirstOf (failed_of (filter (is_fence_over f.layout.components d) k.did.made)) call → IsLeftFor k f d call
  ByChange : IsCountedFailure k.before.script.fails (filter (is_change_of d) k.did.made) call → IsLeftFor k f d call
  ByTakes : (number : ℕ) → IsReached k f d number → is_unanswered f.layout.components (chunk_calls k d) (chunk_start number) ≡ true → IsLastOf (failed_of (chunk_calls k d)) call → IsLeftFor k f d call

-- ---- what a copy answers

-- the components to which a resync of these mirrors copies, and those to which an extend does, which brings them
abbrev pub lfs_selects : ℕ → LfsCommand → Composite → List ℕ
lfs_selects targets (lfs.Resync name only) l = selected_of only l.components
lfs_selects targets (lfs.Extend name spec) l = selected_of (Some (new_ids spec l)) (extended spec targets l).components
lfs_selects targets other l = []

abbrev pub selects : State → Command → File → List ℕ
selects s (command.Lfs of) f = lfs_selects s.script.targets of f.layout
selects s other f = []

-- those are the ids of what the command selects in its file, in this state
abbrev pub AreSelected : State → Command → List ℕ → Type 0
AreSelected s asked ids = (f : File) × IsFile s asked f × (selects s asked f ≡ ids)

-- a copy began on this file, which is told as it was right behind that step, to copy to the components with these ids: what the command selected just before
pub record HasBegun (k : Call) (f : File) (ids : List ℕ) : Type 0 where
  pub opened : HasOpened k f
  pub old : State
  pub old_is : state_at k.before.script k.before.schedule (k.did.opened - 1) ≡ Some old
  pub selected : AreSelected old k.asked ids

-- the component is one to which the copy copies
abbrev pub IsDestination : File → List ℕ → Component → Type 0
IsDestination f ids d = Contains f.layout.components d × Contains ids d.id

-- a destination, by its id, is left, for a call of this copy that the script lists to fail
pub record IsRightlyLeft (k : Call) (f : File) (ids cleared : List ℕ) (l : Left) : Type 0 where
  pub d : Component
  pub destination : IsDestination f ids d
  pub same : l.component ≡ d.id
  pub kept : Contains cleared d.id → ⊥
  pub counted : IsCountedFailure k.before.script.fails k.did.made l.call
  pub why : IsLeftFor k f d l.call

-- the call's step at its point takes stale from these components of the file and from no other, and leaves all other files
pub record IsClearing (k : Call) (file : ℕ) (cleared : List ℕ) : Type 0 where
  pub after : State
  pub made : next k.before k.client ≡ Stepped after
  pub old : File
  pub old_is : file_of file k.before.shared.meta.files ≡ Some old
  pub new : File
  pub new_is : file_of file after.shared.meta.files ≡ Some new
  pub done : IsDone cleared old.layout new.layout
  pub others : (number : ℕ) → (number ≡ file → ⊥) → file_of number after.shared.meta.files ≡ file_of number k.before.shared.meta.files

-- a copy got these cleared and left those: cleared are exactly the destinations that were copied whole; each other one is left, and nothing else is, both in ascending order, so that nobody is named twice; and stale goes from the cleared ones alone, under a lease that stood
pub record IsRightlyCleared (k : Call) (f : File) (ids : List ℕ) (cleared : List ℕ) (left : List Left) : Type 0 where
  pub begun : HasBegun k f ids
  pub leased : IsLeased k f.number
  pub destinations : (id : ℕ) → Contains cleared id → (d : Component) × IsDestination f ids d × (d.id ≡ id)
  pub whole : (d : Component) → IsDestination f ids d → Contains cleared d.id ↔ IsCopiedWhole k f d
  pub ascending : IsStrictlyIncreasing cleared
  pub others : (d : Component) → IsDestination f ids d → (Contains cleared d.id → ⊥) → (l : Left) × Contains left l × (l.component ≡ d.id)
  pub lefts : AllByRecursion (IsRightlyLeft k f ids cleared) left
  pub left_once : IsStrictlyIncreasing (map (λ (l : Left). l.component) left)
  pub clearing : IsClearing k f.number cleared
