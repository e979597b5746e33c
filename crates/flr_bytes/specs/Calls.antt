-- What reads, verifies, copies and merges know of bytes, by their phases.
use Rattle.std.specs.Prelude.{◌≡◌, ◌⊎◌, ℕ, ◌+◌, ◌<◌, ◌≤◌, true, false, List, [], length, Contains, Option, None, Some, get_or, unwrap_or}
use Rattle.composite_layout.specs.declared.component.Component.{Component}
use Rattle.layout_lease.specs.declared.lease.KeyState.TheVariants.{Held}
use Rattle.layout_lease.specs.Leases.{KeyView, state_of}
use Rattle.mirror_select.specs.Held.{held}
use Rattle.meta_server.specs.Closing.{holds}
use Rattle.meta_server.specs.Files.{MetaView}
use Rattle.call_steps.specs.Servers.{Servers}
use Rattle.client_read.specs.declared.phase.ReadAt.{ReadAt}
use Rattle.client_read.specs.declared.phase.ReadAt.TheVariants as read
use Rattle.client_read.specs.declared.phase.Reading.{Reading}
use Rattle.mirror_verify.specs.declared.phase.VerifyAt.{VerifyAt}
use Rattle.mirror_verify.specs.declared.phase.VerifyAt.TheVariants as verify
use Rattle.mirror_verify.specs.declared.phase.Verifying.{Verifying}
use Rattle.mirror_verify.specs.Blocks.{copy_at, is_first}
use Rattle.resync_copy.specs.declared.merge_phase.MergeStage.{MergeStage}
use Rattle.resync_copy.specs.declared.merge_phase.MergeStage.TheVariants as merge
use Rattle.resync_copy.specs.declared.merge_phase.Pair.{Pair}
use Rattle.resync_copy.specs.declared.phase.Chunk.{Chunk}
use Rattle.resync_copy.specs.declared.phase.CopyAt.{CopyAt}
use Rattle.resync_copy.specs.declared.phase.CopyAt.TheVariants as at
use Rattle.resync_copy.specs.declared.phase.CopyStage.{CopyStage}
use Rattle.resync_copy.specs.declared.phase.CopyStage.TheVariants as stage
use Rattle.resync_copy.specs.Chunks.{chunk_range, chunk_start}
use Rattle.resync_copy.specs.Comparing.{ComparingView}
use Rattle.resync_copy.specs.Copies.{bytes_of, object_at}
use Rattle.resync_copy.specs.Parts.{cleared_of, destination_at, is_kept, is_open}
use Rattle.resync_copy.specs.Views.{CopyingView, resets_of}
use Rattle.flr_numbers.specs.Frames.{Leases}
use Rattle.flr_steps.specs.declared.client.Running.{Running}
use Rattle.flr_steps.specs.declared.client.Running.TheVariants as running
use Rattle.flr_claims.specs.Honesty.{IsOf, content}
use Rattle.flr_bytes.specs.Sentences.{AreBytes}

-- ---- reads

-- while the cookie is held, what a read has got so far of its range are the bytes of the file
abbrev pub IsGot : MetaView → (ℕ → ℕ → ℕ) → ℕ → Reading → Type 0
IsGot m byte start x = holds x.opened.file x.opened.cookie m ≡ true → (i : ℕ) → i < length x.got.bytes → get_or x.got.bytes i 0 ≡ byte x.opened.file (start + i)

-- a read that has opened its file knows it until its bytes are fixed
abbrev pub ReadSays : MetaView → (ℕ → ℕ → ℕ) → ℕ → ReadAt → Type 0
ReadSays m byte start (read.Lock x next) = IsGot m byte start x
ReadSays m byte start (read.Take x next) = IsGot m byte start x
ReadSays m byte start (read.Confirm x) = IsGot m byte start x
ReadSays m byte start other = Unit {0}

-- ---- verifies

-- while the cookie is held no difference was found
abbrev pub AreAlike : MetaView → Verifying → Type 0
AreAlike m x = holds x.opened.file x.opened.cookie m ≡ true → x.found.diffs ≡ []

-- and the bytes of the first copy of a block, with which the copy in hand is to be compared, are those of the file
abbrev pub IsFirstRight : MetaView → (ℕ → ℕ → ℕ) → Verifying → ℕ → Type 0
IsFirstRight m byte x next = holds x.opened.file x.opened.cookie m ≡ true → is_first (copy_at x.copies next) ≡ false → AreBytes (byte x.opened.file) (copy_at x.copies next).piece.range x.found.first

abbrev pub VerifySays : MetaView → (ℕ → ℕ → ℕ) → VerifyAt → Type 0
VerifySays m byte (verify.Take x next) = AreAlike m x × IsFirstRight m byte x next
VerifySays m byte (verify.Close x fault) = AreAlike m x
VerifySays m byte verify.Open = Unit {0}

-- ---- copies

-- the component is the destination at this place, which isn't left
pub record IsKeptDestination (x : CopyingView) (place : ℕ) (d : Component) : Type 0 where
  pub within : place < length x.destinations
  pub kept : is_kept (destination_at x.destinations place) ≡ true
  pub listed : Contains x.side.layout.components d
  pub same : d.id ≡ (destination_at x.destinations place).component

-- while the lease stands, of the first so many objects to reset each of a destination that isn't left has no bytes
abbrev pub AreEmptied : Servers → CopyingView → ℕ → Type 0
AreEmptied s x count = state_of s.meta.leases x.side.key ≡ Held → (i : ℕ) → i < count → is_open x.destinations (object_at (resets_of x) i).component ≡ true → content s (object_at (resets_of x) i).object ≡ []

-- the component holds the file's bytes below this end, and zeros from there on
abbrev pub IsCopiedTo : Servers → (ℕ → ℕ) → Component → ℕ → Type 0
IsCopiedTo s byte d end = (x : ℕ) → IsOf d x → ((x < end → held (content s) d x ≡ byte x) × (end ≤ x → held (content s) d x ≡ 0))

-- the component holds the file's bytes
abbrev pub HoldsFile : Servers → (ℕ → ℕ) → Component → Type 0
HoldsFile s byte d = (x : ℕ) → IsOf d x → held (content s) d x ≡ byte x

-- while the lease stands: past the settled size the file has no bytes in a destination that isn't left; each of these before the one in hand is copied, the one in hand up to the chunk in hand, and the later ones are empty
pub record AreCopied (s : Servers) (byte : ℕ → ℕ → ℕ) (h : Chunk) : Type 0 where
  pub past : (place : ℕ) (d : Component) (x : ℕ) → IsKeptDestination h.copying place d → IsOf d x → h.size ≤ x → byte h.copying.side.key.file x ≡ 0
  pub before : (place : ℕ) (d : Component) → IsKeptDestination h.copying place d → place < h.place → HoldsFile s (byte h.copying.side.key.file) d
  pub here : (d : Component) → IsKeptDestination h.copying h.place d → IsCopiedTo s (byte h.copying.side.key.file) d (chunk_start h.number)
  pub behind : (place : ℕ) (d : Component) → IsKeptDestination h.copying place d → h.place < place → IsCopiedTo s (byte h.copying.side.key.file) d 0

abbrev pub CopiedSoFar : Servers → (ℕ → ℕ → ℕ) → Chunk → Type 0
CopiedSoFar s byte h = state_of s.meta.leases h.copying.side.key ≡ Held → AreCopied s byte h

-- while the lease stands the bytes that are to be put are those of the file
abbrev pub IsInHand : Servers → (ℕ → ℕ → ℕ) → Chunk → List ℕ → Type 0
IsInHand s byte h bytes = state_of s.meta.leases h.copying.side.key ≡ Held → AreBytes (byte h.copying.side.key.file) (bytes_of h) bytes

-- while the lease stands each component that is to be cleared holds the bytes of the file
abbrev pub ClearsCopied : Servers → (ℕ → ℕ → ℕ) → KeyView → List ℕ → Type 0
ClearsCopied s byte key cleared =
    state_of s.meta.leases key ≡ Held →
    (cleared ≡ []) ⊎ ((x : CopyingView) × (x.side.key ≡ key) × Leases s.meta key x.side.layout × (cleared ≡ cleared_of x.destinations) × ((place : ℕ) (d : Component) → IsKeptDestination x place d → HoldsFile s (byte key.file) d))

abbrev pub StageSays : Servers → (ℕ → ℕ → ℕ) → CopyStage → Type 0
StageSays s byte (stage.Fence x next) = Unit {0}
StageSays s byte (stage.Reset x next) = AreEmptied s x next
StageSays s byte (stage.Settle x) = AreEmptied s x (length (resets_of x))
StageSays s byte (stage.Take h) = CopiedSoFar s byte h
StageSays s byte (stage.Put h bytes) = CopiedSoFar s byte h × IsInHand s byte h bytes
StageSays s byte (stage.Done key cleared left) = ClearsCopied s byte key cleared

-- ---- files that are to be taken in

-- while the lease of a side stands its file has no bytes past the settled size
abbrev pub EndsAt : MetaView → (ℕ → ℕ → ℕ) → KeyView → ℕ → Type 0
EndsAt m byte key size = state_of m.leases key ≡ Held → (x : ℕ) → size ≤ x → byte key.file x ≡ 0

-- while both leases stand the files have the same bytes below this end
abbrev pub AreEqualTo : MetaView → (ℕ → ℕ → ℕ) → ComparingView → ℕ → Type 0
AreEqualTo m byte x end = state_of m.leases x.ours.key ≡ Held → state_of m.leases x.theirs.key ≡ Held → (y : ℕ) → y < end → byte x.ours.key.file y ≡ byte x.theirs.key.file y

abbrev pub PairSays : MetaView → (ℕ → ℕ → ℕ) → Pair → Type 0
PairSays m byte p = EndsAt m byte p.comparing.ours.key p.size × EndsAt m byte p.comparing.theirs.key p.size × AreEqualTo m byte p.comparing (chunk_start p.number)

-- while our lease stands, what was read of our chunk are the bytes of our file; nothing was read where it is a hole
abbrev pub IsOurs : MetaView → (ℕ → ℕ → ℕ) → Pair → Option (List ℕ) → Type 0
IsOurs m byte p ours = state_of m.leases p.comparing.ours.key ≡ Held → AreBytes (byte p.comparing.ours.key.file) (chunk_range p.number p.size) (unwrap_or ours [])

-- while both leases stand the files have the same bytes
abbrev pub AreEqual : MetaView → (ℕ → ℕ → ℕ) → KeyView → KeyView → Type 0
AreEqual m byte ours theirs = state_of m.leases ours ≡ Held → state_of m.leases theirs ≡ Held → (y : ℕ) → byte ours.file y ≡ byte theirs.file y

abbrev pub MergeSays : MetaView → (ℕ → ℕ → ℕ) → MergeStage → Type 0
MergeSays m byte (merge.Fence x next) = Unit {0}
MergeSays m byte (merge.Settle x) = Unit {0}
MergeSays m byte (merge.TakeOurs p) = PairSays m byte p
MergeSays m byte (merge.TakeTheirs p ours) = PairSays m byte p × IsOurs m byte p ours
MergeSays m byte (merge.Done ours theirs (Some refusal)) = Unit {0}
MergeSays m byte (merge.Done ours theirs None) = AreEqual m byte ours theirs

-- ---- each call

abbrev pub CopySays : Servers → (ℕ → ℕ → ℕ) → CopyAt → Type 0
CopySays s byte at.Begin = Unit {0}
CopySays s byte (at.Copy next) = StageSays s byte next
CopySays s byte (at.Merge next) = MergeSays s.meta byte next

-- what a call knows of the bytes of files, by who has each byte of a file
abbrev pub Says : Servers → (ℕ → ℕ → ℕ) → Running → Type 0
Says s byte (running.Read call) = ReadSays s.meta byte call.range.start call.at
Says s byte (running.Verify call) = VerifySays s.meta byte call.at
Says s byte (running.Copy call) = CopySays s byte call.at
Says s byte other = Unit {0}
