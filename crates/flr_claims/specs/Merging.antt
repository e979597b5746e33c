-- A file that is taken in by another: what an extend by a victim learnt of the two files, byte by byte, and why it gave up.
use Rattle.std.specs.Prelude.{◌≡◌, ◌⊎◌, ℕ, ◌+◌, ◌<◌, ◌≤◌, true, false, List, [], ◌∷◌, ◌++◌, Contains, None, Some, slice_get, slice_index}
use Rattle.flr_base.specs.declared.reply.FailedCall.{FailedCall}
use Rattle.flr_base.specs.declared.reply.ObjectId.{ObjectId}
use Rattle.composite_layout.specs.declared.component.Component.{Component}
use Rattle.stripe_map.specs.Places.{place_of}
use Rattle.extent_lock.specs.Extents.{writer_but}
use Rattle.mirror_select.specs.Candidates.{has_byte}
use Rattle.object_target.specs.declared.call.CallAnswer.TheVariants as answer
use Rattle.object_target.specs.declared.call.CallKind.TheVariants as kind
use Rattle.meta_server.specs.Closing.{size_of}
use Rattle.meta_server.specs.Files.{File}
use Rattle.flr_steps.specs.States.{State}
use Rattle.flr_steps.specs.Traces.{Made}
use Rattle.flr_claims.specs.Calls.{Call, HaveBegun, IsLeased, IsSettledAt}
use Rattle.flr_claims.specs.Copies.{HasCall, HoldsBytes, IsHole, chunk_start, is_fence}
use Rattle.flr_claims.specs.Failures.{IsLastOf, IsListedFailure, failed_of, is_of, is_unanswered}

-- one of these calls read the byte from the component, where striping places it, and the object held this
pub record IsReadFrom (made : List Made) (c : Component) (x byte : ℕ) : Type 0 where
  pub by : Made
  pub listed : Contains made by
  pub read : by.entry.kind ≡ kind.Read
  pub ok : by.entry.answer ≡ answer.Ok
  pub object : ObjectId
  pub there : slice_get c.objects (place_of x c.stripe).index ≡ Some object
  pub of : is_of object by ≡ true
  pub low : by.entry.offset ≤ (place_of x c.stripe).offset
  pub high : (place_of x c.stripe).offset < by.entry.offset + by.entry.length
  pub byte_is : byte ≡ slice_index by.bytes (place_of x c.stripe).offset

-- ---- the bytes of two files

-- a file has this byte, as the extend learnt it: it was read from a fresh component; or it is zero, since who is to answer it has no objects
pub data IsByteOf (cs : List Component) (made : List Made) (x byte : ℕ) : Type 0 where
  ByRead : (c : Component) → Contains cs c → c.flags.stale ≡ false → has_byte x c ≡ true → IsReadFrom made c x byte → IsByteOf cs made x byte
  ByHole : IsHole cs made x → byte ≡ 0 → IsByteOf cs made x byte

-- both files have the same byte
abbrev pub AreSameAt : List Component → List Component → List Made → ℕ → Type 0
AreSameAt ours theirs made x = (byte : ℕ) × IsByteOf ours made x byte × IsByteOf theirs made x byte

-- the extend began on these two files, and the leases of both stand before its point
pub record AreLeased (k : Call) (f v : File) : Type 0 where
  pub begun : HaveBegun k f v
  pub ours : IsLeased k f.number
  pub theirs : IsLeased k v.number

-- each object of the file that holds its bytes was fenced, with the file's generation, and nobody else wrote to it where the extend settled
pub record IsShutOff (k : Call) (f : File) (settled : State) : Type 0 where
  pub fenced : (c : Component) (o : ObjectId) → HoldsBytes f.layout.components c → Contains c.objects o → HasCall k.did.made kind.Fence o f.layout.generation
  pub alone : (c : Component) (o : ObjectId) → HoldsBytes f.layout.components c → Contains c.objects o → writer_but settled.shared.locks k.client o ≡ None

-- under both leases the extend shut others off from both files, and settled, where the files had these sizes
pub record HaveSizes (k : Call) (f v : File) (ours theirs : ℕ) : Type 0 where
  pub leased : AreLeased k f v
  pub place : ℕ
  pub settled : State
  pub at : IsSettledAt k place settled
  pub our_file : IsShutOff k f settled
  pub their_file : IsShutOff k v settled
  pub our_size : size_of f.number settled.shared.meta ≡ Some ours
  pub their_size : size_of v.number settled.shared.meta ≡ Some theirs

-- the files have the same byte at each place below this end, by the extend's own calls
abbrev pub AreSameBelow : Call → File → File → ℕ → Type 0
AreSameBelow k f v end = (x : ℕ) → x < end → AreSameAt f.layout.components v.layout.components k.did.made x

-- ---- what it answers

-- the files had different sizes
pub record HaveOtherSizes (k : Call) (ours theirs : ℕ) : Type 0 where
  pub f : File
  pub v : File
  pub sizes : HaveSizes k f v ours theirs
  pub differ : ours ≡ theirs → ⊥

-- they had one size, and differ first at this byte, where they have these
pub record DifferFirstAt (k : Call) (x our_byte their_byte : ℕ) : Type 0 where
  pub f : File
  pub v : File
  pub size : ℕ
  pub sizes : HaveSizes k f v size size
  pub within : x < size
  pub differ : our_byte ≡ their_byte → ⊥
  pub our_one : IsByteOf f.layout.components k.did.made x our_byte
  pub their_one : IsByteOf v.layout.components k.did.made x their_byte
  pub first : AreSameBelow k f v x

-- they had one size, and each byte is the same
pub record AreTheSame (k : Call) (f v : File) : Type 0 where
  pub size : ℕ
  pub sizes : HaveSizes k f v size size
  pub same : AreSameBelow k f v size

-- the last call that the extend made is a fence, and failed
pub record HasFenceFailed (k : Call) (call : FailedCall) : Type 0 where
  pub f : File
  pub v : File
  pub leased : AreLeased k f v
  pub front : List Made
  pub last : Made
  pub in_order : k.did.made ≡ front ++ last ∷ []
  pub fence : is_fence last.entry.kind ≡ true
  pub failed : IsListedFailure k.before.script.fails last call

-- nobody is left to answer a chunk of one of the files, up to which they are the same; and this is the last call that failed
pub record HasNoSource (k : Call) (call : FailedCall) : Type 0 where
  pub f : File
  pub v : File
  pub size : ℕ
  pub sizes : HaveSizes k f v size size
  pub number : ℕ
  pub chunk : chunk_start number < size
  pub earlier : AreSameBelow k f v (chunk_start number)
  pub nobody : is_unanswered f.layout.components k.did.made (chunk_start number) ≡ true ⊎ is_unanswered v.layout.components k.did.made (chunk_start number) ≡ true
  pub by : Made
  pub listed : Contains k.did.made by
  pub failed : IsListedFailure k.before.script.fails by call
  pub last : IsLastOf (failed_of k.did.made) call
