-- What a step may do to the bytes of objects.
use Rattle.std.specs.Prelude.{◌≡◌, ◌⊎◌, ℕ, ◌+◌, ◌-◌, ◌<◌, ◌≤◌, false, List, [], length, Some, get_or, slice_get}
use Rattle.flr_base.specs.declared.reply.ObjectId.{ObjectId}
use Rattle.mirror_select.specs.declared.types.Piece.{Piece}
use Rattle.mirror_select.specs.Tails.{StripeObject, tail_in, tail_stripes}
use Rattle.object_target.specs.Calls.{is_old}
use Rattle.call_steps.specs.Pieces.{object_of}
use Rattle.call_steps.specs.Servers.{Servers, target_at}
use Rattle.client_write.specs.declared.phase.CutAt.TheVariants as cut
use Rattle.client_write.specs.declared.phase.WriteAt.TheVariants as write
use Rattle.client_write.specs.Calls.{TruncateView, WriteView}
use Rattle.client_write.specs.Views.{CuttingView, WritingView}
use Rattle.client_write.specs.Writes.{bytes_of}
use Rattle.resync_copy.specs.declared.phase.Chunk.{Chunk}
use Rattle.resync_copy.specs.declared.phase.CopyAt.TheVariants as at
use Rattle.resync_copy.specs.declared.phase.CopyStage.TheVariants as stage
use Rattle.resync_copy.specs.Calls.{CopyView}
use Rattle.resync_copy.specs.Copies.{object_at, piece_to}
use Rattle.resync_copy.specs.Views.{CopyingView, resets_of}
use Rattle.flr_steps.specs.declared.client.Running.{Running}
use Rattle.flr_steps.specs.declared.client.Running.TheVariants as running
use Rattle.flr_claims.specs.Honesty.{content}
use Rattle.flr_claims.specs.Sending.{OfTruncate, OfWrite, Part}

-- ---- one object is changed

-- the servers afterwards: the object has these bytes from the offset on, and all else is as it was
pub record AreWritten (s after : Servers) (p : ObjectId) (offset : ℕ) (piece : List ℕ) : Type 0 where
  pub others : (o : ObjectId) → (o ≡ p → ⊥) → content after o ≡ content s o
  pub over : (y : ℕ) → offset ≤ y → y < offset + length piece → get_or (content after p) y 0 ≡ get_or piece (y - offset) 0
  pub beside : (y : ℕ) → (offset ≤ y → y < offset + length piece → ⊥) → get_or (content after p) y 0 ≡ get_or (content s p) y 0

-- the object has no bytes from the offset on
pub record AreCut (s after : Servers) (p : ObjectId) (offset : ℕ) : Type 0 where
  pub others : (o : ObjectId) → (o ≡ p → ⊥) → content after o ≡ content s o
  pub over : (y : ℕ) → offset ≤ y → get_or (content after p) y 0 ≡ 0
  pub below : (y : ℕ) → y < offset → get_or (content after p) y 0 ≡ get_or (content s p) y 0

-- the object has no bytes at all
pub record AreEmpty (s after : Servers) (p : ObjectId) : Type 0 where
  pub others : (o : ObjectId) → (o ≡ p → ⊥) → content after o ≡ content s o
  pub own : content after p ≡ []

-- ---- by which call

-- the object keeps no version above this one
abbrev pub Admits : Servers → ObjectId → ℕ → Type 0
Admits s o version = is_old (target_at s.targets o.target) o.number version ≡ false

-- a write has sent this piece, and it landed
pub record SendsPiece (s after : Servers) (call : Running) : Type 0 where
  pub asked : WriteView
  pub writes : call ≡ running.Write asked
  pub writing : WritingView
  pub next : ℕ
  pub at : asked.at ≡ write.Send writing next
  pub piece : Piece
  pub there : slice_get writing.pieces next ≡ Some piece
  pub admitted : Admits s (object_of piece) writing.opened.layout.generation
  pub long : length (bytes_of asked piece) ≡ piece.range.end - piece.range.start
  pub new : AreWritten s after (object_of piece) piece.offset (bytes_of asked piece)

-- a truncate has punched this tail, and it landed
pub record PunchesTail (s after : Servers) (call : Running) : Type 0 where
  pub asked : TruncateView
  pub truncates : call ≡ running.Truncate asked
  pub cutting : CuttingView
  pub next : ℕ
  pub at : asked.at ≡ cut.Punch cutting next
  pub stripe : StripeObject
  pub there : slice_get (tail_stripes cutting.opened.layout asked.size) next ≡ Some stripe
  pub admitted : Admits s stripe.object cutting.opened.layout.generation
  pub new : AreCut s after stripe.object (tail_in asked.size stripe).offset

-- a copy has reset an object of a destination
pub record ResetsObject (s after : Servers) (call : Running) : Type 0 where
  pub asked : CopyView
  pub copies : call ≡ running.Copy asked
  pub copying : CopyingView
  pub next : ℕ
  pub at : asked.at ≡ at.Copy (stage.Reset copying next)
  pub within : next < length (resets_of copying)
  pub admitted : Admits s (object_at (resets_of copying) next).object copying.side.layout.generation
  pub new : AreEmpty s after (object_at (resets_of copying) next).object

-- a copy has put a chunk into a destination
pub record PutsChunk (s after : Servers) (call : Running) : Type 0 where
  pub asked : CopyView
  pub copies : call ≡ running.Copy asked
  pub chunk : Chunk
  pub bytes : List ℕ
  pub at : asked.at ≡ at.Copy (stage.Put chunk bytes)
  pub admitted : Admits s (object_of (piece_to chunk)) chunk.copying.side.layout.generation
  pub new : AreWritten s after (object_of (piece_to chunk)) (piece_to chunk).offset bytes

-- all objects hold what they held
abbrev pub HoldsStill : Servers → Servers → Type 0
HoldsStill s after = (o : ObjectId) → content after o ≡ content s o

-- a step of a call changes the bytes of one object at most, and only so
abbrev pub Writes : Servers → Servers → Running → Type 0
Writes s after call = HoldsStill s after ⊎ (SendsPiece s after call ⊎ (PunchesTail s after call ⊎ (ResetsObject s after call ⊎ PutsChunk s after call)))

-- ---- a part that lands

-- this part is the one that was sent here
abbrev pub IsThisPart : Servers → Servers → Running → Part → Type 0
IsThisPart s after call (OfWrite piece) = (sends : SendsPiece s after call) × (sends.piece ≡ piece)
IsThisPart s after call (OfTruncate size stripe) = (punches : PunchesTail s after call) × (punches.asked.size ≡ size) × (punches.stripe ≡ stripe)
