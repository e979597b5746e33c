-- What a write says of itself, and what it wants of the servers.
use Rattle.std.specs.Prelude.{◌≡◌, ℕ, ◌+◌, ◌^◌, ◌<◌, ◌≤◌, length, is_some, true}
use Rattle.flr_base.specs.declared.reply.Range.{Range}
use Rattle.composite_layout.specs.Choices.{is_ready}
use Rattle.composite_layout.specs.Layouts.{IsValid}
use Rattle.extent_lock.specs.Extents.{blocker}
use Rattle.layout_lease.specs.Clients.{IsClient}
use Rattle.mirror_select.specs.Pieces.{write_pieces_of}
use Rattle.meta_server.specs.Conditions.{MayShare, HasGenerationRoom, HasObjectRoom}
use Rattle.flr_base.specs.Limits.{most_bytes}
use Rattle.meta_server.specs.Opening.{write_opens}
use Rattle.call_steps.specs.Pieces.{piece_at}
use Rattle.call_steps.specs.Servers.{Servers, CanCall, AreThere}
use Rattle.client_write.specs.declared.phase.Sent.{Sent}
use Rattle.client_write.specs.declared.phase.Sent.TheVariants as sent
use Rattle.client_write.specs.declared.phase.WriteAt.{WriteAt}
use Rattle.client_write.specs.declared.phase.WriteAt.TheVariants as at
use Rattle.client_write.specs.Views.{WritingView}
use Rattle.client_write.specs.Calls.{WriteView}
use Rattle.client_write.specs.Refusals.{IsPlainRefusal}
use Rattle.client_write.specs.Writes.{end_of, lock_for, range_of}

-- the pieces are those of the range, for which the layout is ready, and which ends where a file may
pub record HasPieces (range : Range) (x : WritingView) : Type 0 where
  pub valid : IsValid x.opened.layout
  pub ready : is_ready x.opened.layout range ≡ true
  pub are : x.pieces ≡ write_pieces_of x.opened.layout range
  pub below : range.end ≤ most_bytes

-- where not all pieces are accepted, the next one is one of them; it isn't the first where it is too old
abbrev pub IsSoundSent : WritingView → Sent → Type 0
IsSoundSent x sent.All = Unit {0}
IsSoundSent x (sent.Failed accepted call) = accepted < length x.pieces
IsSoundSent x (sent.Old accepted step) = (0 < accepted) × (accepted < length x.pieces)

-- what a phase says of itself
abbrev pub IsSoundAt : WriteAt → Range → Type 0
IsSoundAt at.Open range = Unit {0}
IsSoundAt (at.Lock x next) range = HasPieces range x × (next < length x.pieces)
IsSoundAt (at.Send x next) range = HasPieces range x × (next < length x.pieces)
IsSoundAt (at.Commit x end came) range = HasPieces range x × IsSoundSent x came × (end ≡ end_of range x came)
IsSoundAt at.UnlockAgain range = Unit {0}
IsSoundAt at.Unlock range = Unit {0}

-- from 1 to 1048576 bytes, to an offset that a script may name
pub record IsAsked (range : Range) : Type 0 where
  pub some : range.start < range.end
  pub most : range.end ≤ range.start + 1048576
  pub below : range.start ≤ 2 ^ 40

-- the write is one of a client, of such bytes, and its phase is sound
pub record IsSoundWrite (w : WriteView) : Type 0 where
  pub client : IsClient w.client
  pub asked : IsAsked (range_of w)
  pub phase : IsSoundAt w.at (range_of w)

-- what a phase wants of the servers: who opens a file doesn't share its layout lock, and generations and object numbers leave room for an intent; each object that is written is on a target that is there
abbrev pub FitsAt : WriteAt → WriteView → Servers → Type 0
FitsAt at.Open w s = MayShare w.client w.name s.meta × HasGenerationRoom s.meta × HasObjectRoom s.meta
FitsAt (at.Lock x next) w s = Unit {0}
FitsAt (at.Send x next) w s = AreThere s.targets x.opened.layout.components
FitsAt (at.Commit x end came) w s = Unit {0}
FitsAt at.UnlockAgain w s = Unit {0}
FitsAt at.Unlock w s = Unit {0}

-- what a step of a write wants of the servers
pub record WriteFits (w : WriteView) (s : Servers) : Type 0 where
  pub calls : CanCall s.targets
  pub phase : FitsAt w.at w s

-- the steps that take no memory: an open that is refused with an answer that names no file, a lock that a holder is in the way of, commit, and those that only give locks back
abbrev pub TakesNoMemory : WriteAt → WriteView → ℕ → Servers → Type 0
TakesNoMemory at.Open w place s = IsPlainRefusal (write_opens w.client w.name (range_of w) place s.meta)
TakesNoMemory (at.Lock x next) w place s = is_some (blocker s.locks (lock_for w (piece_at x.pieces next))) ≡ true
TakesNoMemory (at.Send x next) w place s = ⊥
TakesNoMemory (at.Commit x end came) w place s = Unit {0}
TakesNoMemory at.UnlockAgain w place s = Unit {0}
TakesNoMemory at.Unlock w place s = Unit {0}
