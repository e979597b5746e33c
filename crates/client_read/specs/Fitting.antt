-- What a read says of itself, and what it wants of the servers.
use Rattle.std.specs.Prelude.{◌≡◌, ℕ, ◌+◌, ◌<◌, ◌≤◌, List, length, None, is_some, true, false}
use Rattle.flr_base.specs.declared.reply.Range.{Range}
use Rattle.composite_layout.specs.Layouts.{Composite, IsValid}
use Rattle.layout_lease.specs.Clients.{IsClient}
use Rattle.mirror_select.specs.Pieces.{pieces_of}
use Rattle.meta_server.specs.Closing.{holds}
use Rattle.meta_server.specs.Conditions.{MayShare}
use Rattle.call_steps.specs.Servers.{Servers, CanCall, AreThere}
use Rattle.call_steps.specs.Steps.{Outcome, Going, Fixed, Ended, Answered, Blocked}
use Rattle.mirror_select.specs.declared.types.Piece.{Piece}
use Rattle.client_read.specs.declared.phase.ReadAt.{ReadAt}
use Rattle.client_read.specs.declared.phase.ReadAt.TheVariants as at
use Rattle.call_steps.specs.Pieces.{piece_at}
use Rattle.client_read.specs.Reads.{ids_of, read_at, unanswered}
use Rattle.client_read.specs.Views.{ReadView}

-- the pieces are those of the range without the components that failed, by a valid layout; each byte has somebody to answer it
pub record HasPieces (range : Range) (layout : Composite) (failed : List ℕ) (pieces : List Piece) : Type 0 where
  pub valid : IsValid layout
  pub answered : unanswered layout range failed ≡ None
  pub are : pieces ≡ pieces_of layout.components range failed

-- the piece at this place isn't a hole
pub record IsObjectAt (pieces : List Piece) (place : ℕ) : Type 0 where
  pub there : place < length pieces
  pub object : is_some (piece_at pieces place).object ≡ true

-- what a phase says of itself
abbrev pub IsSoundAt : ReadAt → Range → Type 0
IsSoundAt at.Open range = Unit {0}
IsSoundAt (at.Lock x next) range = HasPieces range x.opened.layout (ids_of x.failed) x.pieces × IsObjectAt x.pieces next
IsSoundAt (at.Take x next) range = HasPieces range x.opened.layout (ids_of x.failed) x.pieces × IsObjectAt x.pieces next
IsSoundAt (at.Again x) range = Unit {0}
IsSoundAt (at.Confirm x) range = HasPieces range x.opened.layout (ids_of x.failed) x.pieces
IsSoundAt at.UnlockAgain range = Unit {0}
IsSoundAt at.Unlock range = Unit {0}

-- from 1 to 1048576 bytes, from a first one that a file may have
pub record IsAsked (range : Range) : Type 0 where
  pub some : range.start < range.end
  pub most : range.end ≤ range.start + 1048576
  pub below : range.start ≤ 268435456

-- the read is one of a client, it asks for such bytes, and its phase is sound
pub record IsSoundRead (r : ReadView) : Type 0 where
  pub client : IsClient r.client
  pub asked : IsAsked r.range
  pub phase : IsSoundAt r.at r.range

-- what a phase wants of the servers: who opens a file doesn't share its layout lock, and each object that is read is on a target that is there
abbrev pub FitsAt : ReadAt → ReadView → Servers → Type 0
FitsAt at.Open r s = MayShare r.client r.name s.meta
FitsAt (at.Lock x next) r s = Unit {0}
FitsAt (at.Take x next) r s = AreThere s.targets x.opened.layout.components
FitsAt (at.Again x) r s = Unit {0}
FitsAt (at.Confirm x) r s = Unit {0}
FitsAt at.UnlockAgain r s = Unit {0}
FitsAt at.Unlock r s = Unit {0}

-- what a step of a read wants of the servers
pub record ReadFits (r : ReadView) (s : Servers) : Type 0 where
  pub calls : CanCall s.targets
  pub phase : FitsAt r.at r s

-- the call is answered at once, or a holder is in the way
abbrev pub IsRefused : Outcome ReadView → Type 0
IsRefused (Going next after) = ⊥
IsRefused (Fixed next reply takes after) = ⊥
IsRefused (Ended after) = ⊥
IsRefused (Answered reply takes after) = Unit {0}
IsRefused (Blocked holder) = Unit {0}

-- the steps that take no memory: an open that is refused, a lock that somebody else's is in the way of, what follows a failed take where the cookie is lost, confirm, and those that only give locks back
abbrev pub IsFreeAt : ReadAt → ReadView → Servers → Type 0
IsFreeAt at.Open r s = IsRefused (read_at at.Open r s)
IsFreeAt (at.Lock x next) r s = IsRefused (read_at (at.Lock x next) r s)
IsFreeAt (at.Take x next) r s = ⊥
IsFreeAt (at.Again x) r s = holds x.opened.file x.opened.cookie s.meta ≡ false
IsFreeAt (at.Confirm x) r s = Unit {0}
IsFreeAt at.UnlockAgain r s = Unit {0}
IsFreeAt at.Unlock r s = Unit {0}

abbrev pub TakesNoMemory : ReadView → Servers → Type 0
TakesNoMemory r s = IsFreeAt r.at r s
