-- What whoever reads, writes or cuts a file by its pieces and tails may use of them.
use Rattle.std.specs.Prelude.{◌≡◌, ◌≢◌, ℕ, ◌+◌, ◌-◌, ◌<◌, ◌≤◌, ◌↔◌, ◌⊎◌, true, false, Option, Some, None, is_some, List, map, length, slice_get, All, AllPairs, Contains}
use Rattle.std.specs.List.{AllAdjacentBelow, list_any}
use Rattle.flr_base.specs.declared.reply.ObjectId.{ObjectId}
use Rattle.flr_base.specs.declared.reply.Range.{Range}
use Rattle.stripe_map.specs.Places.{place_of}
use Rattle.stripe_map.specs.Cutting.{Tile, units_of}
use Rattle.composite_layout.specs.declared.component.Component.{Component}
use Rattle.composite_layout.specs.Choices.{is_ready, overlaps}
use Rattle.composite_layout.specs.Layouts.{Composite, IsValid, eof}
use Rattle.mirror_select.specs.declared.types.Piece.{Piece}
use Rattle.mirror_select.specs.Candidates.{chosen, comes_first, has_byte, is_candidate}
use Rattle.mirror_select.specs.Held.{byte_at, held}
use Rattle.mirror_select.specs.Pieces.{are_together, component_of, first_without, pieces_of, ready_mirror, write_pieces_of}
use Rattle.mirror_select.specs.Tails.{StripeObject, ends_above, tail_in, tail_mirror, tail_stripes}

-- the component that answers a byte is the least candidate of the layout
pub record IsChosen (cs : List Component) (failed : List ℕ) (byte : ℕ) (c : Component) : Type 0 where
  pub there : Contains cs c
  pub candidate : is_candidate failed byte c ≡ true
  pub first : (d : Component) → Contains cs d → is_candidate failed byte d ≡ true → comes_first c d ≡ true

-- in a valid layout a component answers a byte exactly where it is the least candidate
abbrev pub ChosenIsLeast : Type 0
ChosenIsLeast =
    (l : Composite) (failed : List ℕ) (byte : ℕ) (c : Component) → IsValid l →
    (chosen l.components failed byte ≡ Some c) ↔ IsChosen l.components failed byte c

-- some component answers a byte exactly where there is a candidate
abbrev pub ChosenIsThere : Type 0
ChosenIsThere =
    (cs : List Component) (failed : List ℕ) (byte : ℕ) →
    is_some (chosen cs failed byte) ≡ list_any (is_candidate failed byte) cs

-- the component has a byte of the piece, in the piece's object as far behind the piece's offset as the byte is behind the piece's first
pub record LiesIn (c : Component) (p : Piece) (x : ℕ) : Type 0 where
  pub covered : has_byte x c ≡ true
  pub object : slice_get c.objects (place_of x c.stripe).index ≡ p.object
  pub offset : (place_of x c.stripe).offset ≡ p.offset + (x - p.range.start)
  pub held : (content : ObjectId → List ℕ) → held content c x ≡ byte_at content p.object (p.offset + (x - p.range.start))

-- one component has all bytes of the piece, by who has each byte, and the piece is a hole exactly where it doesn't have its objects
pub record IsPieceOf (whose : ℕ → Option Component) (c : Component) (p : Piece) : Type 0 where
  pub id : p.component ≡ c.id
  pub object : is_some p.object ≡ c.flags.init
  pub whole : (x : ℕ) → p.range.start ≤ x → x < p.range.end → whose x ≡ Some c
  pub bytes : (x : ℕ) → p.range.start ≤ x → x < p.range.end → LiesIn c p x

-- some component has all bytes of the piece
abbrev pub IsPiece : (ℕ → Option Component) → Piece → Type 0
IsPiece whose p = (c : Component) × IsPieceOf whose c p

-- a piece ends where its component or its stripe unit does, so that the next one can't be joined to it
abbrev pub AreApart : (ℕ → Option Component) → Piece → Piece → Type 0
AreApart whose p q = are_together whose (p.range.end - 1) q.range.start ≡ false

-- what holds of the pieces of a range, by who has each byte: they tile it, in ascending order; they are at most as many as its blocks of 65536; each is one component's; and no two neighbours are one
pub record ArePieces (whose : ℕ → Option Component) (range : Range) (ps : List Piece) : Type 0 where
  pub tile : Tile (map (λ p. p.range) ps) range.start range.end
  pub few : length ps ≤ length (units_of range 65536)
  pub each : All (IsPiece whose) ps
  pub apart : AllAdjacentBelow (AreApart whose) ps (length ps)

-- the pieces of a read, each byte of which has a candidate
abbrev pub ReadPieces : Type 0
ReadPieces =
    (l : Composite) (range : Range) (failed : List ℕ) → IsValid l → range.start ≤ range.end → range.end < eof →
    first_without l.components range.start range.end failed ≡ None →
    ArePieces (chosen l.components failed) range (pieces_of l.components range failed)

-- a component takes writes: it is of the mirror, fresh, has its objects and isn't offline
pub record TakesWrites (mirror : ℕ) (c : Component) : Type 0 where
  pub own : c.mirror ≡ mirror
  pub fresh : c.flags.stale ≡ false
  pub init : c.flags.init ≡ true
  pub online : c.flags.offline ≡ false

-- a range that is ready for a write has a mirror that takes it, all components of which over the range take writes, and those of the others there are stale
abbrev pub ReadyHasMirror : Type 0
ReadyHasMirror =
    (l : Composite) (range : Range) → is_ready l range ≡ true →
    (mirror : ℕ) × (ready_mirror l range ≡ Some mirror) ×
    ((c : Component) → Contains l.components c → overlaps range c ≡ true → TakesWrites mirror c ⊎ ((c.mirror ≢ mirror) × (c.flags.stale ≡ true)))

-- the pieces of a write: those of the mirror that takes it, all of whose components there take writes
abbrev pub WritePieces : Type 0
WritePieces =
    (l : Composite) (range : Range) → IsValid l → is_ready l range ≡ true → range.start ≤ range.end → range.end < eof →
    (mirror : ℕ) × (ready_mirror l range ≡ Some mirror) ×
    ArePieces (component_of l.components (Some mirror)) range (write_pieces_of l range) ×
    All (λ p. (c : Component) × IsPieceOf (component_of l.components (Some mirror)) c p × TakesWrites mirror c) (write_pieces_of l range)

-- the first stripe is of the component with the lower id, or of the same and is the lower one
abbrev pub ComesBefore : StripeObject → StripeObject → Type 0
ComesBefore s t = (s.component.id < t.component.id) ⊎ ((s.component.id ≡ t.component.id) × (s.index < t.index))

-- the stripes with a tail stand in ascending order of component, then of stripe; so none stands there twice
abbrev pub TailsAscend : Type 0
TailsAscend = (l : Composite) (from : ℕ) → IsValid l → AllPairs ComesBefore (tail_stripes l from)

-- a stripe has a tail: its component is of the layout, of the mirror that takes the write, and ends above the byte, and the stripe has this object
pub record HasTail (l : Composite) (from : ℕ) (s : StripeObject) : Type 0 where
  pub there : Contains l.components s.component
  pub ends : ends_above (tail_mirror l from) from s.component ≡ true
  pub object : slice_get s.component.objects s.index ≡ Some s.object

-- exactly the stripes that have a tail stand among them
abbrev pub TailsAreAll : Type 0
TailsAreAll = (l : Composite) (from : ℕ) (s : StripeObject) → IsValid l → Contains (tail_stripes l from) s ↔ HasTail l from s

-- of the bytes of its stripe a tail has exactly those from the given one on
abbrev pub TailCovers : Type 0
TailCovers =
    (l : Composite) (from : ℕ) (s : StripeObject) (x : ℕ) → IsValid l → HasTail l from s →
    (place_of x s.component.stripe).index ≡ s.index →
    ((tail_in from s).offset ≤ (place_of x s.component.stripe).offset) ↔ (from ≤ x)
