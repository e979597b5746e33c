-- Pieces of a range as the steps of calls use them.
use Rattle.std.specs.Prelude.{◌≡◌, ℕ, ◌+◌, ◌-◌, ◌<◌, ◌≤◌, List, Option, None, Some, unwrap_or, slice_index_or, Contains}
use Rattle.flr_base.specs.declared.reply.ObjectId.{ObjectId}
use Rattle.flr_base.specs.declared.reply.Range.{Range}
use Rattle.composite_layout.specs.declared.component.Component.{Component}
use Rattle.mirror_select.specs.declared.types.Piece.{Piece}

-- a piece by its place; behind the last there is none
abbrev pub piece_at : List Piece → ℕ → Piece
piece_at pieces place = slice_index_or pieces place (record { range = record { start = 0; end = 0 }; component = 0; object = None; offset = 0 })

-- how many bytes a piece has
abbrev pub length_of : Piece → ℕ
length_of p = p.range.end - p.range.start

-- the object that has a piece
abbrev pub object_of : Piece → ObjectId
object_of p = unwrap_or p.object (record { target = 0; number = 0 })

-- the piece has bytes of the range, and lies in its object no further behind than in the file
pub record IsWithin (range : Range) (p : Piece) : Type 0 where
  pub some : p.range.start < p.range.end
  pub low : range.start ≤ p.range.start
  pub high : p.range.end ≤ range.end
  pub offset : p.offset + length_of p ≤ p.range.end

-- the object is one of a component among these
abbrev pub IsNamed : List Component → ObjectId → Type 0
IsNamed components object = (c : Component) × Contains components c × Contains c.objects object
