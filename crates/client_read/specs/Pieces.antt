-- The pieces of a read one after another, and what it gets of them.
use Rattle.std.specs.Prelude.{ℕ, ◌+◌, ◌≤◌, Bool, List, [], ◌∷◌, ◌++◌, drop, is_none, if◌then◌else◌}
use Rattle.flr_base.specs.Bytes.{zeros}
use Rattle.flr_base.specs.declared.reply.Take.{Take}
use Rattle.flr_base.specs.declared.reply.TakeFrom.{TakeFrom}
use Rattle.flr_base.specs.declared.reply.TakeFrom.TheVariants.{Hole}
use Rattle.mirror_select.specs.declared.types.Piece.{Piece}
use Rattle.call_steps.specs.Pieces.{piece_at, length_of}
use Rattle.client_read.specs.Got.{GotView}

-- nobody has the piece, so that its bytes are zeros
abbrev pub is_hole : Piece → Bool
is_hole p = is_none p.object

-- how many holes stand first
abbrev pub holes_first : List Piece → ℕ
holes_first [] = 0
holes_first (p ∷ ps) = if is_hole p then holes_first ps + 1 else 0

-- the place of the first piece from this one on that isn't a hole, or behind the last one
abbrev pub next_object : List Piece → ℕ → ℕ
next_object pieces place = place + holes_first (drop place pieces)

-- who answered a piece
abbrev pub take_of : Piece → TakeFrom → Take
take_of p source = record { range = p.range; component = p.component; from = source }

-- what a read has got, with one more piece
abbrev pub with_piece : Piece → List ℕ → TakeFrom → GotView → GotView
with_piece p bytes source got = record { bytes = got.bytes ++ bytes; takes = got.takes ++ take_of p source ∷ [] }

-- what a read has got, with the holes that stand first
abbrev pub with_holes : List Piece → GotView → GotView
with_holes [] got = got
with_holes (p ∷ ps) got = if is_hole p then with_holes ps (with_piece p (zeros (length_of p)) Hole got) else got

-- nothing
abbrev pub nothing_got : GotView
nothing_got = record { bytes = []; takes = [] }

-- each piece has at most 1048576 bytes
abbrev pub AreShort : List Piece → Type 0
AreShort pieces = (place : ℕ) → length_of (piece_at pieces place) ≤ 1048576
