-- The first piece of a range, and where it ends.
use Rattle.std.specs.Prelude.{◌≡◌, ℕ, ◌+◌, ◌*◌, ◌/◌, ◌<◌, ◌≤◌, Bool, not, ◌&&◌, nat_lt, min, List, ◌∷◌, fold, if◌then◌else◌}
use Rattle.flr_base.specs.declared.reply.Range.{Range}
use Rattle.composite_layout.specs.declared.component.Component.{Component}
use Rattle.composite_layout.specs.Layouts.{Composite, IsValid}
use Rattle.mirror_select.specs.declared.types.Piece.{Piece}
use Rattle.mirror_select.specs.Candidates.{chosen, comes_first, is_usable}
use Rattle.mirror_select.specs.Pieces.{first_without, pieces_by}

-- the components are those of a valid layout
abbrev pub AreValid : List Component → Type 0
AreValid cs = (l : Composite) × IsValid l × (l.components ≡ cs)

-- the piece is the first of the range's, and those of the bytes behind it are the others
pub record IsFirstPiece (cs : List Component) (failed : List ℕ) (range : Range) (piece : Piece) : Type 0 where
  pub some : range.start < piece.range.end
  pub within : piece.range.end ≤ range.end
  pub rest : pieces_by (chosen cs failed) range.start range.end ≡ piece ∷ pieces_by (chosen cs failed) piece.range.end range.end
  pub answered : first_without cs range.start range.end failed ≡ first_without cs piece.range.end range.end failed

-- whether the other component begins behind this byte and then answers in the place of the component
abbrev pub takes_over : List ℕ → Component → ℕ → Component → Bool
takes_over failed c byte other = nat_lt byte other.extent.start && (is_usable failed other && not (comes_first c other))

-- the byte at which the first of them begins, or the end where none does before it
abbrev pub nearest : List ℕ → Component → ℕ → ℕ → List Component → ℕ
nearest failed c byte end cs = fold (λ near other. if takes_over failed c byte other then min near other.extent.start else near) end cs

-- where the piece that begins the range ends: with the range, the stripe unit or the component, or where another component takes over
abbrev pub piece_end : List Component → List ℕ → Component → Range → ℕ
piece_end cs failed c range =
    min (min ((range.start / c.stripe.size + 1) * c.stripe.size) c.extent.end) (nearest failed c range.start range.end cs)
