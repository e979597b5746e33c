-- The pieces of a read and of a write.
use Rattle.std.specs.Prelude.{◌≡◌, ℕ, ◌+◌, ◌-◌, ◌/◌, Bool, true, false, not, ◌&&◌, nat_eq, nat_lt, Option, Some, None, List, [], ◌∷◌, ◌++◌, filter, slice_get, if◌then◌else◌}
use Rattle.std.specs.List.{list_any, find, range_with_len}
use Rattle.flr_base.specs.declared.reply.Range.{Range}
use Rattle.stripe_map.specs.Places.{place_of}
use Rattle.composite_layout.specs.declared.component.Component.{Component}
use Rattle.composite_layout.specs.Choices.{is_ready_mirror}
use Rattle.composite_layout.specs.Layouts.{Composite}
use Rattle.composite_layout.specs.LookUps.{covers, mirror_ids}
use Rattle.mirror_select.specs.declared.types.Piece.{Piece}
use Rattle.mirror_select.specs.declared.types.PieceError.{PieceError}
use Rattle.mirror_select.specs.declared.types.PieceError.TheVariants as errors
use Rattle.mirror_select.specs.Candidates.{is_candidate, chosen, all_offline}

-- whether two bytes have one component, and lie in one of its stripe units
abbrev pub in_one_unit : ℕ → ℕ → Option Component → Option Component → Bool
in_one_unit x y (Some c) (Some d) = nat_eq c.id d.id && nat_eq (x / c.stripe.size) (y / c.stripe.size)
in_one_unit x y (Some c) None = false
in_one_unit x y None d = false

-- whether two bytes have one component, by who has each byte, and lie in one of its stripe units
abbrev pub are_together : (ℕ → Option Component) → ℕ → ℕ → Bool
are_together whose x y = in_one_unit x y (whose x) (whose y)

-- the first byte of each piece: the first of the range, and each that isn't together with the byte before it
abbrev pub starts_of : (ℕ → Option Component) → ℕ → ℕ → List ℕ
starts_of whose start end =
    if nat_lt start end then start ∷ filter (λ x. not (are_together whose (x - 1) x)) (range_with_len (start + 1) (end - (start + 1))) else []

-- the piece of these bytes, which the component has in one stripe unit
abbrev pub piece_at : Component → ℕ → ℕ → Piece
piece_at c start end = record {
  range = record { start = start; end = end };
  component = c.id;
  object = slice_get c.objects (place_of start c.stripe).index;
  offset = (place_of start c.stripe).offset;
}

-- the piece of these bytes, if some component has them
abbrev pub piece_of : Option Component → ℕ → ℕ → List Piece
piece_of (Some c) start end = piece_at c start end ∷ []
piece_of None start end = []

-- the first of the starts, or the end where there is none
abbrev pub next_start : List ℕ → ℕ → ℕ
next_start [] end = end
next_start (start ∷ starts) end = start

-- the piece from each start up to the next one
abbrev pub pieces_from : (ℕ → Option Component) → List ℕ → ℕ → List Piece
pieces_from whose [] end = []
pieces_from whose (start ∷ starts) end = piece_of (whose start) start (next_start starts end) ++ pieces_from whose starts end

-- the pieces of a range, by who has each byte
unfoldable pub pieces_by : (ℕ → Option Component) → ℕ → ℕ → List Piece
pieces_by whose start end = pieces_from whose (starts_of whose start end) end

-- the pieces of a read: each byte's component is the one that answers it
abbrev pub pieces_of : List Component → Range → List ℕ → List Piece
pieces_of cs range failed = pieces_by (chosen cs failed) range.start range.end

-- the lowest byte of a range without a candidate
unfoldable pub first_without : List Component → ℕ → ℕ → List ℕ → Option ℕ
first_without cs start end failed = find (λ x. not (list_any (is_candidate failed x) cs)) (range_with_len start (end - start))

-- why a read has no pieces: its lowest byte without a candidate; where each byte has one, want of memory
abbrev pub Lacks : List Component → Range → List ℕ → PieceError → Type 0
Lacks cs range failed (errors.AllOffline byte) = (first_without cs range.start range.end failed ≡ Some byte) × (all_offline cs byte ≡ true)
Lacks cs range failed (errors.AllFailed byte) = (first_without cs range.start range.end failed ≡ Some byte) × (all_offline cs byte ≡ false)
Lacks cs range failed errors.NoMemory = first_without cs range.start range.end failed ≡ None

-- the mirror that takes a write of these bytes
abbrev pub ready_mirror : Composite → Range → Option ℕ
ready_mirror l range = find (is_ready_mirror range l.components) (mirror_ids l.components)

-- the mirror's component that has this byte
abbrev pub component_of : List Component → Option ℕ → ℕ → Option Component
component_of cs (Some mirror) byte = find (covers mirror byte) cs
component_of cs None byte = None

-- the pieces of a write: each byte's component is that of the mirror that takes it
abbrev pub write_pieces_of : Composite → Range → List Piece
write_pieces_of l range = pieces_by (component_of l.components (ready_mirror l range)) range.start range.end
